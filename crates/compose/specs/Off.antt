-- With the flag that allows unsigned messages off, what is weighed, answered and left is what it was before there were flags: each definition that reads them equals
-- the one it was, which stands here. Under any flags a message with a signature is weighed as it was; and flags that are not known are 40, before everything else.
-- The other flag, the mode in which a gateway reads, changes nothing.
use Rattle.std.specs.Prelude.{Option, Some, None, Result, Ok, Err, ℕ, ◌≡◌, refl, Bool, true, false, List, [], ◌∷◌}
use Rattle.std.proofs.Math.Path.{ap}
use Rattle.std.proofs.Common.{ap₂, ◌∙◌}
use Rattle.basis.specs.Cases.{clash}
use Rattle.basis.specs.Writing.{written}
use Rattle.rpc.specs.Rpc.{RawMessage}
use Rattle.rpc.specs.Encode.{encode_rpc}
use Rattle.admission.specs.Flags.{known_flags, allows_unsigned}
use Rattle.compose.specs.declared.Wrong.TheVariants.{BadSetting}
use Rattle.compose.specs.declared.ComposeError.{ComposeError}
use Rattle.compose.specs.declared.Wrong.{Wrong}
use Rattle.compose.specs.Lent.{lent_rows}
use Rattle.compose.specs.Said.{messages_in, said}
use Rattle.compose.specs.Weighed.{and_then, given, from_fine, seqno_fine, signature_fine, key_fine, backed_fine, limits_fine}
use Rattle.compose.specs.Weighed.{weighed, first_unfit}
use Rattle.compose.specs.Compose.{lists_of, put_answer, answering, leaving, length_fine, flags_fine, write_tested}
use Rattle.compose.specs.Compose.{write_answer, write_left}

-- ---- as it was: every message has a signature
unfoldable pub weighed_was : RawMessage → Result (Unit {0}) Wrong
weighed_was m =
    and_then (from_fine m.from)
    (and_then (seqno_fine (given m.seqno))
    (and_then (signature_fine (given m.signature))
    (and_then (key_fine (given m.from) m.key) (limits_fine m))))

abbrev pub unfit_was : List RawMessage → Result (Unit {0}) Wrong
unfit_was [] = Ok tt
unfit_was (m ∷ ms) = and_then (weighed_was m) (unfit_was ms)

unfoldable pub tested_was : List ℕ → List ℕ → Result (Unit {0}) Wrong
tested_was t b =
    and_then (lists_of t b)
    (and_then (unfit_was (messages_in b (lent_rows t))) (length_fine (encode_rpc (said b (lent_rows t)))))

unfoldable pub answer_was : List ℕ → List ℕ → List ℕ → Result ℕ ComposeError
answer_was t b out = answering (put_answer (encode_rpc (said b (lent_rows t))) out) (tested_was t b)

unfoldable pub left_was : List ℕ → List ℕ → List ℕ → List ℕ
left_was t b out = leaving out (written (encode_rpc (said b (lent_rows t))) out) (tested_was t b)

-- ---- a message with a signature, or with the flag off, is weighed so
then_assoc : (a b c : Result (Unit {0}) Wrong) → and_then (and_then a b) c ≡ and_then a (and_then b c)
then_assoc (Ok tt) b c = refl
then_assoc (Err why) b c = refl

backed_off : (u : Bool) (s : List ℕ) (o k : Option (List ℕ)) → u ≡ false → backed_fine u s o k ≡ and_then (signature_fine (given o)) (key_fine s k)
unfolding backed_fine
backed_off u s None k h = rw h
backed_off u s (Some d) k h = refl

backed-signed : (u : Bool) (s : List ℕ) (o k : Option (List ℕ)) (d : List ℕ) → o ≡ Some d
    → backed_fine u s o k ≡ and_then (signature_fine (given o)) (key_fine s k)
unfolding backed_fine
backed-signed u s None k d h = clash (cc)
backed-signed u s (Some e) k d h = refl

module _ (flags : ℕ) (m : RawMessage) where
  weighed-by : backed_fine (allows_unsigned flags) (given m.from) m.signature m.key
      ≡ and_then (signature_fine (given m.signature)) (key_fine (given m.from) m.key)
      → weighed flags m ≡ weighed_was m
  unfolding weighed weighed_was
  weighed-by h =
      ap (λ (l : Result (Unit {0}) Wrong). and_then (from_fine m.from) (and_then (seqno_fine (given m.seqno)) l))
      (ap (λ (l : Result (Unit {0}) Wrong). and_then l (limits_fine m)) h
      ∙ then_assoc (signature_fine (given m.signature)) (key_fine (given m.from) m.key) (limits_fine m))

  pub weighed_off : allows_unsigned flags ≡ false → weighed flags m ≡ weighed_was m
  weighed_off h = weighed-by (backed_off (allows_unsigned flags) (given m.from) m.signature m.key h)

  pub weighed-signed : (d : List ℕ) → m.signature ≡ Some d → weighed flags m ≡ weighed_was m
  weighed-signed d h = weighed-by (backed-signed (allows_unsigned flags) (given m.from) m.signature m.key d h)

-- ---- so are all, and what write_rpc answers and leaves is what it was
pub unfit_off : (flags : ℕ) (ms : List RawMessage) → allows_unsigned flags ≡ false → first_unfit flags ms ≡ unfit_was ms
unfit_off flags [] h = refl
unfit_off flags (m ∷ ms) h = ap₂ and_then (weighed_off flags m h) (unfit_off flags ms h)

module _ (flags : ℕ) (t b : List ℕ) where
  -- 40
  pub tested-unknown : known_flags flags ≡ false → write_tested flags t b ≡ Err BadSetting
  unfolding write_tested flags_fine
  tested-unknown h = simp h

  module _ (known : known_flags flags ≡ true) (off : allows_unsigned flags ≡ false) where
    pub tested_off : write_tested flags t b ≡ tested_was t b
    unfolding write_tested tested_was flags_fine
    tested_off = simp (known, unfit_off flags (messages_in b (lent_rows t)) off)

    pub answer_off : (out : List ℕ) → write_answer flags t b out ≡ answer_was t b out
    unfolding write_answer answer_was
    answer_off out = rw tested_off

    pub left_off : (out : List ℕ) → write_left flags t b out ≡ left_was t b out
    unfolding write_left left_was
    left_off out = rw tested_off

-- ---- known flags that allow the same of unsigned messages are alike, whatever mode is among them
module _ (f g : ℕ) (same : allows_unsigned f ≡ allows_unsigned g) where
  pub weighed-alike : (m : RawMessage) → weighed f m ≡ weighed g m
  unfolding weighed
  weighed-alike m = rw same

  pub unfit-alike : (ms : List RawMessage) → first_unfit f ms ≡ first_unfit g ms
  unfit-alike [] = refl
  unfit-alike (m ∷ ms) = ap₂ and_then (weighed-alike m) (unfit-alike ms)

  module _ (t b : List ℕ) (f-known : known_flags f ≡ true) (g_known : known_flags g ≡ true) where
    pub tested-alike : write_tested f t b ≡ write_tested g t b
    unfolding write_tested flags_fine
    tested-alike = simp (f-known, g_known, unfit-alike (messages_in b (lent_rows t)))

    pub answer-alike : (out : List ℕ) → write_answer f t b out ≡ write_answer g t b out
    unfolding write_answer
    answer-alike out = rw tested-alike

    pub left-alike : (out : List ℕ) → write_left f t b out ≡ write_left g t b out
    unfolding write_left
    left-alike out = rw tested-alike
