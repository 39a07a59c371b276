-- Where the flags allow no unsigned message, a node is what it was before there were flags, in the mode that they name:
-- each definition that reads them equals the one it was, which stands here.
use Rattle.std.specs.Prelude.{Result, Ok, Err, ℕ, ◌≡◌, refl, List, [], ◌∷◌, Bool, true, false, cond, not}
use Rattle.std.proofs.Common.{ap}
use Rattle.basis.specs.declared.Edition.{Edition}
use Rattle.basis.specs.Dialect.{mode_of, spoken}
use Rattle.basis.specs.Cases.{either}
use Rattle.rows.specs.Ids.{among}
use Rattle.protobuf.specs.Walk.{between}
use Rattle.schema.specs.Accept.{accept_of}
use Rattle.ids.specs.Ids.{message_at}
use Rattle.admission.specs.Flags.{allows_unsigned}
use Rattle.admission.specs.Admission.{is_signed}
use Rattle.admission.specs.FlagLaws.{admission_was, admission_off}
use Rattle.seen.specs.Entries.{holds, inserted, live}
use Rattle.mcache.specs.Messages.{put}
use Rattle.node.specs.declared.Node.{Node}
use Rattle.protobuf.specs.declared.Refusal.{Refusal}
use Rattle.basis.specs.declared.Fault.{Fault}
use Rattle.node.specs.declared.AdmitError.TheVariants as admit
use Rattle.node.specs.Gateway.{Gateway, form_of, is_new, after_admit, lacking}
use Rattle.node.specs.Calls.{lent_of, on_lent, Plan, no, plan_fit, plan_at, plan_body, planned, unseen_from, known_in}
use Rattle.node.specs.Laws.{Takes}
use Rattle.node.specs.Marks.{knows_off}
use Rattle.admission.specs.AdmissionLaws.{fit-signed}

-- ---- of a gateway: ids are seen under mark byte 1
unfoldable pub is_new_was : ℕ → List ℕ → Gateway → Bool
is_new_was at id g = not (holds (1 ∷ id) (live at g.seen))

unfoldable pub after_admit_was : ℕ → List ℕ → List ℕ → Gateway → Gateway
after_admit_was at message id g =
    record {
      ttl = g.ttl;
      max_seen = g.max_seen;
      history_len = g.history_len;
      max_messages = g.max_messages;
      flags = g.flags;
      clock = at;
      seen = inserted g.max_seen (1 ∷ id) at g.ttl (live at g.seen);
      cache = cond (is_new_was at id g) (put g.max_messages id message g.cache) g.cache;
    }

unfoldable pub lacking_was : Gateway → List (List ℕ) → List (List ℕ)
lacking_was g [] = []
lacking_was g (i ∷ is) = cond (holds (1 ∷ i) g.seen) (lacking_was g is) (i ∷ lacking_was g is)

-- a message with a signature is seen as it was
module _ (at : ℕ) (m id : List ℕ) (g : Gateway) (signed : is_signed (mode_of g.flags) m ≡ true) where
  pub new_was : is_new at m id g ≡ is_new_was at id g
  unfolding is_new is_new_was
  new_was = rw signed

  pub admit_was : after_admit at m id g ≡ after_admit_was at m id g
  unfolding after_admit after_admit_was is_new is_new_was
  admit_was = rw signed

pub lacking_off : (g : Gateway) (is : List (List ℕ)) → allows_unsigned g.flags ≡ false
    → lacking g is ≡ lacking_was g is
unfolding lacking lacking_was
lacking_off g [] h = refl
lacking_off g (i ∷ is) h = rw (knows_off g i h, lacking_off g is h)

-- ---- of the calls: what an admit takes
abbrev pub plan_at_was : Node → ℕ → Bool → List ℕ → Result (ℕ × ℕ) ℕ → Plan
plan_at_was n at word body (Err k) = no (Err (admit.NoMessage k))
plan_at_was n at word body (Ok (a, e)) =
    plan_fit n at (between body a e) (admission_was (mode_of n.cache.flags) (between body a e) word)

abbrev pub plan_body_was : Node → ℕ → Bool → List ℕ → ℕ → Result (Unit {0}) Refusal → Plan
plan_body_was n at word body i (Err why) = no (Err (admit.Refused why))
plan_body_was n at word body i (Ok _) = plan_at_was n at word body (message_at (mode_of n.cache.flags) body i)

unfoldable pub planned_was : Node → List ℕ → List ℕ → Edition → List ℕ → ℕ → Bool → ℕ → Plan
planned_was n ss cs ed body i word at =
    on_lent (λ (why : Fault). no (Err (admit.Faulty why))) (lent_of n ss cs)
    (plan_body_was n at word body i (accept_of (spoken (mode_of n.cache.flags) ed) body))

unfoldable pub unseen_was : List (List ℕ) → List (List ℕ) → List (List ℕ)
unseen_was seen [] = []
unseen_was seen (i ∷ is) = cond (among (1 ∷ i) seen) (unseen_was seen is) (i ∷ unseen_was seen is)

module _ (n : Node) (off : allows_unsigned n.cache.flags ≡ false) where
  at_was : (at : ℕ) (word : Bool) (body : List ℕ) (r : Result (ℕ × ℕ) ℕ) → plan_at n at word body r ≡ plan_at_was n at word body r
  at_was at word body (Err k) = refl
  at_was at word body (Ok (a, e)) =
      ap (plan_fit n at (between body a e)) (admission_off n.cache.flags (between body a e) word off)

  body_was : (at : ℕ) (word : Bool) (body : List ℕ) (i : ℕ) (r : Result (Unit {0}) Refusal)
      → plan_body n at word body i r ≡ plan_body_was n at word body i r
  body_was at word body i (Err why) = refl
  body_was at word body i (Ok _) = at_was at word body (message_at (mode_of n.cache.flags) body i)

  pub planned_off : (ss cs : List ℕ) (ed : Edition) (body : List ℕ) (i : ℕ) (word : Bool) (at : ℕ)
      → planned n ss cs ed body i word at ≡ planned_was n ss cs ed body i word at
  unfolding planned planned_was
  planned_off ss cs ed body i word at = rw (body_was at word body i
      (accept_of (spoken (mode_of n.cache.flags) ed) body))

  -- what is taken has a signature, so that it is seen as it was
  pub takes-signed : {ss cs : List ℕ} {ed : Edition} {body : List ℕ} {i : ℕ} {word : Bool} {at : ℕ} {m id : List ℕ}
      → Takes n ss cs ed body i word at m id → (is_signed (mode_of n.cache.flags) m ≡ true)
      × (form_of (mode_of n.cache.flags) m id ≡ 1 ∷ id)
  takes-signed {word = word} {m = m} {id = id} t =
      let s = fit-signed n.cache.flags m word t.from_start t.from_end t.seqno-start t.seqno-end
      t.fit off in
      (s, rw s)

pub unseen_off : (flags : ℕ) (seen is : List (List ℕ)) → allows_unsigned flags ≡ false
    → unseen_from flags seen is ≡ unseen_was seen is
unfolding unseen_from unseen_was known_in
unseen_off flags seen [] h = refl
unseen_off flags seen (i ∷ is) h =
    either (among (1 ∷ i) seen) (λ t. rw (t, unseen_off flags seen is h)) (λ t. rw (t, h, unseen_off flags seen is h))
