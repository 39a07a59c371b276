-- What the calls answer and leave, case by case: bytes that were measured and put; one test after the other.
use Prim.Native.Nat.{ℕ, ◌+◌, ◌*◌, ◌/◌, ◌≤◌, ◌<◌}
use mathlib.Core.Path.{◌≡◌, refl, sym, ap, ◌∙◌}
use mathlib.Core.Bool.{Bool, true, false}
use mathlib.Core.List.{List, ◌∷◌}
use native.Mathlib.Omega.{arith}
use lib.ListN.{length, drop, drop_of_length-le}
use borrow.Author.Tests.{lt-ltb, le-ltb, le-leb, lt-leb}
use Rattle.std.specs.Prelude.{Result, Ok, Err}
use Rattle.basis.specs.Cases.{either, clash}
use Rattle.basis.specs.Unique.{Leaves}
use Rattle.basis.specs.Writing.{written}
use Rattle.basis.specs.Lists.{written-fits, written-short}
use Rattle.rpc.specs.Encode.{encode_rpc, sign_bytes}
use Rattle.admission.specs.Flags.{known_flags}
use Rattle.message.specs.Rows.{record_from}
use Rattle.compose.specs.declared.Wrong.{Wrong}
use Rattle.compose.specs.declared.Wrong.TheVariants.{BadSetting, NotLent, TooLong}
use Rattle.compose.specs.declared.ComposeError.TheVariants as compose
use Rattle.compose.specs.declared.ComposeError.{ComposeError}
use Rattle.compose.specs.Lent.{rows_from, lent_rows, is_code, lent_well, Inside}
use Rattle.compose.specs.Said.{messages_in, message_of, said}
use Rattle.compose.specs.Weighed.{capped, first_unfit}
use Rattle.compose.specs.Compose.{lists_of, put_answer, answering, leaving, length_fine, flags_fine, write_tested, write_answer, write_left, sign_answer, sign_left}
use Rattle.compose.specs.Puts.{Puts, capped_small, capped-bound, capped-below, FindsRow, found, missing}
use Rattle.compose.specs.Laws.{lent-inside}
use Rattle.compose.proofs.Tests.{cond_yes, cond_no, then_on, then-stop}

-- ---- bytes that were measured: where there is no room, and where they were put
module _ (xs out : List ℕ) (len : ℕ) (e : len ≡ capped (length xs)) where
  pub too_short : length out < len → Leaves (put_answer xs out) (written xs out) (Err (compose.Room len)) out
  unfolding put_answer
  too_short h =
      let c = capped-bound (length xs) in
      record {
        answer = simp (lt-leb (length xs) (length out) (omega arith), e);
        lent = sym (written-short xs out (omega arith));
      }

  pub all-put : (after : List ℕ) (end : ℕ) → len ≤ length out → length out < 18446744073709551615 → Puts out 0 xs after end
      → Leaves (put_answer xs out) (written xs out) (Ok len) after
  unfolding put_answer
  all-put after end h g p =
      let n = capped-below (length xs) (length out) g (omega arith) in
      let s : len ≡ length xs = e ∙ capped_small (length xs) (omega arith) in
      record {
        answer = simp (le-leb (length xs) (length out) n, s);
        lent = p.holds (omega arith) (omega arith) ∙ sym (written-fits xs out n);
      }

  -- 13
  pub too_long : 65536 < len
      → Leaves (answering (put_answer xs out) (length_fine xs)) (leaving out (written xs out) (length_fine xs)) (Err (compose.Refused (TooLong len))) out
  unfolding length_fine
  too_long h =
      let c = capped-bound (length xs) in
      let t = lt-ltb 65536 (length xs) (omega arith) in
      record { answer = simp (t, e); lent = simp t }

  pub not-long : len ≤ 65536 → (r : Result ℕ ComposeError) (after : List ℕ) → Leaves (put_answer xs out) (written xs out) r after
      → Leaves (answering (put_answer xs out) (length_fine xs)) (leaving out (written xs out) (length_fine xs)) r after
  unfolding length_fine
  not-long h r after p =
      let n = capped-below (length xs) 65536 (omega arith) (omega arith) in
      let t = le-ltb 65536 (length xs) n in
      record { answer = simp t p.answer; lent = simp t p.lent }

-- ---- lists that pass their tests lie within the bytes
pub lists-inside : (t b : List ℕ) → Ok tt ≡ lists_of t b → Inside t b
unfolding lists_of
lists-inside t b e =
    either (lent_well t b) (λ w. lent-inside t b w)
    (λ w. let z : Err NotLent ≡ Ok tt = cond_no _ _ refl w ∙ sym e in clash (cc))

-- ---- write_rpc
module _ (flags : ℕ) (t b out : List ℕ) {known : Bool} (d : known ≡ known_flags flags) where
  write_refused : {why : Wrong} → write_tested flags t b ≡ Err why
      → Leaves (write_answer flags t b out) (write_left flags t b out) (Err (compose.Refused why)) out
  unfolding write_answer write_left
  write_refused h = record { answer = simp h; lent = simp h }

  -- 40
  pub write_flags : known ≡ false → Leaves (write_answer flags t b out) (write_left flags t b out) (Err (compose.Refused BadSetting)) out
  unfolding write_tested flags_fine
  write_flags h = let e = sym d ∙ h in write_refused (simp e)

  -- 42, 7, 11
  module _ (g : known ≡ true) where
    flags_on : Ok tt ≡ flags_fine flags
    unfolding flags_fine
    flags_on = cond_yes _ _ d g

    pub write_lists : {why : Wrong} → Err why ≡ lists_of t b → Leaves (write_answer flags t b out) (write_left flags t b out) (Err (compose.Refused why)) out
    unfolding write_tested
    write_lists e = write_refused (sym (then-stop _ e ∙ then_on _ flags_on))

    module _ (e : Ok tt ≡ lists_of t b) where
      pub write_unfit : {why : Wrong} → Err why ≡ first_unfit flags (messages_in b (lent_rows t))
          → Leaves (write_answer flags t b out) (write_left flags t b out) (Err (compose.Refused why)) out
      unfolding write_tested
      write_unfit f = write_refused (sym (then-stop _ f ∙ then_on _ e ∙ then_on _ flags_on))

      pub write_fit : Ok tt ≡ first_unfit flags (messages_in b (lent_rows t)) → (r : Result ℕ ComposeError) (after : List ℕ)
          → Leaves (answering (put_answer (encode_rpc (said b (lent_rows t))) out) (length_fine (encode_rpc (said b (lent_rows t)))))
          (leaving out (written (encode_rpc (said b (lent_rows t))) out) (length_fine (encode_rpc (said b (lent_rows t))))) r after
          → Leaves (write_answer flags t b out) (write_left flags t b out) r after
      unfolding write_answer write_left write_tested
      write_fit f r after p =
          let w = then_on _ f ∙ then_on _ e ∙ then_on _ flags_on in
          record {
            answer = p.answer ∙ ap (answering (put_answer (encode_rpc (said b (lent_rows t))) out)) w;
            lent = p.lent ∙ ap (leaving out (written (encode_rpc (said b (lent_rows t))) out)) w;
          }

-- ---- the row of a message
pub row-found : (t b : List ℕ) (index i : ℕ) → FindsRow t b index (Ok i)
    → (i < length t / 20) × (is_code 2 (record_from t (i * 20)) ≡ true)
    × (drop index (messages_in b (lent_rows t)) ≡ message_of b (record_from t (i * 20)) (rows_from t (i + 1)) ∷ messages_in b (rows_from t (i + 1)))
row-found t b index _ (found h k e) = (h, k, e)

-- ---- sign_fields
module _ (t b : List ℕ) (index : ℕ) (out : List ℕ) where
  pub sign_lists : {why : Wrong} → Err why ≡ lists_of t b → Leaves (sign_answer t b index out) (sign_left t b index out) (Err (compose.Refused why)) out
  unfolding sign_answer sign_left
  sign_lists e = let w = sym e in record { answer = simp w; lent = simp w }

  module _ (e : Ok tt ≡ lists_of t b) where
    pub sign_missing : {why : Wrong} → FindsRow t b index (Err why) → Leaves (sign_answer t b index out) (sign_left t b index out) (Err (compose.Refused why)) out
    unfolding sign_answer sign_left
    sign_missing (missing f h) =
        let w = sym e in
        let d = drop_of_length-le (messages_in b (lent_rows t)) {i = index} (omega arith) in
        record { answer = simp (w, d, f); lent = simp (w, d) }

    pub sign_found : (i : ℕ) → FindsRow t b index (Ok i) → (a : Result ℕ ComposeError) (after : List ℕ)
        → Leaves (put_answer (sign_bytes (message_of b (record_from t (i * 20)) (rows_from t (i + 1)))) out)
        (written (sign_bytes (message_of b (record_from t (i * 20)) (rows_from t (i + 1)))) out) a after
        → Leaves (sign_answer t b index out) (sign_left t b index out) a after
    unfolding sign_answer sign_left
    sign_found i f a after p =
        let w = sym e in
        let m = row-found t b index i f in
        record { answer = simp (w, m.2) p.answer; lent = simp (w, m.2) p.lent }
