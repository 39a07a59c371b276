-- What is signed of a message that lists say: the prefix and the fields 1 to 4; a signature and a key, there or not, change nothing. So the bytes to sign that
-- `sign_fields` gives before there is a signature are those that `sign_bytes` finds in every dialect in a body written
-- with any.
use Rattle.std.specs.Prelude.{Ok, ℕ, ◌≤◌, ◌≡◌, length, drop, leb}
use Rattle.std.proofs.Math.Path.{refl, ap}
use Rattle.std.proofs.Common.{sym, subst, ◌∙◌, arith, length-append}
use mathlib.Core.List.{List, ◌∷◌, ◌++◌, map, append-nil}
use Rattle.basis.specs.declared.Mode.TheVariants.{Plain}
use Rattle.basis.specs.declared.Dialect.{Dialect}
use Rattle.basis.specs.Cases.{either}
use Rattle.basis.specs.Writing.{answer, written}
use Rattle.utf8.specs.Grammar.{Utf8}
use Rattle.ids.specs.Ids.{message_at, of_written}
use Rattle.ids.specs.Told.{message_told}
use Rattle.rpc.specs.Rpc.{RawMessage, Rpc}
use Rattle.rpc.specs.Grammar.{Each, IsMessage}
use Rattle.rpc.specs.Encode.{sign_prefix, sign_bytes}
use Rattle.meaning.specs.Decoded.{Within}
use Rattle.canon.proofs.Taken.{taken}
use Rattle.canon.proofs.Written.{sign_written}
use Rattle.canon.specs.Messages.{Nth, here, there}
use Rattle.canonical.specs.Means.{Sized}
use Rattle.canonical.specs.Modes.{unsigned}
use Rattle.canonical.specs.Calls.{found_in}
use Rattle.encode.specs.Sign as body
use Rattle.compose.specs.Lent.{lent_rows}
use Rattle.compose.specs.Said.{encode_fields, encode_message, renewed, messages_in, said}
use Rattle.compose.specs.Weighed.{weighed, first_unfit}
use Rattle.compose.specs.Compose.{lists_of, put_answer, answering, leaving, write_tested, sign_at, signed_at, sign_answer, sign_left}
use Rattle.compose.specs.Told.{composed_told}
use Rattle.compose.specs.Puts.{capped_small}
use Rattle.composed.specs.Means.{message_body_lem}
use Rattle.composed.specs.WrittenRows.{both-fine, passed-of}
use Rattle.composed.specs.Admitted.{weighed-small}

-- ---- what is signed
pub sign_bytes_are : (m : RawMessage) → sign_bytes m ≡ sign_prefix ++ encode_fields m
unfolding sign_bytes encode_fields
sign_bytes_are m = refl

-- and hold no group: after the prefix they are fields of the first mode, of a message with neither signature nor key
pub sign_plain : (m : RawMessage) → Sized (encode_fields m) → Each Utf8 m.topic_ids
    → IsMessage Plain (encode_fields m) (unsigned (encode_fields m) m)
unfolding encode_message encode_fields
sign_plain m k u =
    let b = encode_fields m in
    let e = append-nil b in
    subst (λ (x : List ℕ). IsMessage Plain x (unsigned x m)) e
    (message_body_lem Plain (unsigned b m) (subst Sized (sym e) k) u)

-- two messages with the same from, data, seqno and topics
pub record SameFields (m n : RawMessage) : Type 0 where
  pub from : m.from ≡ n.from
  pub «data» : m.«data» ≡ n.«data»
  pub seqno : m.seqno ≡ n.seqno
  pub topics : m.topic_ids ≡ n.topic_ids

pub same-signed : {m n : RawMessage} → SameFields m n → sign_bytes m ≡ sign_bytes n
unfolding sign_bytes
same-signed {m} {n} s = rw (s.from, s.«data», s.seqno, s.topics)

-- raw bytes that were made anew change nothing
renewed-signed : (m : RawMessage) → sign_bytes m ≡ sign_bytes (renewed m)
unfolding sign_bytes
renewed-signed m = refl

-- ---- sign_fields, of message i of lists that are fine
pub nth_drop : {i : ℕ} {ms : List RawMessage} {m : RawMessage} → Nth i ms m → (r : List RawMessage) × (drop i ms ≡ m ∷ r)
nth_drop (here {xs = xs}) = (xs, refl)
nth_drop (there n) = nth_drop n

nth_renewed : {i : ℕ} {ms : List RawMessage} {m : RawMessage} → Nth i ms m → Nth i (map renewed ms) (renewed m)
nth_renewed here = here
nth_renewed (there n) = there (nth_renewed n)

module _ (t b : List ℕ) (i : ℕ) (m : RawMessage) (h : lists_of t b ≡ Ok tt) (n : Nth i (messages_in b (lent_rows t)) m) where
  pub sign_tells : (out : List ℕ) → sign_answer t b i out ≡ put_answer (sign_bytes m) out
  unfolding sign_answer
  sign_tells out =
      let ms = messages_in b (lent_rows t) in
      let d = nth_drop n in
      ap (answering (sign_at (length ms) (drop i ms) out)) h ∙ ap (λ (l : List RawMessage). sign_at (length ms) l out) d.1

  pub sign_leaves : (out : List ℕ) → sign_left t b i out ≡ written (sign_bytes m) out
  unfolding sign_left
  sign_leaves out =
      let ms = messages_in b (lent_rows t) in
      let d = nth_drop n in
      ap (leaving out (signed_at (drop i ms) out)) h ∙ ap (λ (l : List RawMessage). signed_at l out) d.1

-- ---- sign_bytes in a dialect, of message i of a body that means an RPC within capacity
module _ {d : Dialect} {w : List ℕ} {x : Rpc} (k : Within d w x) (i : ℕ) (m : RawMessage) (n : Nth i x.publish m) where
  body-tells : (out : List ℕ) → body.sign_answer d w i out ≡ of_written (answer (sign_bytes m) out)
  unfolding body.sign_answer
  body-tells out =
      let f = found_in i (message_at d.mode w i) k.means n refl in
      ap (body.sign_checked d.mode w i out) (taken k) ∙ ap (body.sign_at d.mode w out) f.2
      ∙ ap (λ (l : List ℕ). of_written (answer l out)) (sign_written d.mode f.3)

  body-leaves : (out : List ℕ) → body.sign_left d w i out ≡ written (sign_bytes m) out
  unfolding body.sign_left
  body-leaves out =
      let f = found_in i (message_at d.mode w i) k.means n refl in
      ap (body.signed_checked d.mode w i out) (taken k) ∙ ap (body.signed_at d.mode w out) f.2
      ∙ ap (λ (l : List ℕ). written l out) (sign_written d.mode f.3)

-- ---- both tell the same of the same bytes, where a number of the machine counts them
put_told_lem : (xs out : List ℕ) → length xs ≤ 18446744073709551615
    → composed_told (put_answer xs out) ≡ message_told (of_written (answer xs out))
unfolding put_answer answer
put_told_lem xs out h =
    either (leb (length xs) (length out)) (λ t. simp t) (λ t. simp (t, capped_small (length xs) h))

-- 14 bytes more than a message has are signed
sign_small : (m : RawMessage) → length (encode_message m) ≤ 4096 → length (sign_bytes m) ≤ 18446744073709551615
unfolding encode_message
sign_small m h = rw (sign_bytes_are m) (omega (arith, simp length-append at h, length-append sign_prefix (encode_fields m)))

nth_weighed : (flags : ℕ) {i : ℕ} {ms : List RawMessage} {m : RawMessage} → Nth i ms m → first_unfit flags ms ≡ Ok tt
    → weighed flags m ≡ Ok tt
nth_weighed flags (here {x = m} {xs = ms}) h = (both-fine (weighed flags m) (first_unfit flags ms) h).0
nth_weighed flags (there {x = x} {xs = ms} n) h = nth_weighed flags n (both-fine (weighed flags x) (first_unfit flags ms) h).1

-- ---- of two lendings, message i of which has the same from, data, seqno and topics: what `sign_fields` tells and leaves on
-- the first is what `sign_bytes` tells and leaves on a body w of the second, which may be written under some flags
pub signs-alike : (d : Dialect) (flags : ℕ) (t₁ b₁ t₂ b₂ w : List ℕ) (i : ℕ) (m₁ m₂ : RawMessage)
    → lists_of t₁ b₁ ≡ Ok tt → Nth i (messages_in b₁ (lent_rows t₁)) m₁
    → write_tested flags t₂ b₂ ≡ Ok tt → Nth i (messages_in b₂ (lent_rows t₂)) m₂
    → SameFields m₁ m₂ → Within d w (said b₂ (lent_rows t₂)) → (out : List ℕ)
    → (composed_told (sign_answer t₁ b₁ i out) ≡ message_told (body.sign_answer d w i out))
    × (sign_left t₁ b₁ i out ≡ body.sign_left d w i out)
unfolding said
signs-alike d flags t₁ b₁ t₂ b₂ w i m₁ m₂ h₁ n₁ h₂ n₂ s k out =
    let e : sign_bytes m₁ ≡ sign_bytes (renewed m₂) = same-signed s ∙ renewed-signed m₂ in
    let l = sign_small m₂ (weighed-small flags m₂ (nth_weighed flags n₂ (passed-of flags t₂ b₂ h₂).fit)) in
    let l' : length (sign_bytes m₁) ≤ 18446744073709551615 = rw (same-signed s) l in
    let n = nth_renewed n₂ in (
      ap composed_told (sign_tells t₁ b₁ i m₁ h₁ n₁ out) ∙ put_told_lem (sign_bytes m₁) out l'
          ∙ ap (λ (xs : List ℕ). message_told (of_written (answer xs out))) e
          ∙ ap message_told (sym (body-tells k i (renewed m₂) n out)),
      sign_leaves t₁ b₁ i m₁ h₁ n₁ out ∙ ap (λ (xs : List ℕ). written xs out) e
          ∙ sym (body-leaves k i (renewed m₂) n out),
    )
