-- Laws of writing fields: which tags can be written, how long a field is, what a writer answers and leaves, and parts
-- written one after the other.
use Rattle.std.specs.Prelude.{Ok, Err, ℕ, ◌+◌, ◌*◌, ◌≤◌, ◌<◌, ◌≡◌, List, ◌++◌, length, ltb, eqb}
use Rattle.std.proofs.Common.{sym, ◌∙◌, arith, add-zero, length-append, ltb-false}
use Rattle.std.proofs.Math.Path.{ap}
use Rattle.std.proofs.lemmas.List.Edits.{sets}
use Rattle.std.proofs.lemmas.Bool.{eqb-false}
use Rattle.basis.specs.Cases.{either, clash}
use Rattle.basis.specs.Writing.{end_in, set_in}
use Rattle.basis.specs.Unique.{Leaves}
use Rattle.basis.specs.Lists.{sets-append, end_fits, set-fits, answer-fits, answer-short, written-fits, written-short}
use Rattle.peer_id.specs.Uvarint.{uvarint}
use Rattle.peer_id.specs.Laws.{uvarint-small, at_most_ten}
use Rattle.protobuf.specs.declared.Refusal.{Refusal}
use Rattle.protobuf.specs.declared.EncodeError.TheVariants as enc
use Rattle.protobuf.specs.Encode.{tag, varint_field, bytes_field, tag_refused, of_written, answer_of, left_of, encoded}
use Rattle.protobuf.specs.Encode.{left}

-- ---- which tags can be written
pub record CanTag (n type : ℕ) : Type 0 where
  pub some : 1 ≤ n
  pub most : n ≤ 536870911
  pub bits : type ≤ 7

pub fine-tag : (n type : ℕ) → tag_refused n type ≡ Ok tt → CanTag n type
unfolding tag_refused
fine-tag n type e =
    either (eqb n 0) (λ p. let w = simp p at e in clash (cc))
    (λ p. either (ltb 536870911 n) (λ q. let w = simp (p, q) at e in clash (cc))
    (λ q. either (ltb 7 type) (λ r. let w = simp (p, q, r) at e in clash (cc))
    (λ r. let z = eqb-false n 0 p in record { some = omega arith; most = ltb-false _ _ q; bits = ltb-false _ _ r })))

-- ---- how long a field is
pub tag_one : (n type : ℕ) → n ≤ 15 → type ≤ 7 → length (tag n type) ≡ 1
unfolding tag
tag_one n type h t = rw (uvarint-small (n * 8 + type) (omega arith))

pub tag_at-most_ten : (n type : ℕ) → CanTag n type → length (tag n type) ≤ 10
unfolding tag
tag_at-most_ten n type t = at_most_ten (n * 8 + type) (omega arith)

-- the tag of a varint has no bits to add
pub tag-varint : (n : ℕ) → tag n 0 ≡ uvarint (n * 8)
unfolding tag
tag-varint n = rw (add-zero (n * 8))

pub varint_field-length : (n v : ℕ) → length (varint_field n v) ≡ length (tag n 0) + length (uvarint v)
unfolding varint_field
varint_field-length n v = simp length-append

pub bytes_field-length : (n : ℕ) (d : List ℕ)
    → length (bytes_field n d) ≡ length (tag n 2) + length (uvarint (length d))
    + length d
unfolding bytes_field
bytes_field-length n d = simp length-append (omega arith)

-- a field is longer than what it holds
pub field-holds : (n : ℕ) (d : List ℕ) → length d ≤ length (bytes_field n d)
field-holds n d = omega (arith, bytes_field-length n d)

-- the fields 1 and 2 of the same bytes are as long
pub heads_same : (d : List ℕ) → length (bytes_field 1 d) ≡ length (bytes_field 2 d)
heads_same d =
    let t = tag_one 1 2 (omega arith) (omega arith) in
    let u = tag_one 2 2 (omega arith) (omega arith) in
    omega (arith, bytes_field-length 1 d, bytes_field-length 2 d)

-- ---- what a writer of xs answers and leaves: with room for them, without it, and where it has no tag
module _ (n type : ℕ) (xs out : List ℕ) where
  pub encoded-fits : tag_refused n type ≡ Ok tt → length xs ≤ length out → encoded n type xs out ≡ Ok (length xs)
  unfolding encoded
  encoded-fits e h = ap (answer_of xs out) e ∙ ap of_written (answer-fits xs out h)

  pub encoded-short : tag_refused n type ≡ Ok tt → length out < length xs
      → encoded n type xs out ≡ Err (enc.Room (length xs))
  unfolding encoded
  encoded-short e h = ap (answer_of xs out) e ∙ ap of_written (answer-short xs out h)

  pub encoded-refused : (r : Refusal) → tag_refused n type ≡ Err r → encoded n type xs out ≡ Err (enc.Refused r)
  unfolding encoded
  encoded-refused r e = ap (answer_of xs out) e

  pub left-fits : tag_refused n type ≡ Ok tt → length xs ≤ length out → left n type xs out ≡ sets out 0 xs
  unfolding left
  left-fits e h = ap (left_of xs out) e ∙ written-fits xs out h

  pub left-short : tag_refused n type ≡ Ok tt → length out < length xs → left n type xs out ≡ out
  unfolding left
  left-short e h = ap (left_of xs out) e ∙ written-short xs out h

  pub left-refused : (r : Refusal) → tag_refused n type ≡ Err r → left n type xs out ≡ out
  unfolding left
  left-refused r e = ap (left_of xs out) e

-- ---- parts written one after the other
-- xs were written at `at`: they end at `end`, and the lent bytes are `after` then
abbrev pub Put : List ℕ → ℕ → List ℕ → List ℕ → ℕ → Type 0
Put out at xs after end = (end ≡ at + length xs) × (after ≡ sets out at xs)

-- what put_uvarint and put_bytes ensure, where there is room
pub put-fits : (out : List ℕ) (at : ℕ) (xs after : List ℕ) (end : ℕ) → at + length xs ≤ length out
    → Leaves (end_in (length xs) at xs out) (set_in (length xs) at xs out) end after → Put out at xs after end
put-fits out at xs after end h e =
    (e.answer ∙ end_fits (length xs) at xs out h, e.lent ∙ set-fits (length xs) at xs out h)

-- xs, and ys where they end, are xs ++ ys
pub put-append : (out mid after : List ℕ) (at i end : ℕ) (xs ys : List ℕ) → Put out at xs mid i → Put mid i ys after end
    → Put out at (xs ++ ys) after end
put-append out mid after at i end xs ys (pi, pm) (qe, qa) =
    (simp length-append (omega arith), rw (qa, pm, pi) (sym (sets-append out at xs ys)))

-- a tag and a varint are a field
pub put-varint_field : (out o₁ after : List ℕ) (at i end n v : ℕ) → Put out at (tag n 0) o₁ i
    → Put o₁ i (uvarint v) after end → Put out at (varint_field n v) after end
unfolding varint_field
put-varint_field out o₁ after at i end n v p q = put-append out o₁ after at i end (tag n 0) (uvarint v) p q

-- a tag, a length and the bytes are a field
pub put_bytes-field : (out o₁ o₂ after : List ℕ) (at i j end n : ℕ) (d : List ℕ) → Put out at (tag n 2) o₁ i
    → Put o₁ i (uvarint (length d)) o₂ j → Put o₂ j d after end → Put out at (bytes_field n d) after end
unfolding bytes_field
put_bytes-field out o₁ o₂ after at i j end n d p q r =
    put-append out o₁ after at i end (tag n 2) (uvarint (length d) ++ d) p
    (put-append o₁ o₂ after i j end (uvarint (length d)) d q r)
