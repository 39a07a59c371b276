-- Which case it is: of a tag, of the second field and of the first, and of a type.
use Prim.Native.Nat.{ℕ, ◌+◌, ◌-◌, ◌≤◌, ◌<◌}
use mathlib.Core.Path.{◌≡◌, ap, ◌∙◌}
use mathlib.Core.List.{List}
use mathlib.Core.Bool.{true, false}
use native.Mathlib.Omega.{arith}
use lib.ListN.{length, take, drop, get_or, length-drop}
use lib.Dec.{ltb, leb, eqb}
use lib.Seq.{take_all}
use borrow.Author.Tests.{eq-eqb, eqb-true, leb-false, lt-leb}
use Rattle.std.specs.Prelude.{Result, Ok, Err}
use Rattle.basis.specs.Cases.{either, clash, of-ok}
use Rattle.peer_id.specs.Uvarint.{read_uvarint}
use Rattle.peer_id.specs.Laws.{used}
use Rattle.key.specs.declared.KeyType.{KeyType}
use Rattle.key.specs.declared.PublicKeyError.TheVariants.{EmptyInput}
use Rattle.key.specs.declared.PublicKeyError.{PublicKeyError}
use Rattle.peer_id.specs.declared.VarintError.{VarintError}
use Rattle.key.specs.Decode.{known, on_tag, on_size, on_data, on_type, decode_protobuf}

-- ---- a tag: it stands there, or whatever follows is refused
abbrev tagged : List ℕ → ℕ → ℕ → Result (Unit {0}) PublicKeyError
tagged s at tag = on_tag s at tag (Ok tt)

pub tag_there : (s : List ℕ) (at tag : ℕ) → Ok tt ≡ tagged s at tag → (at < length s) × (get_or s at 0 ≡ tag)
tag_there s at tag h =
    either (leb (length s) at) (λ x. clash (let k = simp x at h in cc))
    (λ x. either (eqb (get_or s at 0) tag) (λ y. (leb-false (length s) at x, eqb-true (get_or s at 0) tag y))
    (λ y. clash (let k = simp (x, y) at h in cc)))

pub tag_else : {A : Type 0} (s : List ℕ) (at tag : ℕ) (why : PublicKeyError) (r : Result A PublicKeyError)
    → Err why ≡ tagged s at tag → Err why ≡ on_tag s at tag r
tag_else s at tag why r h =
    either (leb (length s) at) (λ x. simp x (ap Err (let k = simp x at h in cc)))
    (λ x. either (eqb (get_or s at 0) tag) (λ y. clash (let k = simp (x, y) at h in cc))
    (λ y. simp (x, y) (ap Err (let k = simp (x, y) at h in cc))))

-- ---- a varint in the rest of the input
rest_of : (s : List ℕ) (at : ℕ) → take (length s - at) (drop at s) ≡ drop at s
rest_of s at = take_all (length s - at) (drop at s) (rw (length-drop at s) (omega arith))

pub read-within : (s : List ℕ) (at v n : ℕ) → Ok (v, n) ≡ read_uvarint (take (length s - at) (drop at s))
    → at + n ≤ length s
read-within s at v n e = (used s at v n (e ∙ ap read_uvarint (rest_of s at))).1

-- ---- the second field
module _ (s : List ℕ) (t : KeyType) (at : ℕ) where
  pub data_tag : (why : PublicKeyError) → Err why ≡ tagged s at 0x12 → Err why ≡ on_data s t at
  unfolding on_data
  data_tag why h = tag_else s at 0x12 why _ h

  pub data_read : (u : Result (ℕ × ℕ) VarintError) → Ok tt ≡ tagged s at 0x12
      → u ≡ read_uvarint (take (length s - (at + 1)) (drop (at + 1) s)) → on_size (length s) t (at + 1) u ≡ on_data s t at
  unfolding on_data
  data_read u h e =
      let k = tag_there s at 0x12 h in
      ap (on_size (length s) t (at + 1)) (e ∙ ap read_uvarint (rest_of s (at + 1)))
      ∙ simp (lt-leb (length s) at k.0, eq-eqb (get_or s at 0) 0x12 k.1)

-- ---- the first field
pub key_none : (s : List ℕ) → eqb (length s) 0 ≡ true → Err EmptyInput ≡ decode_protobuf s
unfolding decode_protobuf
key_none s h = simp h

module _ (s : List ℕ) (z : eqb (length s) 0 ≡ false) where
  pub key_tag : (why : PublicKeyError) → Err why ≡ tagged s 0 0x08 → Err why ≡ decode_protobuf s
  unfolding decode_protobuf
  key_tag why h = simp z (tag_else s 0 0x08 why _ h)

  pub key-read : (u : Result (ℕ × ℕ) VarintError) → Ok tt ≡ tagged s 0 0x08
      → u ≡ read_uvarint (take (length s - 1) (drop 1 s)) → on_type s u ≡ decode_protobuf s
  unfolding decode_protobuf
  key-read u h e =
      let k = tag_there s 0 0x08 h in
      ap (on_type s) (e ∙ ap read_uvarint (rest_of s 1))
      ∙ simp (z, lt-leb (length s) 0 k.0, eq-eqb (get_or s 0 0) 0x08 k.1)

-- ---- the number of a type
pub known-else : (s : List ℕ) (n used : ℕ) (why : PublicKeyError) → Err why ≡ known n → Err why ≡ on_type s (Ok (n, used))
known-else s n used why h =
    either (ltb 3 n) (λ x. simp x (ap Err (let k = simp x at h in cc))) (λ x. clash (let k = simp x at h in cc))

pub known-then : (s : List ℕ) (n used : ℕ) (t : KeyType) → Ok t ≡ known n → on_data s t (1 + used) ≡ on_type s (Ok (n, used))
known-then s n used t h =
    either (ltb 3 n) (λ x. clash (let k = simp x at h in cc))
    (λ x. simp x (ap (λ (k : KeyType). on_data s k (1 + used)) (of-ok (simp x at h))))
