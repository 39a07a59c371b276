-- Unsigned varints, from the Protocol Buffers encoding document, "Base 128 Varints": groups of seven bits, the low
-- group first, each byte but the last with 128 added.
use Rattle.std.specs.Prelude.{Result, Ok, Err, ℕ, zero, suc, ◌+◌, ◌*◌, ◌/◌, ◌%◌, List, [], ◌∷◌, cond, ltb, leb, eqb}
use Rattle.peer_id.specs.declared.VarintError.TheVariants.{BufferTooShort, Overflow, NonCanonical}
use Rattle.peer_id.specs.declared.Group.{Group}
use Rattle.peer_id.specs.declared.Group.TheVariants as group
use Rattle.peer_id.specs.declared.VarintError.{VarintError}

-- the bytes of n; the first number only bounds the recursion, and n itself is always enough
unfoldable pub bytes_of : ℕ → ℕ → List ℕ
bytes_of zero n = n ∷ []
bytes_of (suc f) n = let r = bytes_of f (n / 128) in cond (ltb n 128) (n ∷ []) ((n % 128 + 128) ∷ r)

-- the minimal encoding of n
unfoldable pub uvarint : ℕ → List ℕ
uvarint n = bytes_of n n

-- what the byte b says, with k bytes before it: a tenth byte above 1 is an overflow, and a last byte 0 after others is
-- not minimal
unfoldable pub group_of : ℕ → ℕ → Result Group VarintError
group_of k b =
    cond (eqb k 9)
    (cond (ltb 1 b) (Err Overflow) (cond (eqb b 0) (Err NonCanonical) (Ok group.Last)))
    (cond (leb 128 b) (Ok group.More)
    (cond (eqb b 0) (cond (eqb k 0) (Ok group.Last) (Err NonCanonical)) (Ok group.Last)))

-- the group of b below what the bytes after it gave
abbrev pub below : ℕ → Result (ℕ × ℕ) VarintError → Result (ℕ × ℕ) VarintError
below b (Ok (v, n)) = Ok (b % 128 + 128 * v, 1 + n)
below b (Err why) = Err why

abbrev pub on_group : Result Group VarintError → ℕ → Result (ℕ × ℕ) VarintError → Result (ℕ × ℕ) VarintError
on_group (Ok group.More) b r = below b r
on_group (Ok group.Last) b r = Ok (b, 1)
on_group (Err why) b r = Err why

-- reading with k bytes passed; input that ends inside a varint is too short
unfoldable pub read_from : ℕ → List ℕ → Result (ℕ × ℕ) VarintError
read_from k [] = Err BufferTooShort
read_from k (b ∷ s) = on_group (group_of k b) b (read_from (k + 1) s)

unfoldable pub read_uvarint : List ℕ → Result (ℕ × ℕ) VarintError
read_uvarint s = read_from 0 s
