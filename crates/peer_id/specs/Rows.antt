-- Worked examples of the encoding document, the largest value, and varints of ten bytes. And bytes that are a peer id
-- or none.
use Rattle.std.specs.Prelude.{Ok, Err, Some, None, ◌≡◌, refl, [], ◌∷◌, ◌++◌, replicate}
use Rattle.peer_id.specs.declared.VarintError.TheVariants.{BufferTooShort, Overflow, NonCanonical}
use Rattle.peer_id.specs.declared.PeerId.TheVariants as who
use Rattle.peer_id.specs.Uvarint.{uvarint, bytes_of, read_uvarint, read_from, group_of}
use Rattle.peer_id.specs.PeerId.{hash_of, from_bytes}

pub rows :
    (uvarint 150 ≡ 0x96 ∷ 0x01 ∷ [])
    × (uvarint 18446744073709551615 ≡ replicate 9 255 ++ (1 ∷ []))
    × (read_uvarint (replicate 9 255 ++ (1 ∷ [])) ≡ Ok (18446744073709551615, 10))
    × (read_uvarint (replicate 9 128 ++ (1 ∷ [])) ≡ Ok (9223372036854775808, 10))
    × (read_uvarint (replicate 9 128 ++ (0 ∷ [])) ≡ Err NonCanonical)
    × (read_uvarint (replicate 9 128 ++ (2 ∷ [])) ≡ Err Overflow)
    × (read_uvarint (replicate 9 128 ++ (128 ∷ 1 ∷ [])) ≡ Err Overflow)
    × (read_uvarint (replicate 9 128) ≡ Err BufferTooShort)
    × (read_uvarint [] ≡ Err BufferTooShort)
unfolding uvarint bytes_of read_uvarint read_from group_of
rows = (refl, refl, refl, refl, refl, refl, refl, refl, refl)

-- identities of no byte, of 42 and of 43; SHA-256 digests of 32 bytes, and of 31 and 33; another code; a code and a
-- size of two bytes; a byte too many; nothing, and a letter
pub peer-ids :
    (from_bytes (0x00 ∷ 0x00 ∷ []) ≡ Some who.Identity)
    × (from_bytes (0x00 ∷ 0x2a ∷ replicate 42 7) ≡ Some who.Identity)
    × (from_bytes (0x00 ∷ 0x2b ∷ replicate 43 7) ≡ None)
    × (from_bytes (0x12 ∷ 0x20 ∷ replicate 32 7) ≡ Some who.Sha256)
    × (from_bytes (0x12 ∷ 0x20 ∷ replicate 31 7) ≡ None)
    × (from_bytes (0x12 ∷ 0x21 ∷ replicate 33 7) ≡ None)
    × (from_bytes (0x11 ∷ 0x14 ∷ replicate 20 7) ≡ None)
    × (from_bytes (0x80 ∷ 0x00 ∷ 0x00 ∷ []) ≡ None)
    × (from_bytes (0x00 ∷ 0x80 ∷ 0x00 ∷ []) ≡ None)
    × (from_bytes (0x00 ∷ 0x00 ∷ 0x00 ∷ []) ≡ None)
    × (from_bytes [] ≡ None)
    × (from_bytes (0x41 ∷ []) ≡ None)
unfolding hash_of from_bytes
peer-ids = (refl, refl, refl, refl, refl, refl, refl, refl, refl, refl, refl, refl)
