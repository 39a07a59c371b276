-- Keys and what is answered: those that are taken, of each type, and each of the six errors with its values.
use Rattle.std.specs.Prelude.{Err, Some, None, ◌≡◌, refl, [], ◌∷◌, ◌++◌, replicate}
use Rattle.peer_id.specs.declared.VarintError.TheVariants.{BufferTooShort, NonCanonical}
use Rattle.peer_id.specs.Uvarint.{read_uvarint, read_from, group_of}
use Rattle.key.specs.declared.KeyType.TheVariants.{Rsa, Ed25519, Secp256k1, Ecdsa}
use Rattle.key.specs.declared.PublicKeyError.TheVariants.{EmptyInput, InvalidFieldTag, Varint, UnknownKeyType}
use Rattle.key.specs.declared.PublicKeyError.TheVariants.{LengthOverflow, InvalidLength}
use Rattle.key.specs.Decode.{type_of, found, on_total, on_data, decode_protobuf}

-- data of no byte, of one and of 32; a type has no length of its own
pub taken :
    (decode_protobuf (0x08 ∷ 0x00 ∷ 0x12 ∷ 0x00 ∷ []) ≡ found Rsa 4)
    × (decode_protobuf (0x08 ∷ 0x01 ∷ 0x12 ∷ 0x20 ∷ replicate 32 7) ≡ found Ed25519 4)
    × (decode_protobuf (0x08 ∷ 0x02 ∷ 0x12 ∷ 0x00 ∷ []) ≡ found Secp256k1 4)
    × (decode_protobuf (0x08 ∷ 0x03 ∷ 0x12 ∷ 0x01 ∷ 0x00 ∷ []) ≡ found Ecdsa 4)
    × (decode_protobuf (0x08 ∷ 0x00 ∷ 0x12 ∷ 0x80 ∷ 0x01 ∷ replicate 128 7) ≡ found Rsa 5)
unfolding read_uvarint read_from group_of type_of on_total on_data decode_protobuf
taken = (refl, refl, refl, refl, refl)

-- no input; another field first; no type; a type of two bytes; a fifth type
pub no_type :
    (decode_protobuf [] ≡ Err EmptyInput)
    × (decode_protobuf (0x12 ∷ 0x00 ∷ 0x08 ∷ 0x01 ∷ []) ≡ Err (InvalidFieldTag 0x08 (Some 0x12)))
    × (decode_protobuf (0x08 ∷ []) ≡ Err (Varint BufferTooShort))
    × (decode_protobuf (0x08 ∷ 0x81 ∷ 0x00 ∷ 0x12 ∷ 0x00 ∷ []) ≡ Err (Varint NonCanonical))
    × (decode_protobuf (0x08 ∷ 0x04 ∷ 0x12 ∷ 0x00 ∷ []) ≡ Err (UnknownKeyType 4))
unfolding read_uvarint read_from group_of type_of on_total on_data decode_protobuf
no_type = (refl, refl, refl, refl, refl)

-- no data; the type once more; data that are short and that are followed; lengths of 2^63 and of 2^64 - 1
pub no-data :
    (decode_protobuf (0x08 ∷ 0x01 ∷ []) ≡ Err (InvalidFieldTag 0x12 None))
    × (decode_protobuf (0x08 ∷ 0x01 ∷ 0x08 ∷ 0x01 ∷ 0x12 ∷ 0x00 ∷ []) ≡ Err (InvalidFieldTag 0x12 (Some 0x08)))
    × (decode_protobuf (0x08 ∷ 0x01 ∷ 0x12 ∷ []) ≡ Err (Varint BufferTooShort))
    × (decode_protobuf (0x08 ∷ 0x01 ∷ 0x12 ∷ 0x01 ∷ []) ≡ Err (InvalidLength 5 4))
    × (decode_protobuf (0x08 ∷ 0x01 ∷ 0x12 ∷ 0x00 ∷ 0x00 ∷ []) ≡ Err (InvalidLength 4 5))
    × (decode_protobuf (0x08 ∷ 0x01 ∷ 0x12 ∷ (replicate 9 128 ++ (1 ∷ []))) ≡ Err (InvalidLength 9223372036854775821 13))
    × (decode_protobuf (0x08 ∷ 0x01 ∷ 0x12 ∷ (replicate 9 255 ++ (1 ∷ []))) ≡ Err LengthOverflow)
unfolding read_uvarint read_from group_of type_of on_total on_data decode_protobuf
no-data = (refl, refl, refl, refl, refl, refl, refl)
