-- Rows of the scope's table of bodies, as far as one field goes, and readings of its refusals.
use Rattle.std.specs.Prelude.{Ok, Err, Some, None, ◌≡◌, refl, [], ◌∷◌, ◌++◌, replicate}
use Rattle.basis.specs.declared.Mode.{Mode}
use Rattle.basis.specs.declared.Mode.TheVariants.{Plain, Groups}
use Rattle.peer_id.specs.declared.VarintError.TheVariants.{BufferTooShort, NonCanonical}
use Rattle.peer_id.specs.Uvarint.{read_uvarint, read_from, group_of}
use Rattle.utf8.specs.Utf8.{is_utf8, run}
use Rattle.protobuf.specs.declared.WireError.TheVariants.{Varint, FieldOverflow, UnsupportedWireType}
use Rattle.protobuf.specs.declared.WireError.TheVariants.{InvalidFieldNumber, InvalidUtf8}
use Rattle.protobuf.specs.declared.WireError.TheVariants.{EndGroup, GroupDepth, GroupOpen}
use Rattle.protobuf.specs.Field.{read_tag, read_len, read_string, read_varint, skip_fixed, skip_value, passed}
use Rattle.protobuf.specs.Field.{skip_from, skip_group, skip_field, read_value, read_field}

pub rows : (mode : Mode) →
    (read_field mode [] 0 ≡ Ok None)
    × (read_field mode (0x80 ∷ []) 0 ≡ Err (Varint BufferTooShort 0))
    × (read_field mode (0x80 ∷ 0 ∷ []) 0 ≡ Err (Varint NonCanonical 0))
    × (read_field mode (0 ∷ []) 0 ≡ Err (InvalidFieldNumber 0 0))
    × (read_field mode (3 ∷ []) 0 ≡ Err (InvalidFieldNumber 0 0))
    × (read_field mode (0x0e ∷ []) 0 ≡ Err (UnsupportedWireType 6 1))
    × (read_field mode (0x0a ∷ 5 ∷ 8 ∷ []) 0 ≡ Err (FieldOverflow 2 5 1))
    × (read_field mode (0x08 ∷ []) 0 ≡ Err (Varint BufferTooShort 1))
    × (read_field mode (0x09 ∷ []) 0 ≡ Err (FieldOverflow 1 8 0))
    × (read_field mode (0x0d ∷ 0 ∷ []) 0 ≡ Err (FieldOverflow 1 4 1))
    × (read_field mode (0x0a ∷ replicate 9 0xff ++ (1 ∷ [])) 0 ≡ Err (FieldOverflow 11 18446744073709551615 0))
    × (read_string (0x12 ∷ 1 ∷ 0xff ∷ []) 1 ≡ Err (InvalidUtf8 1))
    × (read_string (0x12 ∷ 2 ∷ 0xff ∷ []) 1 ≡ Err (FieldOverflow 2 2 1))
    × (read_tag (0xf8 ∷ 0xff ∷ 0xff ∷ 0xff ∷ 0x0f ∷ 0 ∷ []) 0 ≡ Ok (Some (536870911, 0, 5)))
    × (read_tag (0x80 ∷ 0x80 ∷ 0x80 ∷ 0x80 ∷ 0x10 ∷ []) 0 ≡ Err (InvalidFieldNumber 536870912 0))
unfolding read_uvarint read_from group_of is_utf8 run read_tag read_len read_string read_varint skip_fixed skip_value passed
    skip_field read_value read_field
rows Plain = (refl, refl, refl, refl, refl, refl, refl, refl, refl, refl, refl, refl, refl, refl, refl)
rows Groups = (refl, refl, refl, refl, refl, refl, refl, refl, refl, refl, refl, refl, refl, refl, refl)

-- types 3 and 4, in both modes
pub rows-groups :
    (read_field Plain (0x0b ∷ 0x0c ∷ []) 0 ≡ Err (UnsupportedWireType 3 1))
    × (read_field Plain (0x0c ∷ []) 0 ≡ Err (UnsupportedWireType 4 1))
    × (read_field Groups (0x0b ∷ 0x10 ∷ 0x96 ∷ 0x01 ∷ 0x0c ∷ 0x1a ∷ 0x00 ∷ []) 0
    ≡ Ok (Some (record { field = 1; wire_type = 3; tag_end = 1; value = 0; start = 1; next = 5 })))
    × (read_field Groups (0x83 ∷ 0x01 ∷ 0x84 ∷ 0x01 ∷ []) 0
    ≡ Ok (Some (record { field = 16; wire_type = 3; tag_end = 2; value = 0; start = 2; next = 4 })))
    × (read_field Groups (0x0c ∷ []) 0 ≡ Err EndGroup)
    × (read_field Groups (0x0b ∷ 0x14 ∷ []) 0 ≡ Err EndGroup)
    × (read_field Groups (0x0b ∷ 0x13 ∷ 0x0c ∷ []) 0 ≡ Err EndGroup)
    × (read_field Groups (0x0b ∷ []) 0 ≡ Err GroupOpen)
    × (read_field Groups (replicate 32 0x0b) 0 ≡ Err GroupOpen)
    × (read_field Groups (replicate 32 0x0b ++ replicate 32 0x0c) 0
    ≡ Ok (Some (record { field = 1; wire_type = 3; tag_end = 1; value = 0; start = 1; next = 64 })))
    × (read_field Groups (replicate 33 0x0b) 0 ≡ Err GroupDepth)
    × (read_field Groups (replicate 33 0x0b ++ replicate 33 0x0c) 0 ≡ Err GroupDepth)
    × (read_field Groups (replicate 32 0x0b ++ (0x03 ∷ [])) 0 ≡ Err (InvalidFieldNumber 0 32))
    × (read_field Groups (0x0b ∷ 0x04 ∷ []) 0 ≡ Err (InvalidFieldNumber 0 1))
    × (read_field Groups (0x0b ∷ 0x0e ∷ []) 0 ≡ Err (UnsupportedWireType 6 2))
    × (read_field Groups (0x0b ∷ 0x0a ∷ 0x05 ∷ 0x08 ∷ []) 0 ≡ Err (FieldOverflow 3 5 1))
    × (read_field Groups (0x0b ∷ 0x08 ∷ []) 0 ≡ Err (Varint BufferTooShort 2))
    × (read_field Groups (0x0b ∷ 0x80 ∷ []) 0 ≡ Err (Varint BufferTooShort 1))
    × (read_field Groups (0x0b ∷ 0x8c ∷ 0x00 ∷ []) 0 ≡ Err (Varint NonCanonical 1))
unfolding read_uvarint read_from group_of read_tag read_len read_varint skip_fixed skip_value passed skip_from skip_group skip_field
    read_value read_field
rows-groups =
    (refl, refl, refl, refl, refl, refl, refl, refl, refl, refl, refl, refl, refl, refl, refl, refl, refl, refl, refl)
