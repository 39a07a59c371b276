-- Bodies that are refused, with the place: where a varint is bad, in the body and in its submessages; where a field
-- passes the end; and for each of the nine paths of 1.1 but those of an iwant and a graft. Between them stand two
-- controls, of which the second is refused, and a varint that is short in its part and not in the body. Bodies that the
-- editions do not read alike, both readings beside each other. And bodies with groups.
use Rattle.std.specs.Prelude.{Some, Result, Ok, Err, ℕ, ◌≡◌, refl, [], ◌∷◌, ◌++◌, replicate}
use Rattle.basis.specs.declared.Edition.{Edition}
use Rattle.basis.specs.declared.Edition.TheVariants.{V11, V12}
use Rattle.basis.specs.declared.Mode.{Mode}
use Rattle.basis.specs.declared.Mode.TheVariants.{Plain, Groups}
use Rattle.basis.specs.Dialect.{spoken}
use Rattle.peer_id.specs.declared.VarintError.TheVariants.{BufferTooShort, Overflow, NonCanonical}
use Rattle.peer_id.specs.Uvarint.{read_uvarint, read_from, group_of}
use Rattle.utf8.specs.Utf8.{is_utf8, run}
use Rattle.protobuf.specs.declared.WireError.{WireError}
use Rattle.protobuf.specs.declared.WireError.TheVariants.{Varint, FieldOverflow, UnsupportedWireType}
use Rattle.protobuf.specs.declared.WireError.TheVariants.{InvalidFieldNumber, InvalidUtf8}
use Rattle.protobuf.specs.declared.WireError.TheVariants.{EndGroup, GroupDepth, GroupOpen}
use Rattle.protobuf.specs.declared.Refusal.{Refusal}
use Rattle.protobuf.specs.Refusal.{nowhere}
use Rattle.protobuf.specs.Field.{read_tag, read_len, read_varint, skip_fixed, skip_value, passed, skip_from}
use Rattle.protobuf.specs.Field.{skip_group, skip_field, read_value, read_field}
use Rattle.protobuf.specs.Walk.{walk_from, walk_at}
use Rattle.schema.specs.Schema.{role_of, rank, own_of}
use Rattle.schema.specs.Kinds.{to_depth, over_kinds}
use Rattle.schema.specs.Count.{text_count, counted}
use Rattle.schema.specs.Spots.{text_spot, spot_in}
use Rattle.schema.specs.Accept.{body_records}

-- a refusal, its offset, and the fields that enclose it
abbrev at : WireError → ℕ → ℕ → ℕ → ℕ → Result ℕ Refusal
at why offset outer middle inner =
    Err (record { why = why; spot = Some (record { offset = offset; outer = outer; middle = middle; inner = inner }) })

pub rows : (e : Edition) →
    (body_records (spoken Plain e) (0x80 ∷ []) ≡ at (Varint BufferTooShort 0) 0 0 0 0)
    × (body_records (spoken Plain e) (0x80 ∷ 0x00 ∷ []) ≡ at (Varint NonCanonical 0) 0 0 0 0)
    × (body_records (spoken Plain e) (replicate 9 0x80 ++ (2 ∷ [])) ≡ at (Varint Overflow 0) 0 0 0 0)
    × (body_records (spoken Plain e) (0x00 ∷ []) ≡ at (InvalidFieldNumber 0 0) 0 0 0 0)
    × (body_records (spoken Plain e) (0x0b ∷ []) ≡ at (UnsupportedWireType 3 1) 1 0 0 0)
    × (body_records (spoken Plain e) (0x0a ∷ 0x05 ∷ 0x08 ∷ []) ≡ at (FieldOverflow 2 5 1) 2 0 0 0)
    × (body_records (spoken Plain e) (0x08 ∷ []) ≡ at (Varint BufferTooShort 1) 1 0 0 0)
    × (body_records (spoken Plain e) (0x0a ∷ []) ≡ at (Varint BufferTooShort 1) 1 0 0 0)
    × (body_records (spoken Plain e) (0x09 ∷ []) ≡ at (FieldOverflow 1 8 0) 1 0 0 0)
    × (body_records (spoken Plain e) (0x0a ∷ 0x00 ∷ 0x0b ∷ []) ≡ at (UnsupportedWireType 3 3) 3 0 0 0)
    × (body_records (spoken Plain e) (0x0a ∷ 0x01 ∷ 0x80 ∷ 0x0b ∷ []) ≡ at (Varint BufferTooShort 0) 2 1 0 0)
    × (body_records (spoken Plain e) (0x0a ∷ 0x01 ∷ 0x80 ∷ 0x01 ∷ []) ≡ at (Varint BufferTooShort 0) 2 1 0 0)
    × (body_records (spoken Plain e) (0x0a ∷ 0x01 ∷ 0x08 ∷ 0x0a ∷ 0x00 ∷ []) ≡ at (Varint BufferTooShort 1) 3 1 0 0)
    × (body_records (spoken Plain e) (0x0a ∷ 0x03 ∷ 0x12 ∷ 0x01 ∷ 0xff ∷ []) ≡ at (InvalidUtf8 1) 3 1 0 0)
    × (body_records (spoken Plain e) (0x12 ∷ 0x03 ∷ 0x22 ∷ 0x01 ∷ 0xff ∷ []) ≡ at (InvalidUtf8 1) 3 2 0 0)
    × (body_records (spoken Plain e) (0x12 ∷ 0x80 ∷ 0x01 ∷ 0x12 ∷ 0x7b ∷ replicate 123 0 ++ (0x22 ∷ 0x01 ∷ 0xff ∷ []))
    ≡ at (InvalidUtf8 126) 129 2 0 0)
    × (body_records (spoken Plain e) (0x1a ∷ 0x00 ∷ 0x1a ∷ 0x01 ∷ 0x80 ∷ []) ≡ at (Varint BufferTooShort 0) 4 3 0 0)
    × (body_records (spoken Plain e) (0x1a ∷ 0x05 ∷ 0x0a ∷ 0x03 ∷ 0x0a ∷ 0x01 ∷ 0xff ∷ []) ≡ at (InvalidUtf8 1) 5 3 1 0)
    × (body_records (spoken Plain e) (0x1a ∷ 0x04 ∷ 0x22 ∷ 0x02 ∷ 0x12 ∷ 0x05 ∷ []) ≡ at (FieldOverflow 2 5 0) 6 3 4 0)
    × (body_records (spoken Plain e) (0x1a ∷ 0x06 ∷ 0x22 ∷ 0x04 ∷ 0x12 ∷ 0x02 ∷ 0x0a ∷ 0x05 ∷ [])
    ≡ at (FieldOverflow 2 5 0) 8 3 4 2)
    × (body_records (spoken Plain e) (0x1a ∷ 0x05 ∷ 0x22 ∷ 0x03 ∷ 0x12 ∷ 0x01 ∷ 0x0b ∷ [])
    ≡ at (UnsupportedWireType 3 1) 7 3 4 2)
    × (body_records (spoken Plain e) (0x1a ∷ 0x05 ∷ 0x22 ∷ 0x03 ∷ 0x12 ∷ 0x01 ∷ 0x00 ∷ [])
    ≡ at (InvalidFieldNumber 0 0) 6 3 4 2)
unfolding read_uvarint read_from group_of is_utf8 run read_tag read_len read_varint skip_fixed skip_value skip_field read_value
    read_field walk_from walk_at role_of rank own_of text_count text_spot to_depth over_kinds counted spot_in body_records
rows e =
    (refl, refl, refl, refl, refl, refl, refl, refl, refl, refl, refl, refl, refl, refl, refl, refl, refl, refl, refl, refl, refl, refl)

-- in 1.1 a control's field 5 is skipped; in 1.2 each entry and each id is a record, and the path is 3 5
pub rows-editions : (mode : Mode) →
    (body_records (spoken mode V11) (0x1a ∷ 0x03 ∷ 0x2a ∷ 0x01 ∷ 0x80 ∷ []) ≡ Ok 0)
    × (body_records (spoken mode V12) (0x1a ∷ 0x03 ∷ 0x2a ∷ 0x01 ∷ 0x80 ∷ []) ≡ at (Varint BufferTooShort 0) 4 3 5 0)
    × (body_records (spoken mode V11) (0x1a ∷ 0x05 ∷ 0x2a ∷ 0x03 ∷ 0x0a ∷ 0x02 ∷ 0x41 ∷ []) ≡ Ok 0)
    × (body_records (spoken mode V12) (0x1a ∷ 0x05 ∷ 0x2a ∷ 0x03 ∷ 0x0a ∷ 0x02 ∷ 0x41 ∷ [])
    ≡ at (FieldOverflow 2 2 1) 6 3 5 0)
    × (body_records (spoken mode V11) (0x1a ∷ 0x05 ∷ 0x2a ∷ 0x03 ∷ 0x0a ∷ 0x01 ∷ 0xff ∷ []) ≡ Ok 0)
    × (body_records (spoken mode V12) (0x1a ∷ 0x05 ∷ 0x2a ∷ 0x03 ∷ 0x0a ∷ 0x01 ∷ 0xff ∷ []) ≡ Ok 2)
    × (body_records (spoken mode V11) (0x1a ∷ 0x07 ∷ 0x2a ∷ 0x03 ∷ 0x0a ∷ 0x01 ∷ 0x41 ∷ 0x22 ∷ 0x00 ∷ []) ≡ Ok 1)
    × (body_records (spoken mode V12) (0x1a ∷ 0x07 ∷ 0x2a ∷ 0x03 ∷ 0x0a ∷ 0x01 ∷ 0x41 ∷ 0x22 ∷ 0x00 ∷ []) ≡ Ok 3)
    × (body_records (spoken mode V11) (0x1a ∷ 0x02 ∷ 0x2a ∷ 0x00 ∷ 0x1a ∷ 0x02 ∷ 0x22 ∷ 0x00 ∷ []) ≡ Ok 1)
    × (body_records (spoken mode V12) (0x1a ∷ 0x02 ∷ 0x2a ∷ 0x00 ∷ 0x1a ∷ 0x02 ∷ 0x22 ∷ 0x00 ∷ []) ≡ Ok 2)
    × (body_records (spoken mode V11) (0x1a ∷ 0x02 ∷ 0x28 ∷ 0x07 ∷ []) ≡ Ok 0)
    × (body_records (spoken mode V12) (0x1a ∷ 0x02 ∷ 0x28 ∷ 0x07 ∷ []) ≡ Ok 0)
    × (body_records (spoken mode V11) (0x1a ∷ 0x04 ∷ 0x2a ∷ 0x02 ∷ 0x10 ∷ 0x07 ∷ []) ≡ Ok 0)
    × (body_records (spoken mode V12) (0x1a ∷ 0x04 ∷ 0x2a ∷ 0x02 ∷ 0x10 ∷ 0x07 ∷ []) ≡ Ok 1)
unfolding read_uvarint read_from group_of is_utf8 run read_tag read_len read_varint skip_fixed skip_field read_value read_field
    walk_from walk_at role_of rank own_of text_count text_spot to_depth over_kinds counted spot_in body_records
rows-editions mode = (refl, refl, refl, refl, refl, refl, refl, refl, refl, refl, refl, refl, refl, refl)

-- groups, where they are passed over
pub rows-groups : (e : Edition) →
    (body_records (spoken Groups e) (0x0b ∷ 0x0c ∷ []) ≡ Ok 0)
    × (body_records (spoken Groups e) (0x1b ∷ 0x1c ∷ []) ≡ Ok 0)
    × (body_records (spoken Groups e) (0x83 ∷ 0x01 ∷ 0x84 ∷ 0x01 ∷ []) ≡ Ok 0)
    × (body_records (spoken Groups e) (0x0b ∷ 0x13 ∷ 0x14 ∷ 0x0c ∷ []) ≡ Ok 0)
    × (body_records (spoken Groups e) (0x0b ∷ []) ≡ Err (nowhere GroupOpen))
    × (body_records (spoken Groups e) (0x0b ∷ 0x08 ∷ 0x01 ∷ []) ≡ Err (nowhere GroupOpen))
    × (body_records (spoken Groups e) (0x1a ∷ 0x01 ∷ 0x0b ∷ 0x0c ∷ []) ≡ Err (nowhere GroupOpen))
    × (body_records (spoken Groups e) (0x0c ∷ []) ≡ Err (nowhere EndGroup))
    × (body_records (spoken Groups e) (0x0b ∷ 0x14 ∷ []) ≡ Err (nowhere EndGroup))
    × (body_records (spoken Groups e) (0x0b ∷ 0x13 ∷ 0x0c ∷ []) ≡ Err (nowhere EndGroup))
    × (body_records (spoken Groups e) (0x0b ∷ 0x0c ∷ 0x0c ∷ []) ≡ Err (nowhere EndGroup))
    × (body_records (spoken Groups e) (0x12 ∷ 0x01 ∷ 0x0c ∷ []) ≡ Err (nowhere EndGroup))
    × (body_records (spoken Groups e) (0x0a ∷ 0x01 ∷ 0x0c ∷ 0x80 ∷ []) ≡ Err (nowhere EndGroup))
    × (body_records (spoken Groups e) (replicate 32 0x0b ++ replicate 32 0x0c) ≡ Ok 0)
    × (body_records (spoken Groups e) (0x1a ∷ 0x40 ∷ replicate 32 0x0b ++ replicate 32 0x0c) ≡ Ok 0)
    × (body_records (spoken Groups e) (replicate 33 0x0b) ≡ Err (nowhere GroupDepth))
    × (body_records (spoken Groups e) (replicate 33 0x0b ++ replicate 33 0x0c) ≡ Err (nowhere GroupDepth))
    × (body_records (spoken Groups e) (replicate 32 0x0b ++ (0x03 ∷ [])) ≡ at (InvalidFieldNumber 0 32) 32 0 0 0)
    × (body_records (spoken Groups e) (replicate 32 0x0b) ≡ Err (nowhere GroupOpen))
    × (body_records (spoken Groups e) (0x0b ∷ 0x04 ∷ []) ≡ at (InvalidFieldNumber 0 1) 1 0 0 0)
    × (body_records (spoken Groups e) (0x0b ∷ 0x0e ∷ []) ≡ at (UnsupportedWireType 6 2) 2 0 0 0)
    × (body_records (spoken Groups e) (0x0b ∷ 0x0a ∷ 0x05 ∷ 0x08 ∷ []) ≡ at (FieldOverflow 3 5 1) 3 0 0 0)
    × (body_records (spoken Groups e) (0x0b ∷ 0x08 ∷ []) ≡ at (Varint BufferTooShort 2) 2 0 0 0)
    × (body_records (spoken Groups e) (0x0b ∷ 0x80 ∷ []) ≡ at (Varint BufferTooShort 1) 1 0 0 0)
    × (body_records (spoken Groups e) (0x0b ∷ 0x8c ∷ 0x00 ∷ []) ≡ at (Varint NonCanonical 1) 1 0 0 0)
    × (body_records (spoken Groups e) (0x12 ∷ 0x02 ∷ 0x0b ∷ 0x0c ∷ []) ≡ Ok 1)
    × (body_records (spoken Plain e) (0x12 ∷ 0x02 ∷ 0x0b ∷ 0x0c ∷ []) ≡ at (UnsupportedWireType 3 1) 3 2 0 0)
    × (body_records (spoken Groups e) (0x12 ∷ 0x08 ∷ 0x0a ∷ 0x01 ∷ 0x42 ∷ 0x0b ∷ 0x0a ∷ 0x01 ∷ 0x41 ∷ 0x0c ∷ [])
    ≡ Ok 1)
    × (body_records (spoken Groups e) (0x1a ∷ 0x02 ∷ 0x0b ∷ 0x0c ∷ []) ≡ Ok 0)
    × (body_records (spoken Groups e) (0x0a ∷ 0x05 ∷ 0x0b ∷ 0x12 ∷ 0x01 ∷ 0xff ∷ 0x0c ∷ []) ≡ Ok 1)
    × (body_records (spoken Groups e) (0x0b ∷ 0x10 ∷ 0x96 ∷ 0x01 ∷ 0x0c ∷ 0x1a ∷ 0x00 ∷ []) ≡ Ok 0)
    × (body_records (spoken Groups e) (0x2a ∷ 0x01 ∷ 0x0b ∷ []) ≡ Ok 0)
unfolding read_uvarint read_from group_of is_utf8 run read_tag read_len read_varint skip_fixed skip_value passed skip_from skip_group
    skip_field read_value read_field walk_from walk_at role_of rank own_of text_count text_spot to_depth over_kinds counted spot_in
    body_records
rows-groups e =
    (refl, refl, refl, refl, refl, refl, refl, refl, refl, refl, refl, refl, refl, refl, refl, refl, refl, refl, refl, refl, refl, refl, refl, refl, refl, refl, refl, refl, refl, refl, refl, refl)
