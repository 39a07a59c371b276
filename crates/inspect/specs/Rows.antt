-- Lines, worked out: `1 walk refused 4 2 5 1 at 2` for the scope's body `0a 05 08`, `12 varint 300 2`, `3 utf8 no`,
-- and no line for kind 12.
use Rattle.std.specs.Prelude.{◌≡◌, refl, [], ◌∷◌, ◌++◌, replicate, Some, None}
use Rattle.basis.specs.declared.Edition.{Edition}
use Rattle.basis.specs.declared.Edition.TheVariants.{V11, V12}
use Rattle.basis.specs.declared.Mode.{Mode}
use Rattle.basis.specs.declared.Mode.TheVariants.{Groups}
use Rattle.basis.specs.declared.Dialect.{Dialect}
use Rattle.basis.specs.Dialect.{edition_of, mode_of, spoken, dialect_of}
use Rattle.basis.specs.Refusals.{malformed, invalid_utf8}
use Rattle.basis.specs.Told.{told, done}
use Rattle.basis.specs.Little.{little}
use Rattle.text.specs.Line.{width, decimal, number, numbers, refused, hex}
use Rattle.peer_id.specs.Uvarint.{read_uvarint, read_from, group_of}
use Rattle.peer_id.specs.PeerId.{hash_of, from_bytes}
use Rattle.key.specs.Decode.{type_of, on_total, on_data, decode_protobuf}
use Rattle.utf8.specs.Utf8.{is_utf8, run}
use Rattle.protobuf.specs.Field.{read_tag, read_len, read_varint, skip_fixed, skip_value, passed, skip_from, skip_group}
use Rattle.protobuf.specs.Field.{skip_field, read_value, read_field, walk_step}
use Rattle.protobuf.specs.Walk.{walk_from, walk_at}
use Rattle.schema.specs.Schema.{role_of, rank, own_of}
use Rattle.schema.specs.Kinds.{to_depth, over_kinds}
use Rattle.schema.specs.Count.{text_count, counted}
use Rattle.schema.specs.Spots.{text_spot, spot_in}
use Rattle.schema.specs.Accept.{body_records}
use Rattle.schema.specs.Slots.{set_place, with_field, slots_of, has_field}
use Rattle.message.specs.Rows.{own_rows, rows_of}
use Rattle.message.specs.Told.{decoded_told}
use Rattle.message.specs.Decode.{has_control, decode_answer}
use Rattle.lines.specs.Lines.{fields_text, spot_text, refusal_line, shown_text, bytes_line, made_line}
use Rattle.inspect.specs.Lists.{word_if, fields_words, fields_end, words_by, words_end, row_end, rows_end, rows_words, lists_in}
use Rattle.inspect.specs.Made.{write_line, tosign_line}
use Rattle.inspect.specs.Records.{bytes_text, place_text, count_text, flag_text, sub_text, message_text, prune_text}
use Rattle.inspect.specs.Records.{record_text, record_line, lines_of, decoded_text, decode_line}
use Rattle.inspect.specs.Senders.{key_text, peer_id_text, key_answer, peer_answer}
use Rattle.inspect.specs.Answers.{walk, varint, walk_answer, spoken_answer, varint_answer, utf8_answer, answer_to}
use Rattle.inspect.specs.Answers.{closed, line_of}

pub rows :
    (line_of 1 5 (replicate 8 0 ++ (0x0a ∷ 0x05 ∷ 0x08 ∷ [])) ≡ 49 ∷ 32 ∷ 119 ∷ 97 ∷ 108 ∷ 107 ∷ 32 ∷ 114 ∷ 101 ∷ 102
    ∷ 117 ∷ 115 ∷ 101 ∷ 100 ∷ 32 ∷ 52 ∷ 32 ∷ 50 ∷ 32 ∷ 53 ∷ 32 ∷ 49 ∷ 32 ∷ 97 ∷ 116 ∷ 32 ∷ 50 ∷ 10 ∷ [])
    × (line_of 12 6 (0xac ∷ 0x02 ∷ []) ≡ 49 ∷ 50 ∷ 32 ∷ 118 ∷ 97 ∷ 114 ∷ 105 ∷ 110 ∷ 116 ∷ 32 ∷ 51 ∷ 48 ∷ 48 ∷ 32 ∷ 50
    ∷ 10 ∷ [])
    × (line_of 3 7 (0xc0 ∷ 0x80 ∷ []) ≡ 51 ∷ 32 ∷ 117 ∷ 116 ∷ 102 ∷ 56 ∷ 32 ∷ 110 ∷ 111 ∷ 10 ∷ [])
    × (line_of 4 12 [] ≡ [])
unfolding line_of closed answer_to walk_answer varint_answer utf8_answer walk varint little width decimal number numbers
    refused fields_text spot_text read_uvarint read_from group_of is_utf8 run read_tag read_len read_varint skip_value skip_field
    walk_step
rows = (refl, refl, refl, refl)

-- keys and peer ids: `1 key 0 =` for `08 00 12 00`, `2 key 3 =00` for `08 03 12 01 00`, `3 key refused 35` for a byte
-- too many; `4 peer identity =414243` for `00 03 414243`, `5 peer sha256 =` and 32 times `33`, `6 peer refused 34` for
-- `80 00 00`
pub senders :
    (line_of 1 8 (0x08 ∷ 0x00 ∷ 0x12 ∷ 0x00 ∷ []) ≡ 49 ∷ 32 ∷ 107 ∷ 101 ∷ 121 ∷ 32 ∷ 48 ∷ 32 ∷ 61 ∷ 10 ∷ [])
    × (line_of 2 8 (0x08 ∷ 0x03 ∷ 0x12 ∷ 0x01 ∷ 0x00 ∷ []) ≡ 50 ∷ 32 ∷ 107 ∷ 101 ∷ 121 ∷ 32 ∷ 51 ∷ 32 ∷ 61 ∷ 48 ∷ 48 ∷ 10
    ∷ [])
    × (line_of 3 8 (0x08 ∷ 0x01 ∷ 0x12 ∷ 0x00 ∷ 0x00 ∷ []) ≡ 51 ∷ 32 ∷ 107 ∷ 101 ∷ 121 ∷ 32 ∷ 114 ∷ 101 ∷ 102 ∷ 117 ∷ 115
    ∷ 101 ∷ 100 ∷ 32 ∷ 51 ∷ 53 ∷ 10 ∷ [])
    × (line_of 4 9 (0x00 ∷ 0x03 ∷ 0x41 ∷ 0x42 ∷ 0x43 ∷ []) ≡ 52 ∷ 32 ∷ 112 ∷ 101 ∷ 101 ∷ 114 ∷ 32 ∷ 105 ∷ 100 ∷ 101 ∷ 110
    ∷ 116 ∷ 105 ∷ 116 ∷ 121 ∷ 32 ∷ 61 ∷ 52 ∷ 49 ∷ 52 ∷ 50 ∷ 52 ∷ 51 ∷ 10 ∷ [])
    × (line_of 5 9 (0x12 ∷ 0x20 ∷ replicate 32 0x33) ≡ 53 ∷ 32 ∷ 112 ∷ 101 ∷ 101 ∷ 114 ∷ 32 ∷ 115 ∷ 104 ∷ 97 ∷ 50 ∷ 53
    ∷ 54 ∷ 32 ∷ 61 ∷ (replicate 64 51 ++ (10 ∷ [])))
    × (line_of 6 9 (0x80 ∷ 0x00 ∷ 0x00 ∷ []) ≡ 54 ∷ 32 ∷ 112 ∷ 101 ∷ 101 ∷ 114 ∷ 32 ∷ 114 ∷ 101 ∷ 102 ∷ 117 ∷ 115 ∷ 101
    ∷ 100 ∷ 32 ∷ 51 ∷ 52 ∷ 10 ∷ [])
unfolding line_of closed answer_to key_answer peer_answer key_text peer_id_text bytes_text hex width decimal number numbers
    refused spot_text read_uvarint read_from group_of type_of on_total on_data decode_protobuf hash_of from_bytes
senders = (refl, refl, refl, refl, refl, refl)

-- `1 decode refused 7 1 at 3 in 1` for the scope's body `0a 03 12 01 ff`, `2 decode ok 0 control` for `1a 00 1a 00`;
-- and the records' lines: `  message =0a01410a0142 =42 - - - -` for `12 06 0a 01 41 0a 01 42`, `  sub 1 -` and
-- `  prune = 0`, where empty is not absent
pub bodies : (d : Dialect)
    → (decode_line 1 (decoded_told (decode_answer d (0x0a ∷ 0x03 ∷ 0x12 ∷ 0x01 ∷ 0xff ∷ []) 10240)) ≡ 49 ∷ 32 ∷ 100 ∷ 101 ∷ 99
    ∷ 111 ∷ 100 ∷ 101 ∷ 32 ∷ 114 ∷ 101 ∷ 102 ∷ 117 ∷ 115 ∷ 101 ∷ 100 ∷ 32 ∷ 55 ∷ 32 ∷ 49 ∷ 32 ∷ 97 ∷ 116 ∷ 32 ∷ 51
    ∷ 32 ∷ 105 ∷ 110 ∷ 32 ∷ 49 ∷ 10 ∷ [])
    × (decode_line 2 (decoded_told (decode_answer d (0x1a ∷ 0x00 ∷ 0x1a ∷ 0x00 ∷ []) 10240)) ≡ 50 ∷ 32 ∷ 100 ∷ 101 ∷ 99 ∷ 111
    ∷ 100 ∷ 101 ∷ 32 ∷ 111 ∷ 107 ∷ 32 ∷ 48 ∷ 32 ∷ 99 ∷ 111 ∷ 110 ∷ 116 ∷ 114 ∷ 111 ∷ 108 ∷ 10 ∷ [])
    × (lines_of d (0x12 ∷ 0x06 ∷ 0x0a ∷ 0x01 ∷ 0x41 ∷ 0x0a ∷ 0x01 ∷ 0x42 ∷ [])
    ≡ (32 ∷ 32 ∷ 109 ∷ 101 ∷ 115 ∷ 115 ∷ 97 ∷ 103 ∷ 101 ∷ 32 ∷ 61 ∷ 48 ∷ 97 ∷ 48 ∷ 49 ∷ 52 ∷ 49 ∷ 48 ∷ 97 ∷ 48 ∷ 49
    ∷ 52 ∷ 50 ∷ 32 ∷ 61 ∷ 52 ∷ 50 ∷ 32 ∷ 45 ∷ 32 ∷ 45 ∷ 32 ∷ 45 ∷ 32 ∷ 45 ∷ 10 ∷ []) ∷ [])
    × (lines_of d (0x0a ∷ 0x02 ∷ 0x08 ∷ 0x07 ∷ 0x1a ∷ 0x06 ∷ 0x22 ∷ 0x04 ∷ 0x0a ∷ 0x00 ∷ 0x18 ∷ 0x00 ∷ [])
    ≡ (32 ∷ 32 ∷ 115 ∷ 117 ∷ 98 ∷ 32 ∷ 49 ∷ 32 ∷ 45 ∷ 10 ∷ [])
    ∷ (32 ∷ 32 ∷ 112 ∷ 114 ∷ 117 ∷ 110 ∷ 101 ∷ 32 ∷ 61 ∷ 32 ∷ 48 ∷ 10 ∷ []) ∷ [])
unfolding decode_line decoded_text lines_of record_line record_text sub_text message_text prune_text place_text bytes_text
    flag_text count_text hex fields_text spot_text refusal_line width decimal number numbers refused read_uvarint read_from
    group_of is_utf8 run read_tag read_len read_varint skip_fixed skip_field read_value read_field walk_from walk_at role_of rank
    own_of text_count to_depth over_kinds counted text_spot spot_in body_records set_place with_field slots_of has_field own_rows
    rows_of has_control decode_answer
bodies d = (refl, refl, refl, refl)

-- `1a 07 2a 03 0a 01 41 22 00`: `  idontwant`, `  id =41` and `  prune - -` in 1.2, the last alone in 1.1
pub editions : (mode : Mode) →
    (lines_of (spoken mode V12) (0x1a ∷ 0x07 ∷ 0x2a ∷ 0x03 ∷ 0x0a ∷ 0x01 ∷ 0x41 ∷ 0x22 ∷ 0x00 ∷ [])
    ≡ (32 ∷ 32 ∷ 105 ∷ 100 ∷ 111 ∷ 110 ∷ 116 ∷ 119 ∷ 97 ∷ 110 ∷ 116 ∷ 10 ∷ [])
    ∷ (32 ∷ 32 ∷ 105 ∷ 100 ∷ 32 ∷ 61 ∷ 52 ∷ 49 ∷ 10 ∷ [])
    ∷ (32 ∷ 32 ∷ 112 ∷ 114 ∷ 117 ∷ 110 ∷ 101 ∷ 32 ∷ 45 ∷ 32 ∷ 45 ∷ 10 ∷ []) ∷ [])
    × (lines_of (spoken mode V11) (0x1a ∷ 0x07 ∷ 0x2a ∷ 0x03 ∷ 0x0a ∷ 0x01 ∷ 0x41 ∷ 0x22 ∷ 0x00 ∷ [])
    ≡ (32 ∷ 32 ∷ 112 ∷ 114 ∷ 117 ∷ 110 ∷ 101 ∷ 32 ∷ 45 ∷ 32 ∷ 45 ∷ 10 ∷ []) ∷ [])
unfolding lines_of record_line record_text prune_text place_text bytes_text count_text hex read_uvarint read_from group_of
    read_tag read_len read_varint skip_fixed skip_field read_value read_field walk_from walk_at role_of rank own_of to_depth
    over_kinds set_place with_field slots_of own_rows rows_of
editions mode = (refl, refl)

-- groups: `1 walk 1 3 1 5` for `0b 10 96 01 0c 1a 00`, and `2 walk refused 5 3 1 at 1` in the first mode; no value and
-- no place behind 14 to 16; a message with its group, whose `from` is not the message's; no line for a dialect of 4
pub groups : (e : Edition)
    → (line_of 1 25 (2 ∷ replicate 8 0 ++ (0x0b ∷ 0x10 ∷ 0x96 ∷ 0x01 ∷ 0x0c ∷ 0x1a ∷ 0x00 ∷ [])) ≡ 49 ∷ 32 ∷ 119
    ∷ 97 ∷ 108 ∷ 107 ∷ 32 ∷ 49 ∷ 32 ∷ 51 ∷ 32 ∷ 49 ∷ 32 ∷ 53 ∷ 10 ∷ [])
    × (line_of 2 25 (1 ∷ replicate 8 0 ++ (0x0b ∷ 0x10 ∷ 0x96 ∷ 0x01 ∷ 0x0c ∷ 0x1a ∷ 0x00 ∷ [])) ≡ 50 ∷ 32 ∷ 119
    ∷ 97 ∷ 108 ∷ 107 ∷ 32 ∷ 114 ∷ 101 ∷ 102 ∷ 117 ∷ 115 ∷ 101 ∷ 100 ∷ 32 ∷ 53 ∷ 32 ∷ 51 ∷ 32 ∷ 49 ∷ 32 ∷ 97 ∷ 116 ∷ 32
    ∷ 49 ∷ 10 ∷ [])
    × (line_of 3 25 (3 ∷ replicate 8 0 ++ (0x0b ∷ [])) ≡ 51 ∷ 32 ∷ 119 ∷ 97 ∷ 108 ∷ 107 ∷ 32 ∷ 114 ∷ 101 ∷ 102
    ∷ 117 ∷ 115 ∷ 101 ∷ 100 ∷ 32 ∷ 49 ∷ 54 ∷ 10 ∷ [])
    × (line_of 4 25 (4 ∷ replicate 8 0) ≡ [])
    × (decode_line 5 (decoded_told (decode_answer (spoken Groups e) (0x0b ∷ 0x13 ∷ 0x14 ∷ 0x0c ∷ []) 10240)) ≡ 53
    ∷ 32 ∷ 100 ∷ 101 ∷ 99 ∷ 111 ∷ 100 ∷ 101 ∷ 32 ∷ 111 ∷ 107 ∷ 32 ∷ 48 ∷ 32 ∷ 112 ∷ 108 ∷ 97 ∷ 105 ∷ 110 ∷ 10 ∷ [])
    × (decode_line 6 (decoded_told (decode_answer (spoken Groups e) (0x12 ∷ 0x01 ∷ 0x0c ∷ []) 10240)) ≡ 54 ∷ 32 ∷ 100 ∷ 101
    ∷ 99 ∷ 111 ∷ 100 ∷ 101 ∷ 32 ∷ 114 ∷ 101 ∷ 102 ∷ 117 ∷ 115 ∷ 101 ∷ 100 ∷ 32 ∷ 49 ∷ 52 ∷ 10 ∷ [])
    × (decode_line 7 (decoded_told (decode_answer (spoken Groups e) (replicate 33 0x0b) 10240)) ≡ 55 ∷ 32 ∷ 100 ∷ 101 ∷ 99
    ∷ 111 ∷ 100 ∷ 101 ∷ 32 ∷ 114 ∷ 101 ∷ 102 ∷ 117 ∷ 115 ∷ 101 ∷ 100 ∷ 32 ∷ 49 ∷ 53 ∷ 10 ∷ [])
    × (decode_line 8 (decoded_told (decode_answer (spoken Groups e) (0x1a ∷ 0x01 ∷ 0x0b ∷ 0x0c ∷ []) 10240)) ≡ 56
    ∷ 32 ∷ 100 ∷ 101 ∷ 99 ∷ 111 ∷ 100 ∷ 101 ∷ 32 ∷ 114 ∷ 101 ∷ 102 ∷ 117 ∷ 115 ∷ 101 ∷ 100 ∷ 32 ∷ 49 ∷ 54 ∷ 10 ∷ [])
    × (decode_line 9 (decoded_told (decode_answer (spoken Groups e) (0x0b ∷ 0x0a ∷ 0x05 ∷ 0x08 ∷ []) 10240)) ≡ 57
    ∷ 32 ∷ 100 ∷ 101 ∷ 99 ∷ 111 ∷ 100 ∷ 101 ∷ 32 ∷ 114 ∷ 101 ∷ 102 ∷ 117 ∷ 115 ∷ 101 ∷ 100 ∷ 32 ∷ 52 ∷ 32 ∷ 51 ∷ 32 ∷ 53
    ∷ 32 ∷ 49 ∷ 32 ∷ 97 ∷ 116 ∷ 32 ∷ 51 ∷ 10 ∷ [])
    × (lines_of (spoken Groups e) (0x12 ∷ 0x08 ∷ 0x0a ∷ 0x01 ∷ 0x42 ∷ 0x0b ∷ 0x0a ∷ 0x01 ∷ 0x41 ∷ 0x0c ∷ []) ≡ (32 ∷ 32
    ∷ 109 ∷ 101 ∷ 115 ∷ 115 ∷ 97 ∷ 103 ∷ 101 ∷ 32 ∷ 61 ∷ 48 ∷ 97 ∷ 48 ∷ 49 ∷ 52 ∷ 50 ∷ 48 ∷ 98 ∷ 48 ∷ 97 ∷ 48 ∷ 49 ∷ 52
    ∷ 49 ∷ 48 ∷ 99 ∷ 32 ∷ 61 ∷ 52 ∷ 50 ∷ 32 ∷ 45 ∷ 32 ∷ 45 ∷ 32 ∷ 45 ∷ 32 ∷ 45 ∷ 10 ∷ []) ∷ [])
unfolding line_of closed answer_to spoken_answer walk_answer walk little edition_of mode_of dialect_of decode_line decoded_text
    lines_of record_line record_text message_text place_text bytes_text hex fields_text spot_text refusal_line width decimal number
    numbers refused read_uvarint read_from group_of read_tag read_len read_varint skip_fixed skip_value passed skip_from
    skip_group skip_field read_value read_field walk_step walk_from walk_at role_of rank own_of text_count to_depth over_kinds
    counted text_spot spot_in body_records set_place with_field slots_of has_field own_rows rows_of has_control decode_answer
groups e = (refl, refl, refl, refl, refl, refl, refl, refl, refl, refl)

-- lists: a subscription with its number and its topic over `t`, with room for 7 bytes; no row and no bytes; and what is
-- bad: a mask of 64, a row that lacks a byte, room for 65,601 bytes, 641 rows
pub lists :
    (lists_in ((7 ∷ 0 ∷ 0 ∷ 0 ∷ 1 ∷ 0 ∷ 1 ∷ 3 ∷ [])
    ++ (replicate 16 0 ++ ((1 ∷ replicate 7 0) ++ (replicate 8 0 ++ ((1 ∷ replicate 7 0) ++ (116 ∷ []))))))
    ≡ Some (record { room = 7; words = 1 ∷ 0 ∷ 0 ∷ 1 ∷ 1 ∷ 1 ∷ 0 ∷ 1 ∷ replicate 12 0; bytes = 116 ∷ [] }))
    × (lists_in (replicate 6 0) ≡ Some (record { room = 0; words = []; bytes = [] }))
    × (lists_in ((7 ∷ 0 ∷ 0 ∷ 0 ∷ 1 ∷ 0 ∷ 8 ∷ 64 ∷ []) ++ replicate 40 0) ≡ None)
    × (lists_in ((7 ∷ 0 ∷ 0 ∷ 0 ∷ 1 ∷ 0 ∷ 8 ∷ 2 ∷ []) ++ replicate 31 0) ≡ None)
    × (lists_in (0x41 ∷ 0 ∷ 1 ∷ 0 ∷ 0 ∷ 0 ∷ []) ≡ None)
    × (lists_in (0 ∷ 0 ∷ 0 ∷ 0 ∷ 0x81 ∷ 2 ∷ []) ≡ None)
unfolding lists_in rows_end rows_words row_end words_by words_end fields_words fields_end word_if little
lists = (refl, refl, refl, refl, refl, refl)

-- their lines: `1 write 7 0a050801120174`, `2 write 0`, `3 write refused 42`, `4 tosign refused 7 1`
pub written :
    (write_line 1 (0x0a ∷ 0x05 ∷ 0x08 ∷ 0x01 ∷ 0x12 ∷ 0x01 ∷ 0x74 ∷ []) (done (7 ∷ [])) ≡ 49 ∷ 32 ∷ 119 ∷ 114 ∷ 105 ∷ 116
    ∷ 101 ∷ 32 ∷ 55 ∷ 32 ∷ 48 ∷ 97 ∷ 48 ∷ 53 ∷ 48 ∷ 56 ∷ 48 ∷ 49 ∷ 49 ∷ 50 ∷ 48 ∷ 49 ∷ 55 ∷ 52 ∷ 10 ∷ [])
    × (write_line 2 [] (done (0 ∷ [])) ≡ 50 ∷ 32 ∷ 119 ∷ 114 ∷ 105 ∷ 116 ∷ 101 ∷ 32 ∷ 48 ∷ 10 ∷ [])
    × (write_line 3 [] (told malformed []) ≡ 51 ∷ 32 ∷ 119 ∷ 114 ∷ 105 ∷ 116 ∷ 101 ∷ 32 ∷ 114 ∷ 101 ∷ 102 ∷ 117 ∷ 115 ∷ 101
    ∷ 100 ∷ 32 ∷ 52 ∷ 50 ∷ 10 ∷ [])
    × (tosign_line 4 [] (told invalid_utf8 (1 ∷ [])) ≡ 52 ∷ 32 ∷ 116 ∷ 111 ∷ 115 ∷ 105 ∷ 103 ∷ 110 ∷ 32 ∷ 114 ∷ 101 ∷ 102
    ∷ 117 ∷ 115 ∷ 101 ∷ 100 ∷ 32 ∷ 55 ∷ 32 ∷ 49 ∷ 10 ∷ [])
unfolding made_line bytes_line shown_text refusal_line spot_text hex width decimal number numbers refused
written = (refl, refl, refl, refl)
