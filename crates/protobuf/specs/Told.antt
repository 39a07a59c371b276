-- What a refusal of a body, the readers and writers of fields and the host's walk tell: the scope's number and the
-- values beside it. A refusal of a body's bytes is told with its place; a reader of a slice tells the place in the slice.
use Rattle.std.specs.Prelude.{Result, Ok, Err, Option, Some, None, ℕ, List, [], ◌∷◌}
use Rattle.basis.specs.declared.Told.{Told}
use Rattle.basis.specs.Refusals.{too_large, field-overflow, unsupported-wire_type, invalid_field-number, invalid_utf8}
use Rattle.basis.specs.Refusals.{too_many-records, short-room, end-group, group-depth, group_open}
use Rattle.basis.specs.Told.{told, placed, done, values_of}
use Rattle.peer_id.specs.Told.{varint_told}
use Rattle.protobuf.specs.declared.WireError.{WireError}
use Rattle.protobuf.specs.declared.WireError.TheVariants as wire
use Rattle.protobuf.specs.declared.Refusal.{Refusal}
use Rattle.protobuf.specs.declared.EncodeError.TheVariants as enc
use Rattle.protobuf.specs.declared.EncodeError.{EncodeError}
use Rattle.protobuf.specs.declared.Field.{Field}
use Rattle.protobuf.specs.declared.Walked.{Walked}
use Rattle.protobuf.specs.Refusal.{here}

abbrev pub wire_told : WireError → Told
wire_told (wire.Varint error offset) = varint_told error
wire_told (wire.FieldOverflow offset size remaining) = told field-overflow (offset ∷ size ∷ remaining ∷ [])
wire_told (wire.UnsupportedWireType type offset) = told unsupported-wire_type (type ∷ offset ∷ [])
wire_told (wire.InvalidFieldNumber field offset) = told invalid_field-number (field ∷ offset ∷ [])
wire_told (wire.InvalidUtf8 offset) = told invalid_utf8 (offset ∷ [])
wire_told wire.EndGroup = told end-group []
wire_told wire.GroupDepth = told group-depth []
wire_told wire.GroupOpen = told group_open []
wire_told (wire.TooLarge len) = told too_large (len ∷ [])
wire_told (wire.TooManyRecords records) = told too_many-records (records ∷ [])

abbrev pub refusal_number : WireError → ℕ
refusal_number why = (wire_told why).number

abbrev pub refusal_values : WireError → List ℕ
refusal_values why = values_of (wire_told why)

-- with its place in the body
abbrev pub refusal_told : Refusal → Told
refusal_told r = placed r.spot (wire_told r.why)

abbrev pub checked_told : Result (Unit {0}) Refusal → Told
checked_told (Ok tt) = done []
checked_told (Err r) = refusal_told r

-- how many bytes were written
abbrev pub encoded_told : Result ℕ EncodeError → Told
encoded_told (Ok count) = done (count ∷ [])
encoded_told (Err (enc.Room needed)) = told short-room (needed ∷ [])
encoded_told (Err (enc.Refused r)) = refusal_told r

-- the field's number, its wire type, the place after its tag and that of the next field; 0 alone at the end, as no
-- field has the number 0
abbrev pub walk_told : Result (Option Walked) Refusal → Told
walk_told (Ok None) = done (0 ∷ [])
walk_told (Ok (Some w)) = done (w.field ∷ w.wire_type ∷ w.tag_end ∷ w.next.at ∷ [])
walk_told (Err r) = refusal_told r

-- the number, the wire type and the place after the tag; 0 alone at the end
abbrev pub tag_told : Result (Option (ℕ × ℕ × ℕ)) WireError → Told
tag_told (Ok None) = done (0 ∷ [])
tag_told (Ok (Some (field, type, next))) = done (field ∷ type ∷ next ∷ [])
tag_told (Err why) = refusal_told (here why)

-- where the bytes start and end
abbrev pub part_told : Result (ℕ × ℕ) WireError → Told
part_told (Ok (start, end)) = done (start ∷ end ∷ [])
part_told (Err why) = refusal_told (here why)

-- the value, and the place after it
abbrev pub value_told : Result (ℕ × ℕ) WireError → Told
value_told (Ok (number, next)) = done (number ∷ next ∷ [])
value_told (Err why) = refusal_told (here why)

-- the place after the value
abbrev pub skip_told : Result ℕ WireError → Told
skip_told (Ok next) = done (next ∷ [])
skip_told (Err why) = refusal_told (here why)

-- as the walk: what else a field holds, its value and where that starts, is not told
abbrev pub step_told : Result (Option Field) WireError → Told
step_told (Ok None) = done (0 ∷ [])
step_told (Ok (Some f)) = done (f.field ∷ f.wire_type ∷ f.tag_end ∷ f.next ∷ [])
step_told (Err why) = refusal_told (here why)
