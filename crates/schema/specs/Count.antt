-- How many records stand in a message, or the first refusal in reading order. Offsets are those of the message's own
-- bytes.
use Rattle.std.specs.Prelude.{Result, Ok, Err, ℕ, ◌+◌, ◌≤◌, List, cond, length}
use Rattle.basis.specs.declared.Mode.{Mode}
use Rattle.utf8.specs.Utf8.{is_utf8}
use Rattle.protobuf.specs.declared.Field.{Field}
use Rattle.protobuf.specs.declared.WireError.TheVariants.{InvalidUtf8}
use Rattle.protobuf.specs.Walk.{Fields, end, refused, ◌then◌, fields_of, between}
use Rattle.schema.specs.declared.Kind.{Kind}
use Rattle.schema.specs.declared.Role.{Role}
use Rattle.schema.specs.declared.Role.TheVariants.{Skip, Number, Text, Bytes, Unsigned, Topic, MessageId, Sub}
use Rattle.protobuf.specs.declared.WireError.{WireError}
use Rattle.schema.specs.Schema.{role_of, own_of}
use Rattle.schema.specs.Kinds.{over_kinds}

-- the field's value lies within the bytes
pub record FieldWithin (s : List ℕ) (f : Field) : Type 0 where
  pub order : f.start ≤ f.next
  pub fits : f.next ≤ length s

-- n records, and then r
abbrev pub plus : ℕ → Result ℕ WireError → Result ℕ WireError
plus n (Ok m) = Ok (n + m)
plus n (Err why) = Err why

abbrev pub and_then : Result ℕ WireError → Result ℕ WireError → Result ℕ WireError
and_then (Ok n) r = plus n r
and_then (Err why) r = Err why

-- text that counts n records: refusal 7 points at its length
unfoldable pub text_count : List ℕ → Field → ℕ → Result ℕ WireError
text_count s f n = cond (is_utf8 (between s f.start f.next)) (Ok n) (Err (InvalidUtf8 f.tag_end))

-- one field; `sub` counts in a submessage
abbrev pub role_count : (Kind → List ℕ → Result ℕ WireError) → List ℕ → Field → Role → Result ℕ WireError
role_count sub s f Skip = Ok 0
role_count sub s f (Number figure) = Ok 0
role_count sub s f (Text slot) = text_count s f 0
role_count sub s f (Bytes slot) = Ok 0
role_count sub s f (Unsigned slot) = Ok 0
role_count sub s f Topic = text_count s f 1
role_count sub s f MessageId = Ok 1
role_count sub s f (Sub k form) = plus (own_of k) (sub k (between s f.start f.next))

-- along the fields of a message of kind k
abbrev pub count_along : (Kind → List ℕ → Result ℕ WireError) → Kind → List ℕ → Fields → Result ℕ WireError
count_along sub k s end = Ok 0
count_along sub k s (refused why) = Err why
count_along sub k s (f then w) = and_then (role_count sub s f (role_of k f.field f.wire_type))
    (count_along sub k s w)

abbrev pub count_step : Mode → (Kind → List ℕ → Result ℕ WireError) → Kind → List ℕ → Result ℕ WireError
count_step mode sub k s = count_along sub k s (fields_of mode s)

unfoldable pub counted : Mode → Kind → List ℕ → Result ℕ WireError
counted mode k s = over_kinds (count_step mode) (Ok 0) k s

-- one field of a message of kind k
unfoldable pub field_count : Mode → Kind → List ℕ → Field → Result ℕ WireError
field_count mode k s f = role_count (counted mode) s f (role_of k f.field f.wire_type)
