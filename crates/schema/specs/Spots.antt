-- Where the first refusal of a message stands, in reading order, if it is one of 1 to 7: nowhere, where there is none.
-- Offsets count from the message's own start; a field that encloses the place adds its number, and the place where its
-- bytes start. Of a message that is refused by 14 to 16, which carry no place, it is not asked.
use Rattle.std.specs.Prelude.{Option, Some, None, ℕ, List, cond}
use Rattle.basis.specs.declared.Spot.{Spot}
use Rattle.basis.specs.Spot.{at, inside, or_else}
use Rattle.basis.specs.declared.Mode.{Mode}
use Rattle.utf8.specs.Utf8.{is_utf8}
use Rattle.protobuf.specs.declared.Field.{Field}
use Rattle.protobuf.specs.Refusal.{spot_of}
use Rattle.protobuf.specs.Walk.{Fields, end, refused, ◌then◌, fields_of, between}
use Rattle.schema.specs.declared.Kind.{Kind}
use Rattle.schema.specs.declared.Role.{Role}
use Rattle.schema.specs.declared.Role.TheVariants.{Skip, Number, Text, Bytes, Unsigned, Topic, MessageId, Sub}
use Rattle.schema.specs.Schema.{role_of}
use Rattle.schema.specs.Kinds.{over_kinds}

-- text: at its length
unfoldable pub text_spot : List ℕ → Field → Option Spot
text_spot s f = cond (is_utf8 (between s f.start f.next)) None (Some (at f.tag_end))

-- one field; `sub` finds the place in a submessage
abbrev pub role_spot : (Kind → List ℕ → Option Spot) → List ℕ → Field → Role → Option Spot
role_spot sub s f Skip = None
role_spot sub s f (Number figure) = None
role_spot sub s f (Text slot) = text_spot s f
role_spot sub s f (Bytes slot) = None
role_spot sub s f (Unsigned slot) = None
role_spot sub s f Topic = text_spot s f
role_spot sub s f MessageId = None
role_spot sub s f (Sub k form) = inside f.field f.start (sub k (between s f.start f.next))

-- along the fields of a message of kind k
abbrev pub spot_along : (Kind → List ℕ → Option Spot) → Kind → List ℕ → Fields → Option Spot
spot_along sub k s end = None
spot_along sub k s (refused why) = spot_of why
spot_along sub k s (f then w) = or_else (role_spot sub s f (role_of k f.field f.wire_type)) (spot_along sub k s w)

abbrev pub spot_step : Mode → (Kind → List ℕ → Option Spot) → Kind → List ℕ → Option Spot
spot_step mode sub k s = spot_along sub k s (fields_of mode s)

unfoldable pub spot_in : Mode → Kind → List ℕ → Option Spot
spot_in mode k s = over_kinds (spot_step mode) None k s

-- one field of a message of kind k
unfoldable pub field_spot : Mode → Kind → List ℕ → Field → Option Spot
field_spot mode k s f = role_spot (spot_in mode) s f (role_of k f.field f.wire_type)
