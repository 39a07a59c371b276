-- A refusal of a body with its place. Where the slice that was read is the body, the place is the refusal's own offset:
-- of 1 to 3 the first byte of the bad varint, of 4 after the length or the tag, of 5 after the tag, of 6 the tag, of 7
-- the length. 14 to 16, 10 and 11 carry no place.
use Rattle.std.specs.Prelude.{Option, Some, None}
use Rattle.basis.specs.declared.Spot.{Spot}
use Rattle.basis.specs.Spot.{at}
use Rattle.protobuf.specs.declared.WireError.{WireError}
use Rattle.protobuf.specs.declared.WireError.TheVariants.{Varint, FieldOverflow, UnsupportedWireType}
use Rattle.protobuf.specs.declared.WireError.TheVariants.{InvalidFieldNumber, InvalidUtf8, TooLarge, TooManyRecords}
use Rattle.protobuf.specs.declared.WireError.TheVariants.{EndGroup, GroupDepth, GroupOpen}
use Rattle.protobuf.specs.declared.Refusal.{Refusal}

abbrev pub spot_of : WireError → Option Spot
spot_of (Varint error offset) = Some (at offset)
spot_of (FieldOverflow offset size remaining) = Some (at offset)
spot_of (UnsupportedWireType type offset) = Some (at offset)
spot_of (InvalidFieldNumber field offset) = Some (at offset)
spot_of (InvalidUtf8 offset) = Some (at offset)
spot_of EndGroup = None
spot_of GroupDepth = None
spot_of GroupOpen = None
spot_of (TooLarge len) = None
spot_of (TooManyRecords records) = None

abbrev pub here : WireError → Refusal
here why = record { why = why; spot = spot_of why }

-- a refusal that carries no place
abbrev pub nowhere : WireError → Refusal
nowhere why = record { why = why; spot = None }

-- a refusal in a submessage, which stands there in the body; 14 to 16 carry no place there either
abbrev pub placed_as : Option Spot → Option Spot → Option Spot
placed_as None there = None
placed_as (Some spot) there = there

abbrev pub standing : Option Spot → WireError → Refusal
standing there why = record { why = why; spot = placed_as (spot_of why) there }
