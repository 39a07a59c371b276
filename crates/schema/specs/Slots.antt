-- The singular fields of a message: the last wins. Places are counted from the start of the message's own bytes. And
-- whether a field is there.
use Rattle.std.specs.Prelude.{ℕ, List, Bool, false, cond, ◌||◌, eqb}
use Rattle.basis.specs.declared.Mode.{Mode}
use Rattle.protobuf.specs.declared.Field.{Field}
use Rattle.protobuf.specs.Walk.{Fields, end, refused, ◌then◌, fields_of, is_bytes}
use Rattle.schema.specs.declared.Kind.{Kind}
use Rattle.schema.specs.declared.Role.{Role}
use Rattle.schema.specs.declared.Role.TheVariants.{Skip, Number, Text, Bytes, Unsigned, Topic, MessageId, Sub}
use Rattle.schema.specs.declared.Place.{Place}
use Rattle.schema.specs.declared.Place.TheVariants as place
use Rattle.schema.specs.declared.Number.TheVariants as number
use Rattle.schema.specs.declared.Slots.{Slots}
use Rattle.schema.specs.Schema.{role_of}

abbrev pub no_slots : Slots
no_slots =
    record {
      number = number.Absent;
      first = place.Absent;
      second = place.Absent;
      third = place.Absent;
      fourth = place.Absent;
      fifth = place.Absent;
    }

abbrev pub set_number : Slots → ℕ → Slots
set_number t v =
    record {
      number = number.Present v;
      first = t.first;
      second = t.second;
      third = t.third;
      fourth = t.fourth;
      fifth = t.fifth;
    }

-- slot 1 to 5; no other is in the table
unfoldable pub set_place : Slots → ℕ → Place → Slots
set_place t slot p =
    cond (eqb slot 1)
    (record {
      number = t.number;
      first = p;
      second = t.second;
      third = t.third;
      fourth = t.fourth;
      fifth = t.fifth;
    })
    (cond (eqb slot 2)
    (record {
      number = t.number;
      first = t.first;
      second = p;
      third = t.third;
      fourth = t.fourth;
      fifth = t.fifth;
    })
    (cond (eqb slot 3)
    (record {
      number = t.number;
      first = t.first;
      second = t.second;
      third = p;
      fourth = t.fourth;
      fifth = t.fifth;
    })
    (cond (eqb slot 4)
    (record {
      number = t.number;
      first = t.first;
      second = t.second;
      third = t.third;
      fourth = p;
      fifth = t.fifth;
    })
    (record {
      number = t.number;
      first = t.first;
      second = t.second;
      third = t.third;
      fourth = t.fourth;
      fifth = p;
    }))))

abbrev pub place_of : Field → Place
place_of f = place.Present f.start f.next

abbrev pub role_slots : Slots → Field → Role → Slots
role_slots t f Skip = t
role_slots t f (Number figure) = set_number t f.value
role_slots t f (Text slot) = set_place t slot (place_of f)
role_slots t f (Bytes slot) = set_place t slot (place_of f)
role_slots t f (Unsigned slot) = set_place t slot (place_of f)
role_slots t f Topic = t
role_slots t f MessageId = t
role_slots t f (Sub k form) = t

unfoldable pub with_field : Kind → Slots → Field → Slots
with_field k t f = role_slots t f (role_of k f.field f.wire_type)

abbrev pub slots_along : Kind → Slots → Fields → Slots
slots_along k t end = t
slots_along k t (refused why) = t
slots_along k t (f then w) = slots_along k (with_field k t f) w

unfoldable pub slots_of : Mode → Kind → List ℕ → Slots
slots_of mode k s = slots_along k no_slots (fields_of mode s)

-- a length-delimited field n is there
abbrev pub has_along : ℕ → Fields → Bool
has_along n end = false
has_along n (refused why) = false
has_along n (f then w) = is_bytes n f || has_along n w

unfoldable pub has_field : Mode → ℕ → List ℕ → Bool
has_field mode n s = has_along n (fields_of mode s)
