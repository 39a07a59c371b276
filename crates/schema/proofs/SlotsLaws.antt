-- Laws of the singular fields: where they stand.
use Rattle.std.specs.Prelude.{ℕ, ◌≡◌, List, eqb}
use Rattle.std.proofs.Common.{arith}
use Rattle.basis.specs.declared.Mode.{Mode}
use Rattle.basis.specs.Cases.{either, clash}
use Rattle.protobuf.specs.declared.Field.{Field}
use Rattle.protobuf.specs.Laws.{Stands}
use Rattle.protobuf.specs.Walk.{Fields, walk_at}
use Rattle.protobuf.specs.WalkLaws.{along}
use Rattle.schema.specs.declared.Kind.{Kind}
use Rattle.schema.specs.declared.Role.{Role}
use Rattle.schema.specs.declared.Role.TheVariants.{Skip, Number, Text, Bytes, Unsigned, Topic, MessageId, Sub}
use Rattle.schema.specs.declared.Place.{Place}
use Rattle.schema.specs.declared.Place.TheVariants as place
use Rattle.schema.specs.declared.Slots.{Slots}
use Rattle.schema.specs.Schema.{role_of}
use Rattle.schema.specs.Slots.{no_slots, set_place, place_of, role_slots, with_field, slots_along, slots_of}
use Rattle.schema.specs.SlotsLaws.{PlaceInside, SlotsInside}

absent-inside : (s : List ℕ) → PlaceInside s place.Absent
absent-inside s a e h = clash (cc)

none-good : (s : List ℕ) → SlotsInside s no_slots
none-good s =
    record {
      first = absent-inside s;
      second = absent-inside s;
      third = absent-inside s;
      fourth = absent-inside s;
      fifth = absent-inside s;
    }

set-good : (s : List ℕ) (t : Slots) (slot : ℕ) (p : Place) → SlotsInside s t → PlaceInside s p
    → SlotsInside s (set_place t slot p)
unfolding set_place
set-good s t slot p g h =
    either (eqb slot 1)
    (λ a. simp a (record { first = h; second = g.second; third = g.third; fourth = g.fourth; fifth = g.fifth }))
    (λ a. either (eqb slot 2)
    (λ b. simp (a, b) (record { first = g.first; second = h; third = g.third; fourth = g.fourth; fifth = g.fifth }))
    (λ b. either (eqb slot 3)
    (λ c. simp (a, b, c)
    (record { first = g.first; second = g.second; third = h; fourth = g.fourth; fifth = g.fifth }))
    (λ c. either (eqb slot 4)
    (λ d. simp (a, b, c, d)
    (record { first = g.first; second = g.second; third = g.third; fourth = h; fifth = g.fifth }))
    (λ d. simp (a, b, c, d)
    (record { first = g.first; second = g.second; third = g.third; fourth = g.fourth; fifth = h })))))

field-inside : (s : List ℕ) (at : ℕ) (f : Field) → Stands s at f → PlaceInside s (place_of f)
field-inside s at f st a e h = let p : f.start ≡ a = cc in let q : f.next ≡ e = cc in
    (omega (arith, st.ends), omega (arith, st.within))

role_good : (s : List ℕ) (at : ℕ) (f : Field) (t : Slots) (r : Role) → Stands s at f → SlotsInside s t
    → SlotsInside s (role_slots t f r)
role_good s at f t Skip st g = g
role_good s at f t (Number figure) st g =
    record { first = g.first; second = g.second; third = g.third; fourth = g.fourth; fifth = g.fifth }
role_good s at f t (Text slot) st g = set-good s t slot (place_of f) g (field-inside s at f st)
role_good s at f t (Bytes slot) st g = set-good s t slot (place_of f) g (field-inside s at f st)
role_good s at f t (Unsigned slot) st g = set-good s t slot (place_of f) g (field-inside s at f st)
role_good s at f t Topic st g = g
role_good s at f t MessageId st g = g
role_good s at f t (Sub k form) st g = g

good-along : (mode : Mode) (k : Kind) (s : List ℕ) (at : ℕ) (t : Slots) → SlotsInside s t
    → SlotsInside s (slots_along k t (walk_at mode s at))
unfolding with_field
good-along mode k s =
    along mode s (λ (at : ℕ) (w : Fields). (t : Slots) → SlotsInside s t → SlotsInside s (slots_along k t w))
    (λ at t g. g)
    (λ at why r t g. g)
    (λ at f st e rest t g. rest _ (role_good s at f t (role_of k f.field f.wire_type) st g))

-- the places of a message's singular fields lie within the message
pub slots_inside : (mode : Mode) (k : Kind) (s : List ℕ) → SlotsInside s (slots_of mode k s)
unfolding slots_of
slots_inside mode k s = good-along mode k s 0 no_slots (none-good s)
