-- Laws of the singular fields: where they stand.
use Rattle.std.specs.Prelude.{ℕ, ◌≤◌, ◌≡◌, List, length}
use Rattle.schema.specs.declared.Place.{Place}
use Rattle.schema.specs.declared.Place.TheVariants as place
use Rattle.schema.specs.declared.Slots.{Slots}

-- a place lies within the message
abbrev pub PlaceInside : List ℕ → Place → Type 0
PlaceInside s p = (a e : ℕ) → p ≡ place.Present a e → (a ≤ e) × (e ≤ length s)

-- each slot's place does
pub record SlotsInside (s : List ℕ) (t : Slots) : Type 0 where
  pub first : PlaceInside s t.first
  pub second : PlaceInside s t.second
  pub third : PlaceInside s t.third
  pub fourth : PlaceInside s t.fourth
  pub fifth : PlaceInside s t.fifth
