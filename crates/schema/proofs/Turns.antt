-- One turn of the walk over a message's fields, as the loops of `count`, `spot_in` and `slots_of` make it.
use Rattle.std.specs.Prelude.{ℕ, ◌+◌, ◌≡◌, refl, List, true, false, is_some}
use Rattle.std.specs.Prelude.{Option, Some, None, Result, Ok, Err}
use Rattle.std.proofs.Common.{sym, ap, ◌∙◌, true≢false, arith}
use Rattle.basis.specs.declared.Mode.{Mode}
use Rattle.basis.specs.declared.Spot.{Spot}
use Rattle.basis.specs.Spot.{or_else}
use Rattle.protobuf.specs.declared.Field.{Field}
use Rattle.protobuf.specs.declared.WireError.{WireError}
use Rattle.protobuf.specs.Refusal.{spot_of}
use Rattle.protobuf.specs.Field.{read_field}
use Rattle.protobuf.specs.Walk.{Fields, walk_at}
use Rattle.protobuf.specs.WalkLaws.{walk_on}
use Rattle.schema.specs.declared.Kind.{Kind}
use Rattle.schema.specs.declared.Slots.{Slots}
use Rattle.schema.specs.Count.{plus, and_then, count_along, counted, field_count}
use Rattle.schema.specs.Spots.{spot_along, spot_in, field_spot}
use Rattle.schema.specs.Slots.{slots_along, with_field}

-- ---- counting: n records before the place `at`
pub plus_none : (r : Result ℕ WireError) → r ≡ plus 0 r
plus_none (Ok m) = ap Ok (omega arith)
plus_none (Err why) = refl

plus-plus : (n m : ℕ) (r : Result ℕ WireError) → plus n (plus m r) ≡ plus (n + m) r
plus-plus n m (Ok x) = ap Ok (omega arith)
plus-plus n m (Err why) = refl

module _ (mode : Mode) (k : Kind) (s : List ℕ) (at n : ℕ) where
  abbrev going : Fields → Result ℕ WireError
  going w = plus n (count_along (counted mode) k s w)

  pub count-end : Ok None ≡ read_field mode s at → going (walk_at mode s at) ≡ Ok n
  count-end h = ap going (walk_on mode s at (Ok None) h) ∙ ap Ok (omega arith)

  pub count-refused : (why : WireError) → Err why ≡ read_field mode s at → going (walk_at mode s at) ≡ Err why
  count-refused why h = ap going (walk_on mode s at (Err why) h)

  on_field : (f : Field) (c : Result ℕ WireError) → Ok (Some f) ≡ read_field mode s at → field_count mode k s f ≡ c
      → going (walk_at mode s at) ≡ plus n (and_then c (count_along (counted mode) k s (walk_at mode s f.next)))
  unfolding field_count
  on_field f c h g =
      ap going (walk_on mode s at (Ok (Some f)) h)
      ∙ ap (λ (x : Result ℕ WireError). plus n (and_then x (count_along (counted mode) k s (walk_at mode s f.next)))) g

  pub field-refused : (f : Field) (why : WireError) → Ok (Some f) ≡ read_field mode s at
      → field_count mode k s f ≡ Err why → going (walk_at mode s at) ≡ Err why
  field-refused f why h g = on_field f (Err why) h g

  pub count_turn : (f : Field) (m : ℕ) → Ok (Some f) ≡ read_field mode s at → field_count mode k s f ≡ Ok m
      → going (walk_at mode s at) ≡ plus (n + m) (count_along (counted mode) k s (walk_at mode s f.next))
  count_turn f m h g = on_field f (Ok m) h g ∙ plus-plus n m (count_along (counted mode) k s (walk_at mode s f.next))

-- ---- the place of a refusal, from `at` on
found : (x later : Option Spot) → is_some x ≡ true → or_else x later ≡ x
found None later e = absurd (true≢false (sym e))
found (Some spot) later e = refl

absent : (x later : Option Spot) → is_some x ≡ false → or_else x later ≡ later
absent None later e = refl
absent (Some spot) later e = absurd (true≢false e)

module _ (mode : Mode) (k : Kind) (s : List ℕ) (at : ℕ) where
  abbrev seeking : Fields → Option Spot
  seeking w = spot_along (spot_in mode) k s w

  pub spot-end : Ok None ≡ read_field mode s at → seeking (walk_at mode s at) ≡ None
  spot-end h = ap seeking (walk_on mode s at (Ok None) h)

  pub spot-refused : (why : WireError) → Err why ≡ read_field mode s at → seeking (walk_at mode s at) ≡ spot_of why
  spot-refused why h = ap seeking (walk_on mode s at (Err why) h)

  on_spot : (f : Field) (x : Option Spot) → Ok (Some f) ≡ read_field mode s at → x ≡ field_spot mode k s f
      → seeking (walk_at mode s at) ≡ or_else x (seeking (walk_at mode s f.next))
  unfolding field_spot
  on_spot f x h g = ap seeking (walk_on mode s at (Ok (Some f)) h)
      ∙ ap (λ (y : Option Spot). or_else y (seeking (walk_at mode s f.next))) (sym g)

  pub spot-found : (f : Field) (x : Option Spot) → Ok (Some f) ≡ read_field mode s at → x ≡ field_spot mode k s f
      → is_some x ≡ true → seeking (walk_at mode s at) ≡ x
  spot-found f x h g e = on_spot f x h g ∙ found x (seeking (walk_at mode s f.next)) e

  pub spot-turn : (f : Field) (x : Option Spot) → Ok (Some f) ≡ read_field mode s at → x ≡ field_spot mode k s f
      → is_some x ≡ false → seeking (walk_at mode s at) ≡ seeking (walk_at mode s f.next)
  spot-turn f x h g e = on_spot f x h g ∙ absent x (seeking (walk_at mode s f.next)) e

-- ---- the slots: t before the place `at`
module _ (mode : Mode) (k : Kind) (s : List ℕ) (at : ℕ) (t : Slots) where
  pub slots_end : Ok None ≡ read_field mode s at → slots_along k t (walk_at mode s at) ≡ t
  slots_end h = ap (slots_along k t) (walk_on mode s at (Ok None) h)

  pub slots_refused : (why : WireError) → Err why ≡ read_field mode s at → slots_along k t (walk_at mode s at) ≡ t
  slots_refused why h = ap (slots_along k t) (walk_on mode s at (Err why) h)

  pub slots_turn : (f : Field) (u : Slots) → Ok (Some f) ≡ read_field mode s at → u ≡ with_field k t f
      → slots_along k t (walk_at mode s at) ≡ slots_along k u (walk_at mode s f.next)
  slots_turn f u h d =
      ap (slots_along k t) (walk_on mode s at (Ok (Some f)) h)
      ∙ ap (λ (x : Slots). slots_along k x (walk_at mode s f.next)) (sym d)
