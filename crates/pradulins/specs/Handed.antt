-- What a call hands out in the values that it is lent: from the first on those beside its number, of which there are at
-- most four, and from the fifth on the place of a refusal: its offset and three numbers of fields. The others stay. The
-- settings of a node are five: Settles of Unique.
use Rattle.std.specs.Prelude.{Option, Some, None, ℕ, List, [], ◌∷◌}
use Rattle.std.proofs.lemmas.List.Edits.{sets}
use Rattle.basis.specs.declared.Spot.{Spot}
use Rattle.basis.specs.declared.Told.{Told}
use Rattle.basis.specs.Told.{values_of}

abbrev pub spot_words : Option Spot → List ℕ
spot_words None = []
spot_words (Some spot) = spot.offset ∷ spot.outer ∷ spot.middle ∷ spot.inner ∷ []

abbrev pub handed : Told → List ℕ → List ℕ
handed t vs = sets (sets vs 0 (values_of t)) 4 (spot_words t.spot)
