-- Calls that are written out with messages of a set admit set members only.
use Rattle.std.specs.Prelude.{Bool, true, ◌&&◌, List, [], ◌∷◌, ℕ}
use Rattle.rows.specs.Ids.{among}
use Rattle.history.specs.Script.{Act, gets, beats, asks}

unfoldable pub in_set : List (List ℕ) → List Act → Bool
in_set set [] = true
in_set set (gets ed body m id at ∷ xs) = among m set && in_set set xs
in_set set (beats at ∷ xs) = in_set set xs
in_set set (asks ed body out ∷ xs) = in_set set xs
