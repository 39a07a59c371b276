-- A place and a number from words: whether it is there, and what it is.
use Rattle.std.specs.Prelude.{ℕ, cond, eqb}
use Rattle.schema.specs.declared.Place.{Place}
use Rattle.schema.specs.declared.Place.TheVariants as place
use Rattle.schema.specs.declared.Number.{Number}
use Rattle.schema.specs.declared.Number.TheVariants as number

unfoldable pub number_from : ℕ → ℕ → Number
number_from there v = cond (eqb there 0) number.Absent (number.Present v)

unfoldable pub place_from : ℕ → ℕ → ℕ → Place
place_from there a e = cond (eqb there 0) place.Absent (place.Present a e)
