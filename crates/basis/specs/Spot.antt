-- Where in a body a refusal stands: an offset from the body's start, and the numbers of the fields that enclose it, the
-- outermost first. They are kept as three words, 0 for none: no field has the number 0, and a body is three deep.
use Rattle.std.specs.Prelude.{Option, Some, None, ℕ, ◌+◌, ◌^◌, ◌≤◌, ◌<◌, List, [], ◌∷◌, cond, eqb}
use Rattle.basis.specs.declared.Spot.{Spot}

-- a place that no field encloses
abbrev pub at : ℕ → Spot
at offset = record { offset = offset; outer = 0; middle = 0; inner = 0 }

-- the same place in what encloses it: in a field n whose bytes stand from `start`
abbrev pub inside : ℕ → ℕ → Option Spot → Option Spot
inside n start None = None
inside n start (Some spot) =
    Some (record { offset = start + spot.offset; outer = n; middle = spot.outer; inner = spot.middle })

-- the first of two
abbrev pub or_else : Option Spot → Option Spot → Option Spot
or_else None later = later
or_else (Some spot) later = Some spot

-- the numbers as a list
abbrev before : ℕ → List ℕ → List ℕ
before n ns = cond (eqb n 0) [] (n ∷ ns)

abbrev pub fields_of : Option Spot → List ℕ
fields_of None = []
fields_of (Some spot) = before spot.outer (before spot.middle (before spot.inner []))

-- a place lies within n bytes: on one of them, or after the last
abbrev pub Within : ℕ → Option Spot → Type 0
Within n None = Unit {0}
Within n (Some spot) = spot.offset ≤ n

-- an offset from `start` is a number of the machine
abbrev pub Reaches : ℕ → Option Spot → Type 0
Reaches start None = Unit {0}
Reaches start (Some spot) = start + spot.offset < 2 ^ 64
