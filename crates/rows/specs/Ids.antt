-- Ids are bytes, compared byte by byte.
use Rattle.std.specs.Prelude.{ℕ, suc, List, [], ◌∷◌, Bool, true, false, cond, not, ◌&&◌, ◌||◌, eqb, ltb}

unfoldable pub same_bytes : List ℕ → List ℕ → Bool
same_bytes [] [] = true
same_bytes [] (y ∷ ys) = false
same_bytes (x ∷ xs) [] = false
same_bytes (x ∷ xs) (y ∷ ys) = eqb x y && same_bytes xs ys

-- byte order, a prefix first
unfoldable pub precedes_bytes : List ℕ → List ℕ → Bool
precedes_bytes [] [] = false
precedes_bytes [] (y ∷ ys) = true
precedes_bytes (x ∷ xs) [] = false
precedes_bytes (x ∷ xs) (y ∷ ys) = cond (eqb x y) (precedes_bytes xs ys) (ltb x y)

-- an id is among others
unfoldable pub among : List ℕ → List (List ℕ) → Bool
among i [] = false
among i (j ∷ js) = same_bytes j i || among i js

-- no id twice
unfoldable pub distinct : List (List ℕ) → Bool
distinct [] = true
distinct (i ∷ is) = not (among i is) && distinct is

-- which of some ids is this one first; their number where none is
unfoldable pub index_of : List ℕ → List (List ℕ) → ℕ
index_of i [] = 0
index_of i (j ∷ js) = cond (same_bytes j i) 0 (suc (index_of i js))
