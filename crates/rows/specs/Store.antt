-- Ids in a store of `cap` places of `size` bytes each: the id in place p is the first `lens[p]` bytes of that place.
use Rattle.std.specs.Prelude.{ℕ, ◌*◌, ◌≤◌, ◌<◌, List, [], ◌∷◌, Bool, true, ◌&&◌, length, take, drop, get_or, leb}
use Rattle.rows.specs.declared.Ring.{Ring}
use Rattle.rows.specs.Rows.{place_of, rows_in}

unfoldable pub id_at : ℕ → List ℕ → List ℕ → ℕ → List ℕ
id_at size lens st p = take (get_or lens p 0) (drop (p * size) st)

-- the ids in use, and the numbers in use of an array, the oldest first
unfoldable pub ids_in : ℕ → Ring → List ℕ → List ℕ → List (List ℕ)
ids_in size ring lens st = rows_in (id_at size lens st) ring

unfoldable pub in_use : Ring → List ℕ → List ℕ
in_use ring l = rows_in (λ (p : ℕ). get_or l p 0) ring

unfoldable pub all_up_to : ℕ → List ℕ → Bool
all_up_to most [] = true
all_up_to most (n ∷ ns) = leb n most && all_up_to most ns

-- rows that an array has
pub record InStore (ring : Ring) (l : List ℕ) : Type 0 where
  pub starts : ring.start ≤ ring.cap
  pub within : ring.count ≤ ring.cap
  pub size : ring.cap ≤ length l

-- and that the store has
pub record Sound (size : ℕ) (ring : Ring) (lens st : List ℕ) : Type 0 where
  pub rows : InStore ring lens
  pub room : ring.cap * size ≤ length st
  pub short : (i : ℕ) → i < ring.count → get_or lens (place_of ring i) 0 ≤ size
