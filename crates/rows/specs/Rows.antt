-- A ring of rows: `count` of `cap` places are in use, from `start` on; after the last place comes the first.
use Rattle.std.specs.Prelude.{ℕ, zero, suc, ◌+◌, ◌-◌, List, [], ◌∷◌, cond, length, drop, ltb}
use Rattle.rows.specs.declared.Ring.{Ring}

-- f 0 to f (n - 1)
abbrev pub tab : {A : Type 0} → (ℕ → A) → ℕ → List A
tab f zero = []
tab f (suc n) = f 0 ∷ tab (λ (i : ℕ). f (suc i)) n

-- the place of the i-th row from the oldest
unfoldable pub place_of : Ring → ℕ → ℕ
place_of ring i = cond (ltb i (ring.cap - ring.start)) (ring.start + i) (i - (ring.cap - ring.start))

-- what stands in the rows in use, the oldest first, where f says what stands in a place
unfoldable pub rows_in : {A : Type 0} → (ℕ → A) → Ring → List A
rows_in f ring = tab (λ (i : ℕ). f (place_of ring i)) ring.count

-- without the k oldest, and with a row more
abbrev pub without : ℕ → Ring → Ring
without k ring = record { cap = ring.cap; start = place_of ring k; count = ring.count - k }

abbrev pub one_more : Ring → Ring
one_more ring = record { cap = ring.cap; start = ring.start; count = ring.count + 1 }

-- the newest `max`: the oldest leave until at most `max` remain
unfoldable pub newest : {A : Type 0} → ℕ → List A → List A
newest max l = drop (length l - max) l
