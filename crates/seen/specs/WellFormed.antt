-- A well formed seen cache, as the scope has it: each clause by name. `well_formed-exactly` of Laws says that this is
-- what the test asks.
use Rattle.std.specs.Prelude.{ℕ, ◌*◌, ◌≤◌, ◌<◌, ◌≡◌, true, List, length, get_or}
use Rattle.rows.specs.Rows.{place_of}
use Rattle.rows.specs.Store.{id_at}
use Rattle.seen.specs.declared.SeenCache.{SeenCache}
use Rattle.seen.specs.State.{fresh, id_size, max_ids, ring_of}
use Rattle.seen.specs.Calls.{cap_of, whole_rows, insert_cache, insert_store, gc_cache}

-- true of every SeenCache, by its type
abbrev pub Sized : SeenCache → Type 0
Sized c = (length c.expiry ≡ max_ids) × (length c.len ≡ max_ids)

pub record WellFormed (c : SeenCache) (st : List ℕ) : Type 0 where
  -- the store is whole rows of 129 bytes, and at most 256
  pub whole : length st ≡ cap_of st * id_size
  pub few : cap_of st ≤ max_ids
  pub starts : c.start ≤ cap_of st
  pub within : c.count ≤ cap_of st
  -- the i-th row from the oldest stands in place `place_of (ring_of (cap_of st) c) i`
  pub short : (i : ℕ) → i < c.count → get_or c.len (place_of (ring_of (cap_of st) c) i) 0 ≤ id_size
  -- no id twice
  pub once : (i j : ℕ) → i < j → j < c.count → id_at id_size c.len st (place_of (ring_of (cap_of st) c) i) ≡ id_at id_size
      c.len st (place_of (ring_of (cap_of st) c) j) → ⊥

-- the states that the calls reach: a new cache with a store of whole rows; then inserts of anything, the refused ones
-- too, and clean-ups
pub data Reached : SeenCache → List ℕ → Type 0 where
  begun : (st : List ℕ) → whole_rows st ≡ true → Reached fresh st
  recorded : {c : SeenCache} {st : List ℕ} → Reached c st → (max at ttl : ℕ) (id : List ℕ)
      → Reached (insert_cache max at ttl c st id) (insert_store max c st id)
  swept : {c : SeenCache} {st : List ℕ} → Reached c st → (at : ℕ) → Reached (gc_cache at c st) st
