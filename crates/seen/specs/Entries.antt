-- The seen cache as the scope and seen.rs have it: ids with their expiries, the oldest first.
use Rattle.std.specs.Prelude.{Option, Some, None, ℕ, ◌+◌, ◌-◌, ◌^◌, min, List, [], ◌∷◌, ◌++◌, map, Bool, cond, leb}
use Rattle.rows.specs.Rows.{newest}
use Rattle.rows.specs.Ids.{among}

pub record Entry : Type 0 where
  pub id : List ℕ
  pub expiry : ℕ

abbrev pub ids_of : List Entry → List (List ℕ)
ids_of es = map (λ (e : Entry). e.id) es

-- an id is held
unfoldable pub holds : List ℕ → List Entry → Bool
holds id es = among id (ids_of es)

-- now + ttl, stopping at 2^64 − 1
unfoldable pub until : ℕ → ℕ → ℕ
until at ttl = min (at + ttl) (2 ^ 64 - 1)

-- an insert of a held id changes nothing; otherwise the id goes last, and the oldest leave
unfoldable pub inserted : ℕ → List ℕ → ℕ → ℕ → List Entry → List Entry
inserted max id at ttl es = cond (holds id es) es (newest max (es ++ (record { id = id; expiry = until at ttl } ∷ [])))

-- clean-up drops from the front while the expiry is at most `at`
unfoldable pub live : ℕ → List Entry → List Entry
live at [] = []
live at (e ∷ es) = cond (leb e.expiry at) (live at es) (e ∷ es)

-- the front's expiry
unfoldable pub front_expiry : List Entry → Option ℕ
front_expiry [] = None
front_expiry (e ∷ es) = Some e.expiry
