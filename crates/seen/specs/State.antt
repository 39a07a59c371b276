-- What a cache and its store hold. A store has `cap` places of 129 bytes. The row in place p is the id in the first
-- `len[p]` bytes of that place, with `expiry[p]`.
use Rattle.std.specs.Prelude.{ℕ, suc, ◌+◌, ◌-◌, List, [], ◌∷◌, Bool, cond, ◌&&◌, get_or, set, replicate, leb}
use Rattle.rows.specs.declared.Ring.{Ring}
use Rattle.rows.specs.Rows.{place_of, rows_in}
use Rattle.rows.specs.Ids.{distinct}
use Rattle.rows.specs.Store.{id_at, ids_in, in_use, all_up_to}
use Rattle.seen.specs.declared.SeenCache.{SeenCache}
use Rattle.seen.specs.Entries.{Entry}

-- the bytes of a row, and the most rows
abbrev pub id_size : ℕ
id_size = 129

abbrev pub max_ids : ℕ
max_ids = 256

-- the rows in a store of cap places
abbrev pub ring_of : ℕ → SeenCache → Ring
ring_of cap c = record { cap = cap; start = c.start; count = c.count }

-- the entries, the oldest first
unfoldable pub row_at : SeenCache → List ℕ → ℕ → Entry
row_at c st p = record { id = id_at id_size c.len st p; expiry = get_or c.expiry p 0 }

unfoldable pub entries_in : ℕ → SeenCache → List ℕ → List Entry
entries_in cap c st = rows_in (row_at c st) (ring_of cap c)

-- ---- well formed, as the scope has it for a seen cache alone: counts and lengths within limits, no id twice
unfoldable pub well_formed : ℕ → SeenCache → List ℕ → Bool
well_formed cap c st =
    leb c.start cap
    && (leb c.count cap
    && (all_up_to id_size (in_use (ring_of cap c) c.len) && distinct (ids_in id_size (ring_of cap c) c.len st)))

-- ---- how many of the oldest have expired
unfoldable pub spent : ℕ → List ℕ → ℕ
spent at [] = 0
spent at (e ∷ es) = cond (leb e at) (suc (spent at es)) 0

-- ---- the steps on the rows
unfoldable pub fresh : SeenCache
fresh = record { start = 0; count = 0; expiry = replicate max_ids 0; len = replicate max_ids 0 }

unfoldable pub dropped : ℕ → ℕ → SeenCache → SeenCache
dropped cap k c = record { start = place_of (ring_of cap c) k; count = c.count - k; expiry = c.expiry; len = c.len }

unfoldable pub appended : ℕ → ℕ → ℕ → SeenCache → SeenCache
appended cap n e c =
    record {
      start = c.start;
      count = c.count + 1;
      expiry = set c.expiry (place_of (ring_of cap c) c.count) e;
      len = set c.len (place_of (ring_of cap c) c.count) n;
    }
