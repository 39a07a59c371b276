-- A well formed message cache, as the scope has it: each clause by name. `well_formed-exactly` of WellFormedLaws says
-- that this is what the test asks.
use Rattle.std.specs.Prelude.{◌≡◌, ℕ, suc, ◌+◌, ◌*◌, ◌%◌, ◌^◌, ◌<◌, ◌≤◌, true, List, length, replicate, ◌≢◌, slice_index}
use Rattle.basis.specs.Dialect.{mode_of}
use Rattle.basis.specs.declared.Edition.{Edition}
use Rattle.rows.specs.Rows.{place_of}
use Rattle.rows.specs.Store.{id_at}
use Rattle.admission.specs.Flags.{max_flags}
use Rattle.admission.specs.Admission.{topic_places}
use Rattle.admission.specs.AdmissionLaws.{Gives}
use Rattle.mcache.specs.declared.MessageCache.{MessageCache}
use Rattle.mcache.specs.State.{message_in, legal, message_size, message_id_size, message_limit, max_history, ids_size}
use Rattle.mcache.specs.State.{topics_size, Roomy, table_of, topics_at, ring_of}
use Rattle.mcache.specs.Calls.{planned, kept_in, stored_in, shift_cache}

-- ---- true of every MessageCache, by its type: its arrays have their sizes
pub record Sized (c : MessageCache) : Type 0 where
  pub generations : length c.generation ≡ message_limit
  pub windows : length c.window ≡ message_limit
  pub lengths : length c.len ≡ message_limit
  pub id-lengths : length c.id_len ≡ message_limit
  pub id-room : length c.ids ≡ ids_size
  pub topics : Roomy (table_of c)

-- and arrival numbers are below 2 ^ 64
pub record Typed (c : MessageCache) : Type 0 where
  pub sized : Sized c
  pub next_small : c.next_generation < 2 ^ 64
  pub small : (p : ℕ) → slice_index c.generation p < 2 ^ 64

-- ---- well formed
-- the i-th row from the oldest stands in this place
abbrev pub row_of : MessageCache → ℕ → ℕ
row_of c i = place_of (ring_of c) i

abbrev pub id_of : MessageCache → ℕ → List ℕ
id_of c i = id_at message_id_size c.id_len c.ids (row_of c i)

abbrev pub window_of : MessageCache → ℕ → ℕ
window_of c i = slice_index c.window (row_of c i)

abbrev pub number_of : MessageCache → ℕ → ℕ
number_of c i = slice_index c.generation (row_of c i)

pub record WellFormed (c : MessageCache) (st : List ℕ) : Type 0 where
  -- the store has max_messages places of 4,096 bytes
  pub room : length st ≡ c.max_messages * message_size
  -- settings are legal
  pub history_some : 1 ≤ c.history_len
  pub history_few : c.history_len ≤ max_history
  pub few : c.max_messages ≤ message_limit
  pub known : c.flags ≤ max_flags
  -- counts and lengths are within limits
  pub starts : c.start ≤ c.max_messages
  pub within : c.count ≤ c.max_messages
  pub short : (i : ℕ) → i < c.count → slice_index c.len (row_of c i) ≤ message_size
  pub id-short : (i : ℕ) → i < c.count → slice_index c.id_len (row_of c i) ≤ message_id_size
  -- no id twice
  pub once : (i j : ℕ) → i < j → j < c.count → id_of c i ≢ id_of c j
  -- window ages are below history_len and never rise from old to new
  pub recent : (i : ℕ) → i < c.count → window_of c i < c.history_len
  pub falls : (i : ℕ) → suc i < c.count → window_of c (suc i) ≤ window_of c i
  -- arrival numbers are consecutive from old to new, wrapping, and on to the next to be given
  pub follows : (i : ℕ) → suc i < c.count → number_of c (suc i) ≡ (number_of c i + 1) % 2 ^ 64
  pub last : (i : ℕ) → suc i ≡ c.count → c.next_generation ≡ (number_of c i + 1) % 2 ^ 64
  -- each cached message may be taken under the flags and gives its stored id
  pub gives : (i : ℕ) → i < c.count → Gives c.flags (message_in c.len st (row_of c i)) (id_of c i)
  -- and its topics stand where the row has them: as many, each with this start and this length
  pub topics : (i : ℕ) → i < c.count → topics_at (table_of c) (row_of c i)
      ≡ topic_places (mode_of c.flags) (message_in c.len st (row_of c i))

-- ---- the states that the calls reach
-- a new cache whose first message gets the arrival number `next`; `start` gives the number 0
unfoldable pub fresh_at : ℕ → ℕ → ℕ → ℕ → MessageCache
fresh_at next history max flags =
    record {
      history_len = history;
      max_messages = max;
      next_generation = next;
      start = 0;
      count = 0;
      generation = replicate message_limit 0;
      window = replicate message_limit 0;
      len = replicate message_limit 0;
      id_len = replicate message_limit 0;
      ids = replicate ids_size 0;
      topic_count = replicate message_limit 0;
      topic_start = replicate topics_size 0;
      topic_len = replicate topics_size 0;
      flags = flags;
    }

-- a new cache with legal settings and a store of their length; then puts of anything, the refused ones too, and windows
-- opened
pub data Reached : MessageCache → List ℕ → Type 0 where
  begun : (next history max flags : ℕ) (st : List ℕ) → next < 2 ^ 64 → legal history max flags ≡ true
      → length st ≡ max * message_size → Reached (fresh_at next history max flags) st
  given : {c : MessageCache} {st : List ℕ} → Reached c st → (ed : Edition) (body : List ℕ) (i : ℕ)
      → Reached (kept_in c (planned c st ed body i)) (stored_in c st (planned c st ed body i))
  opened : {c : MessageCache} {st : List ℕ} → Reached c st → Reached (shift_cache c st) st
