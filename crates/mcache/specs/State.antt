-- What a cache and its store hold. A store has max_messages places of 4,096 bytes. The message in place p is the first
-- `len[p]` bytes of that place; its id is the first `id_len[p]` bytes of the p-th 128 bytes of `ids`; its topics are
-- `topic_count[p]` parts of it, each with its start and its length in the p-th four of `topic_start` and `topic_len`.
use Rattle.std.specs.Prelude.{◌≡◌, ℕ, suc, ◌+◌, ◌-◌, ◌*◌, ◌%◌, ◌^◌, ◌<◌, ◌≤◌, Bool, true, cond, ◌&&◌, List, [], ◌∷◌, ◌++◌, map, length, take, drop, replicate, ◌==◌, nat_le, nat_lt, slice_index, slice_set}
use Rattle.std.proofs.lemmas.List.Edits.{sets}
use Rattle.basis.specs.declared.Mode.{Mode}
use Rattle.basis.specs.Dialect.{mode_of}
use Rattle.rows.specs.declared.Ring.{Ring}
use Rattle.rows.specs.Rows.{place_of, rows_in}
use Rattle.rows.specs.Ids.{precedes_bytes, among, distinct}
use Rattle.rows.specs.Store.{id_at, ids_in, in_use, all_up_to}
use Rattle.admission.specs.Flags.{known_flags}
use Rattle.admission.specs.Admission.{Span, topic_places, cut, starts_of, sizes_of, spans_in, kept_with}
use Rattle.mcache.specs.declared.MessageCache.{MessageCache}
use Rattle.mcache.specs.Messages.{Cached}

-- the bytes of a message's place, the most bytes of its id, and the most messages and windows
abbrev pub message_size : ℕ
message_size = 4096

abbrev pub message_id_size : ℕ
message_id_size = 128

abbrev pub message_limit : ℕ
message_limit = 64

abbrev pub max_history : ℕ
max_history = 16

-- the bytes of all ids
abbrev pub ids_size : ℕ
ids_size = message_limit * message_id_size

-- the most topics of a message, and the places for those of all
abbrev pub max_topics : ℕ
max_topics = 4

abbrev pub topics_size : ℕ
topics_size = message_limit * max_topics

-- the rows
abbrev pub ring_of : MessageCache → Ring
ring_of c = record { cap = c.max_messages; start = c.start; count = c.count }

-- the message in place p
unfoldable pub message_in : List ℕ → List ℕ → ℕ → List ℕ
message_in lens st p = take (slice_index lens p) (drop (p * message_size) st)

-- ---- where its topics stand in it, as they are kept beside it
pub record Table : Type 0 where
  pub counts : List ℕ
  pub starts : List ℕ
  pub sizes : List ℕ

abbrev pub table : List ℕ → List ℕ → List ℕ → Table
table counts starts sizes = record { counts = counts; starts = starts; sizes = sizes }

abbrev pub table_of : MessageCache → Table
table_of c = table c.topic_count c.topic_start c.topic_len

unfoldable pub topics_at : Table → ℕ → List Span
topics_at t p = spans_in (drop (p * max_topics) t.starts) (drop (p * max_topics) t.sizes) (slice_index t.counts p)

-- what is kept of a message: where its topics stand, at most four
unfoldable pub kept_places : Mode → List ℕ → List Span
kept_places mode m = take max_topics (topic_places mode m)

-- n places of a message were found, as numbers: what is to be kept of it
pub record Found (mode : Mode) (m : List ℕ) (n : ℕ) (a b : List ℕ) : Type 0 where
  pub counts : n ≡ length (kept_places mode m)
  pub starts : take n a ≡ starts_of (kept_places mode m)
  pub sizes : take n b ≡ sizes_of (kept_places mode m)
  pub starts-room : n ≤ length a
  pub sizes-room : n ≤ length b
  pub starts-small : (i : ℕ) → i < n → slice_index a i < 65536
  pub sizes-small : (i : ℕ) → i < n → slice_index b i < 65536

-- the table with that in place p; slots past the count stay as they were
unfoldable pub noted : Mode → List ℕ → ℕ → Table → Table
noted mode m p t =
    record {
      counts = slice_set t.counts p (length (kept_places mode m));
      starts = sets t.starts (p * max_topics) (starts_of (kept_places mode m));
      sizes = sets t.sizes (p * max_topics) (sizes_of (kept_places mode m));
    }

unfoldable pub cached_at : MessageCache → List ℕ → ℕ → Cached
cached_at c st p =
    record {
      id = id_at message_id_size c.id_len c.ids p;
      message = message_in c.len st p;
      window = slice_index c.window p;
    }

-- the messages, the oldest first
unfoldable pub cached_in : MessageCache → List ℕ → List Cached
cached_in c st = rows_in (cached_at c st) (ring_of c)

-- ---- well formed, as the scope has it
-- window ages never rise from old to new, and the first is at most `most`
unfoldable pub falls_from : ℕ → List ℕ → Bool
falls_from most [] = true
falls_from most (w ∷ ws) = nat_le w most && falls_from w ws

-- arrival numbers go up by one and on to the next, wrapping: each and the number of rows from it on make `next`
unfoldable pub runs_to : ℕ → List ℕ → Bool
runs_to next [] = true
runs_to next (g ∷ gs) = (g + length (g ∷ gs)) % 2 ^ 64 == next && runs_to next gs

-- a message fits its place, may be taken under the flags, gives its stored id, and has its topics where they are kept
unfoldable pub gives_at : ℕ → List ℕ → List ℕ → List ℕ → Table → List ℕ → ℕ → Bool
gives_at flags lens ilens ids table st p =
    nat_le (slice_index lens p) message_size
    && kept_with flags (message_in lens st p) (id_at message_id_size ilens ids p) (topics_at table p)

unfoldable pub all_true : List Bool → Bool
all_true [] = true
all_true (b ∷ bs) = b && all_true bs

unfoldable pub gives_in : ℕ → Ring → List ℕ → List ℕ → List ℕ → Table → List ℕ → Bool
gives_in flags ring lens ilens ids table st = all_true (rows_in (gives_at flags lens ilens ids table st) ring)

unfoldable pub ids_fit : MessageCache → List ℕ → Bool
ids_fit c st =
    all_up_to message_id_size (in_use (ring_of c) c.id_len)
    && (gives_in c.flags (ring_of c) c.len c.id_len c.ids (table_of c) st
    && distinct (ids_in message_id_size (ring_of c) c.id_len c.ids))

unfoldable pub rows_fit : MessageCache → List ℕ → Bool
rows_fit c st =
    falls_from (c.history_len - 1) (in_use (ring_of c) c.window)
    && (runs_to c.next_generation (in_use (ring_of c) c.generation)
    && ids_fit c st)

-- settings: history_len 1 to 16, max_messages 0 to 64, known flags
unfoldable pub legal : ℕ → ℕ → ℕ → Bool
legal history max flags = nat_le 1 history && (nat_le history max_history && (nat_le max message_limit && known_flags flags))

unfoldable pub well_formed : MessageCache → List ℕ → Bool
well_formed c st =
    legal c.history_len c.max_messages c.flags
    && (nat_le c.start c.max_messages && (nat_le c.count c.max_messages && rows_fit c st))

-- ---- what the rows need of the arrays and the store
pub record Roomy (table : Table) : Type 0 where
  pub counts : length table.counts ≡ message_limit
  pub starts : length table.starts ≡ topics_size
  pub sizes : length table.sizes ≡ topics_size

pub record Laid (ring : Ring) (lens ilens ids : List ℕ) (table : Table) (st : List ℕ) : Type 0 where
  pub few : ring.cap ≤ message_limit
  pub starts : ring.start ≤ ring.cap
  pub within : ring.count ≤ ring.cap
  pub lengths : length lens ≡ message_limit
  pub id-lengths : length ilens ≡ message_limit
  pub id-room : length ids ≡ ids_size
  pub topics : Roomy table
  pub room : length st ≡ ring.cap * message_size
  pub id-short : (i : ℕ) → i < ring.count → slice_index ilens (place_of ring i) ≤ message_id_size

-- what a new row needs
pub record Placed (c : MessageCache) (st : List ℕ) : Type 0 where
  pub few : c.max_messages ≤ message_limit
  pub starts : c.start ≤ c.max_messages
  pub within : c.count ≤ c.max_messages
  pub room : length st ≡ c.max_messages * message_size
  pub lengths : length c.len ≡ message_limit
  pub id-lengths : length c.id_len ≡ message_limit
  pub id-room : length c.ids ≡ ids_size
  pub topics : Roomy (table_of c)
  pub windows : length c.window ≡ message_limit
  pub generations : length c.generation ≡ message_limit

pub record Usable (c : MessageCache) (st : List ℕ) : Type 0 where
  pub rows : Laid (ring_of c) c.len c.id_len c.ids (table_of c) st
  pub short : (i : ℕ) → i < c.count → slice_index c.len (place_of (ring_of c) i) ≤ message_size
  pub windows : length c.window ≡ message_limit
  pub generations : length c.generation ≡ message_limit

-- ---- the steps on the rows
unfoldable pub fresh : ℕ → ℕ → ℕ → MessageCache
fresh history max flags =
    record {
      history_len = history;
      max_messages = max;
      next_generation = 0;
      start = 0;
      count = 0;
      generation = replicate message_limit 0;
      window = replicate message_limit 0;
      len = replicate message_limit 0;
      id_len = replicate message_limit 0;
      ids = replicate ids_size 0;
      topic_count = replicate message_limit 0;
      topic_start = replicate topics_size 0;
      topic_len = replicate topics_size 0;
      flags = flags;
    }

unfoldable pub dropped : ℕ → MessageCache → MessageCache
dropped k c =
    record {
      history_len = c.history_len;
      max_messages = c.max_messages;
      next_generation = c.next_generation;
      start = place_of (ring_of c) k;
      count = c.count - k;
      generation = c.generation;
      window = c.window;
      len = c.len;
      id_len = c.id_len;
      ids = c.ids;
      topic_count = c.topic_count;
      topic_start = c.topic_start;
      topic_len = c.topic_len;
      flags = c.flags;
    }

-- a message m more, in the newest window, with the next arrival number
unfoldable pub appended : List ℕ → List ℕ → MessageCache → MessageCache
appended m id c =
    let p = place_of (ring_of c) c.count in
    let t = noted (mode_of c.flags) m p (table_of c) in
    record {
      history_len = c.history_len;
      max_messages = c.max_messages;
      next_generation = (c.next_generation + 1) % 2 ^ 64;
      start = c.start;
      count = c.count + 1;
      generation = slice_set c.generation p c.next_generation;
      window = slice_set c.window p 0;
      len = slice_set c.len p (length m);
      id_len = slice_set c.id_len p (length id);
      ids = sets c.ids (p * message_id_size) id;
      topic_count = t.counts;
      topic_start = t.starts;
      topic_len = t.sizes;
      flags = c.flags;
    }

-- the next arrival number is given, and nothing is kept
unfoldable pub passed : MessageCache → MessageCache
passed c =
    record {
      history_len = c.history_len;
      max_messages = c.max_messages;
      next_generation = (c.next_generation + 1) % 2 ^ 64;
      start = c.start;
      count = c.count;
      generation = c.generation;
      window = c.window;
      len = c.len;
      id_len = c.id_len;
      ids = c.ids;
      topic_count = c.topic_count;
      topic_start = c.topic_start;
      topic_len = c.topic_len;
      flags = c.flags;
    }

-- a window's age, a window later; ages in use are below 16
unfoldable pub older : ℕ → ℕ
older w = cond (nat_lt w 255) (w + 1) w

unfoldable pub aged : MessageCache → MessageCache
aged c =
    record {
      history_len = c.history_len;
      max_messages = c.max_messages;
      next_generation = c.next_generation;
      start = c.start;
      count = c.count;
      generation = c.generation;
      window = map older c.window;
      len = c.len;
      id_len = c.id_len;
      ids = c.ids;
      topic_count = c.topic_count;
      topic_start = c.topic_start;
      topic_len = c.topic_len;
      flags = c.flags;
    }

-- how many of the oldest leave when a window is opened: those in front of the first that stays
unfoldable pub stale : ℕ → List ℕ → ℕ
stale history [] = 0
stale history (w ∷ ws) = cond (nat_lt (w + 1) history) 0 (suc (stale history ws))

-- ---- the rows that are told of, in the order of their ids
-- one of the topics of the message in place p is this one, by the places that are kept of them
abbrev pub has_topic : List ℕ → Table → List ℕ → List ℕ → ℕ → Bool
has_topic lens table st topic p = among topic (map (cut (message_in lens st p)) (topics_at table p))

-- and it is in the newest windows asked for
unfoldable pub told : List ℕ → List ℕ → Table → List ℕ → ℕ → List ℕ → ℕ → Bool
told window lens table st windows topic p = nat_lt (slice_index window p) windows && has_topic lens table st topic p

-- how many rows stand before p
unfoldable pub spot_of : (ℕ → List ℕ) → ℕ → List ℕ → ℕ
spot_of id p [] = 0
spot_of id p (q ∷ qs) = cond (precedes_bytes (id q) (id p)) (suc (spot_of id p qs)) 0

-- x at a place of a list, the rest after it
unfoldable pub put_at : ℕ → ℕ → List ℕ → List ℕ
put_at at x l = take at l ++ (x ∷ drop at l)

unfoldable pub insert_row : (ℕ → List ℕ) → ℕ → List ℕ → List ℕ
insert_row id p [] = p ∷ []
insert_row id p (q ∷ qs) = cond (precedes_bytes (id q) (id p)) (q ∷ insert_row id p qs) (p ∷ q ∷ qs)

-- the rows of ps that are told of, put one after the other among those in qs
unfoldable pub gather_into : (ℕ → Bool) → (ℕ → List ℕ) → List ℕ → List ℕ → List ℕ
gather_into t id qs [] = qs
gather_into t id qs (p ∷ ps) = gather_into t id (cond (t p) (insert_row id p qs) qs) ps

-- the first n of some rows have ids
pub record Listed (n : ℕ) (rows ilens ids : List ℕ) : Type 0 where
  pub lengths : length ilens ≡ message_limit
  pub room : length ids ≡ ids_size
  pub places : (i : ℕ) → i < n → (slice_index rows i < message_limit) × (slice_index ilens (slice_index rows i) ≤ message_id_size)
