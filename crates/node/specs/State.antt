-- What a node and its two stores hold, and when they are well formed.
use Rattle.std.specs.Prelude.{ℕ, ◌*◌, ◌≤◌, ◌≡◌, List, [], ◌∷◌, Bool, true, ◌&&◌, length, leb}
use Rattle.rows.specs.declared.Ring.{Ring}
use Rattle.rows.specs.Store.{InStore, Sound, in_use}
use Rattle.seen.specs.State.{entries_in, well_formed as seenWellFormed, fresh as noIds, id_size, max_ids}
use Rattle.seen.specs.State.{ring_of as seenRingOf}
use Rattle.mcache.specs.State.{Usable, cached_in, legal, well_formed as cacheWellFormed, fresh as noMessages}
use Rattle.node.specs.declared.Node.{Node}
use Rattle.node.specs.Gateway.{Gateway}

-- the rows of the ids seen
abbrev pub seen_ring : Node → Ring
seen_ring n = seenRingOf n.max_seen n.seen

-- the gateway that a node with its stores is
unfoldable pub gateway_in : Node → List ℕ → List ℕ → Gateway
gateway_in n ss cs =
    record {
      ttl = n.ttl;
      max_seen = n.max_seen;
      history_len = n.cache.history_len;
      max_messages = n.cache.max_messages;
      flags = n.cache.flags;
      clock = n.clock;
      seen = entries_in n.max_seen n.seen ss;
      cache = cached_in n.cache cs;
    }

-- ---- settings: max_seen 0 to 256, history_len 1 to 16, max_messages 0 to 64, known flags, any ttl
unfoldable pub legal_settings : ℕ → ℕ → ℕ → ℕ → Bool
legal_settings max_seen history max flags = leb max_seen max_ids && legal history max flags

unfoldable pub fresh_node : ℕ → ℕ → ℕ → ℕ → ℕ → Node
fresh_node ttl max_seen history max flags =
    record { ttl = ttl; max_seen = max_seen; clock = 0; seen = noIds; cache = noMessages history max flags }

-- ---- well formed
-- expiries never fall from old to new, and the first is at least `least`
unfoldable pub rises_from : ℕ → List ℕ → Bool
rises_from least [] = true
rises_from least (e ∷ es) = leb least e && rises_from e es

unfoldable pub seen_fits : Node → List ℕ → Bool
seen_fits n ss =
    leb n.max_seen max_ids
    && (seenWellFormed n.max_seen n.seen ss && rises_from 0 (in_use (seen_ring n) n.seen.expiry))

unfoldable pub well_formed : Node → List ℕ → List ℕ → Bool
well_formed n ss cs = cacheWellFormed n.cache cs && seen_fits n ss

-- ---- what the steps need of a node that was tested
pub record Ready (n : Node) (ss cs : List ℕ) : Type 0 where
  pub seen-room : length ss ≡ n.max_seen * id_size
  pub few : n.max_seen ≤ max_ids
  pub rows : Sound id_size (seen_ring n) n.seen.len ss
  pub expiries : InStore (seen_ring n) n.seen.expiry
  pub kept : Usable n.cache cs
