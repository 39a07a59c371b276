-- A well formed node with its stores, as the scope has it: each clause by name. And the states that calls reach from a
-- fresh node.
use Rattle.std.specs.Prelude.{ℕ, suc, ◌*◌, ◌^◌, ◌≤◌, ◌<◌, ◌≡◌, Bool, true, List, length, get_or}
use Rattle.basis.specs.declared.Edition.{Edition}
use Rattle.rows.specs.Rows.{place_of}
use Rattle.seen.specs.State.{id_size, max_ids}
use Rattle.seen.specs.WellFormed as seen
use Rattle.mcache.specs.State.{message_size}
use Rattle.mcache.specs.WellFormed as mcache
use Rattle.node.specs.declared.Node.{Node}
use Rattle.node.specs.State.{legal_settings, fresh_node, seen_ring}
use Rattle.node.specs.Calls.{planned, admit_node, admit_seen, admit_cache, beat_node}

-- ---- true of every Node, by its type
pub record Typed (n : Node) : Type 0 where
  pub ids : seen.Sized n.seen
  pub messages : mcache.Typed n.cache

-- ---- well formed
-- the expiry of the i-th id from the oldest
abbrev pub expiry_of : Node → ℕ → ℕ
expiry_of n i = get_or n.seen.expiry (place_of (seen_ring n) i) 0

pub record WellFormed (n : Node) (ss cs : List ℕ) : Type 0 where
  -- the seen store has max_seen rows of 129 bytes; the settings are legal
  pub room : length ss ≡ n.max_seen * id_size
  pub few : n.max_seen ≤ max_ids
  -- counts and lengths within limits, no id twice
  pub ids : seen.WellFormed n.seen ss
  -- seen expiries never fall from old to new
  pub rises : (i : ℕ) → suc i < n.seen.count → expiry_of n i ≤ expiry_of n (suc i)
  -- the message cache: its store, its settings, and the scope's other clauses
  pub messages : mcache.WellFormed n.cache cs

-- ---- the states that the calls reach: a fresh node with stores of the right lengths; then admits of anything, in any
-- edition and at any reading, the refused ones too, and heartbeats. Advertise, ask and serve leave the node and its
-- stores as they are.
pub data Reached : Node → List ℕ → List ℕ → Type 0 where
  begun : (ttl max_seen history max flags : ℕ) (ss cs : List ℕ) → ttl < 2 ^ 64
      → legal_settings max_seen history max flags ≡ true
      → length ss ≡ max_seen * id_size → length cs ≡ max * message_size
      → Reached (fresh_node ttl max_seen history max flags) ss cs
  admitted : {n : Node} {ss cs : List ℕ} → Reached n ss cs → (ed : Edition) (body : List ℕ) (i : ℕ)
      (word : Bool) (at : ℕ) → at < 2 ^ 64
      → Reached (admit_node n ss at (planned n ss cs ed body i word at))
      (admit_seen n ss at (planned n ss cs ed body i word at))
      (admit_cache n ss cs at (planned n ss cs ed body i word at))
  beaten : {n : Node} {ss cs : List ℕ} → Reached n ss cs → (at : ℕ) → at < 2 ^ 64 → Reached (beat_node n ss cs at) ss cs
