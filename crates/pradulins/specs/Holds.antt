-- What the C interface tells of a node without a call on it: its settings, and its clock and counts. And the numbers of
-- the version and of the format of a node's bytes.
use Rattle.std.specs.Prelude.{ℕ, Bool, cond, List, [], ◌∷◌}
use Rattle.basis.specs.declared.Told.{Told}
use Rattle.basis.specs.Refusals.{malformed}
use Rattle.basis.specs.Told.{told, done, fault_told}
use Rattle.node.specs.declared.Node.{Node}
use Rattle.node.specs.State.{legal_settings}
use Rattle.node.specs.Calls.{lent_of, on_lent}

-- whether a node is started with its settings
abbrev pub is_settled : Node → Bool
is_settled n = legal_settings n.max_seen n.cache.history_len n.cache.max_messages n.cache.flags

-- the settings that it was started with. Those that none is started with are 42: that settings are legal is a clause of
-- it, and the one that a node shows without its stores.
abbrev pub settings_told : Node → Told
settings_told n =
    cond (is_settled n) (done (n.ttl ∷ n.max_seen ∷ n.cache.history_len ∷ n.cache.max_messages ∷ []))
    (told malformed [])

-- and, behind these four, its flags
abbrev pub flags_told : Node → List ℕ
flags_told n = cond (is_settled n) (n.cache.flags ∷ []) []

-- the clock, how many ids are kept as seen, and how many messages. The state is tested as by each call: 40, 41, 42.
abbrev pub state_told : Node → List ℕ → List ℕ → Told
state_told n ss cs =
    on_lent fault_told (lent_of n ss cs) (done (n.clock ∷ n.seen.count ∷ n.cache.count ∷ []))

-- 0.9.0: 10000 times the first number, 100 times the second, and the third
abbrev pub version_number : ℕ
version_number = 900

-- of Layout in crate stored: another layout is another format
abbrev pub format_number : ℕ
format_number = 3
