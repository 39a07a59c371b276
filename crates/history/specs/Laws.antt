-- Laws about histories that rest on no set of messages: calls and then more calls; what one call leaves; and every
-- state that calls leave from a fresh one is well formed.
use Rattle.std.specs.Prelude.{Result, ◌≡◌}
use Rattle.node.specs.declared.Node.{Node}
use Rattle.node.specs.declared.AdmitError.{AdmitError}
use Rattle.node.specs.declared.Novelty.{Novelty}
use Rattle.node.specs.Gateway.{Gateway, started}
use Rattle.node.specs.Calls.{Plan, no}
use Rattle.node.specs.WellFormedLaws.{Keeps}
use Rattle.history.specs.History.{State, Settings}

-- the gateway that settings start
abbrev pub started_by : Settings → Gateway
started_by x = started x.ttl x.max_seen x.history_len x.max_messages x.flags

-- ---- every state that calls leave from a fresh one is well formed, with its ids in the order of their expiries
abbrev pub Kept : State → Type 0
Kept s = Keeps s.node s.ids s.messages

-- ---- nor how long and how many ids are seen
abbrev pub Lasting : Node → Node → Type 0
Lasting n m = (n.ttl ≡ m.ttl) × (n.max_seen ≡ m.max_seen)

-- they are those of the settings
pub record Set (x : Settings) (g : Gateway) : Type 0 where
  pub ttl : g.ttl ≡ x.ttl
  pub max_seen : g.max_seen ≡ x.max_seen

-- ---- an admit takes what it brings under the gateway's flags, and nothing else
abbrev pub TakesNone : Plan → Type 0
TakesNone p = (r : Result Novelty AdmitError) × (p ≡ no r)
