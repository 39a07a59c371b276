-- No answer depends on where the arrival number stands, also none of a later call.
use Rattle.std.specs.Prelude.{ℕ}
use Rattle.node.specs.WrapLaws.{moved_node}
use Rattle.history.specs.History.{State}

-- every arrival number, and the next, k further; the same stores
unfoldable pub moved_state : ℕ → State → State
moved_state k s = record { node = moved_node k s.node; ids = s.ids; messages = s.messages }
