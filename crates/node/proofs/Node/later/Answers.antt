-- `node::Node::later` meets its contract: another clock and other caches.
use Rattle.node.specs.Calls.{later_node}
use mathlib.Core.Path.{refl}
use Rattle.node.proofs.Node.later.Goals as goal

pub returns : goal.returns
unfolding later_node
returns c = refl
