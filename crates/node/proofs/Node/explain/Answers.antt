-- `node::Node::explain` meets its contract: the answer, beside the node as it was.
use mathlib.Core.Path.{refl}
use Rattle.node.proofs.Node.explain.Goals as goal

pub returns : goal.returns
returns c = record { answer = c.explain_answer.ensures; node = refl }
