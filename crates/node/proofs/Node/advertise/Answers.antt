-- `node::Node::advertise` meets its contract: the answer, beside the node as it was.
use mathlib.Core.Path.{refl}
use native.Mathlib.Omega.{arith}
use Rattle.node.proofs.Answers.{sizes}
use Rattle.node.proofs.Node.advertise.Goals as goal

pub advertise_answer-requires : goal.advertise_answer-requires
advertise_answer-requires c =
    sizes c.args.self (omega arith) (omega arith) (omega arith) (omega arith) (omega arith) (omega arith) (omega arith) (omega arith) (omega arith) (omega arith)

pub returns : goal.returns
returns c = record { answer = c.advertise_answer.ensures.value; node = refl; buffer = c.advertise_answer.ensures.out_after }
