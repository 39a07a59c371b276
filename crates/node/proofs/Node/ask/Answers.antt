-- `node::Node::ask` meets its contract: the answer, beside the node as it was.
use mathlib.Core.Path.{refl}
use native.Mathlib.Omega.{arith}
use Rattle.node.proofs.Answers.{sizes}
use Rattle.node.proofs.Node.ask.Goals as goal

pub ask_answer-requires : goal.ask_answer-requires
ask_answer-requires c =
    sizes c.args.self (omega arith) (omega arith) (omega arith) (omega arith) (omega arith) (omega arith) (omega arith) (omega arith) (omega arith) (omega arith)

pub returns : goal.returns
returns c = record { answer = c.ask_answer.ensures.value; node = refl; buffer = c.ask_answer.ensures.out_after }
