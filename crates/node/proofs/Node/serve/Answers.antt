-- `node::Node::serve` meets its contract: the answer, beside the node as it was.
use mathlib.Core.Path.{refl}
use native.Mathlib.Omega.{arith}
use Rattle.node.proofs.Answers.{sizes}
use Rattle.node.proofs.Node.serve.Goals as goal

pub serve_answer-requires : goal.serve_answer-requires
serve_answer-requires c =
    sizes c.args.self (omega arith) (omega arith) (omega arith) (omega arith) (omega arith) (omega arith) (omega arith) (omega arith) (omega arith) (omega arith)

pub returns : goal.returns
returns c = record { answer = c.serve_answer.ensures.value; node = refl; buffer = c.serve_answer.ensures.out_after }
