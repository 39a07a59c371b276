-- `node::Node::beat_answer` meets its contract: the node is tested, and then the reading.
use mathlib.Core.Path.{ap, ◌∙◌}
use Rattle.std.specs.Prelude.{Err}
use Rattle.std.proofs.lemmas.Result.{err_from_is_err_and}
use Rattle.node.proofs.Answers.{beat-faulty, beat-back, beat-on}
use Rattle.node.proofs.Node.beat_answer.Goals as goal

pub returns-in_err-tested : goal.returns-in_err-tested
returns-in_err-tested c =
    let a = c.args in
    let p = err_from_is_err_and c.from_residual.result c.from_residual.ensures.1 in
    p.1 ∙ ap Err p.2 ∙ beat-faulty a.self.now a.seen_store.now a.cache_store.now a.at _ c.in_err-tested.ensures

pub returns-then-at-self : goal.returns-then-at-self
returns-then-at-self c =
    let a = c.args in beat-back a.self.now a.seen_store.now a.cache_store.now a.at c.in_ok-tested.ensures c.if-at-self.true

pub returns : goal.returns
returns c =
    let a = c.args in beat-on a.self.now a.seen_store.now a.cache_store.now a.at c.in_ok-tested.ensures c.if-at-self.false
