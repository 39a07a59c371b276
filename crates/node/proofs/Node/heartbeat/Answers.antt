-- `node::Node::heartbeat` meets its contract: where it is not refused the node is cleaned and shifted at a later reading.
use mathlib.Core.Path.{sym, ◌∙◌}
use Rattle.node.proofs.Answers.{beat-stays, beat-done}
use Rattle.node.proofs.Node.heartbeat.Goals as goal

pub returns-then-is_err : goal.returns-then-is_err
returns-then-is_err c =
    let a = c.args in
    beat-stays a.self a.seen_store.now a.cache_store.now a.at _ c.beat_answer-answer.ensures
    (sym c.is_err.ensures.value ∙ c.if-is_err.true)

pub returns : goal.returns
returns c =
    let a = c.args in
    beat-done a.self a.seen_store.now a.cache_store.now a.at _ c.beat_answer-answer.ensures
    (sym c.is_err.ensures.value ∙ c.if-is_err.false) _ c.clean-seen.ensures _ c.next_window-cache.ensures _
    c.later.ensures
