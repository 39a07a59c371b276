-- `node::Node::explain_answer` meets its contract: the node is tested, then the topic, and then the cache is asked.
use mathlib.Core.Path.{ap, ◌∙◌}
use Rattle.std.specs.Prelude.{Err}
use Rattle.std.proofs.lemmas.Result.{err_from_is_err_and}
use Rattle.node.proofs.Answers.{explain-faulty, explain-long, explain_why}
use Rattle.node.proofs.Node.explain_answer.Goals as goal

pub returns-in_err-tested : goal.returns-in_err-tested
returns-in_err-tested c =
    let a = c.args in
    let p = err_from_is_err_and c.from_residual.result c.from_residual.ensures.1 in
    p.1 ∙ ap Err p.2 ∙ explain-faulty a.self.now a.seen_store.now a.cache_store.now a.id.now a.topic.now a.windows _ c.in_err-tested.ensures

pub returns-then-topic-gt-MAX_TOPIC_SIZE : goal.returns-then-topic-gt-MAX_TOPIC_SIZE
returns-then-topic-gt-MAX_TOPIC_SIZE c =
    let a = c.args in
    explain-long a.self.now a.seen_store.now a.cache_store.now a.id.now a.topic.now a.windows c.in_ok-tested.ensures
    c.if-topic-gt-MAX_TOPIC_SIZE.true

pub returns : goal.returns
returns c =
    let a = c.args in
    explain_why a.self.now a.seen_store.now a.cache_store.now a.id.now a.topic.now a.windows c.in_ok-tested.ensures
    c.if-topic-gt-MAX_TOPIC_SIZE.false _ c.offer.ensures
