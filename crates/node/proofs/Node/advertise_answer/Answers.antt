-- `node::Node::advertise_answer` meets its contract: the node is tested, then the topic, and then the advertisement is written.
use mathlib.Core.Path.{ap, sym, ◌∙◌}
use Rattle.std.specs.Prelude.{Err}
use Rattle.std.proofs.lemmas.Result.{err_from_is_err_and}
use Rattle.node.specs.StateLaws.{lent_ready}
use Rattle.node.proofs.Answers.{advertise-faulty, advertise-long, advertise_told_lem}
use Rattle.node.proofs.Node.advertise_answer.Goals as goal

pub returns-in_err-tested : goal.returns-in_err-tested
returns-in_err-tested c =
    let a = c.args in
    let p = err_from_is_err_and c.from_residual.result c.from_residual.ensures.1 in
    let r = advertise-faulty a.self.now a.seen_store.now a.cache_store.now a.topic.now a.windows a.out.now _ c.in_err-tested.ensures in
    record { value = p.1 ∙ ap Err p.2 ∙ r.0; out_after = r.1 }

pub returns-then-topic-gt-MAX_TOPIC_SIZE : goal.returns-then-topic-gt-MAX_TOPIC_SIZE
returns-then-topic-gt-MAX_TOPIC_SIZE c =
    let a = c.args in
    let r = advertise-long a.self.now a.seen_store.now a.cache_store.now a.topic.now a.windows a.out.now c.in_ok-tested.ensures
    c.if-topic-gt-MAX_TOPIC_SIZE.true in
    record { value = r.0; out_after = r.1 }

pub announce-requires : goal.announce-requires
announce-requires c =
    let a = c.args in
    let r = lent_ready a.self.now a.seen_store.now a.cache_store.now (sym c.in_ok-tested.ensures) c.requires.0 c.requires.1 in
    (r.kept, c.if-topic-gt-MAX_TOPIC_SIZE.false)

pub returns : goal.returns
returns c =
    let a = c.args in
    let r = advertise_told_lem a.self.now a.seen_store.now a.cache_store.now a.topic.now a.windows a.out.now c.in_ok-tested.ensures
    c.if-topic-gt-MAX_TOPIC_SIZE.false _ _ (c.announce.ensures.value, c.announce.ensures.out_after) in
    record { value = r.0; out_after = r.1 }
