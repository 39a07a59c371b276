-- `MessageCache::gossip_ids` meets its contract.
use Rattle.std.proofs.Common.{sym, ◌∙◌}
use Rattle.mcache.specs.GuardLaws.{tell_fine}
use Rattle.mcache.proofs.Answers.{told_as, gossip_fault, gossip_long, gossip_told_lem}
use Rattle.mcache.proofs.MessageCache.gossip_ids.Goals as goal

pub returns-in-Err : goal.returns-in-Err
returns-in-Err c =
    let a = c.args in
    let u = c.untold.ensures in
    told_as a.self a.store.now a.topic.now a.windows _ _ (u.answer_value, (u.count_value, u.rows_value))
    (gossip_fault a.self a.store.now a.topic.now a.windows _ c.in-Err.ensures)

pub returns-then-topic-gt-MAX_TOPIC_SIZE : goal.returns-then-topic-gt-MAX_TOPIC_SIZE
returns-then-topic-gt-MAX_TOPIC_SIZE c =
    let a = c.args in
    let u = c.untold-then-topic-gt-MAX_TOPIC_SIZE.ensures in
    told_as a.self a.store.now a.topic.now a.windows _ _ (u.answer_value, (u.count_value, u.rows_value))
    (gossip_long a.self a.store.now a.topic.now a.windows c.in_default.ensures c.if-topic-gt-MAX_TOPIC_SIZE.true)

pub returns : goal.returns
returns c =
    let a = c.args in
    let e = c.in_default.ensures in
    let t = tell_fine a.self a.store.now a.topic.now a.windows (sym e) _ c.tell.ensures in
    let r = gossip_told_lem a.self a.store.now a.topic.now a.windows e c.if-topic-gt-MAX_TOPIC_SIZE.false _ _ t.1.0 t.1.1 in
    record { answer = t.0 ∙ r.answer; count = r.count; rows = r.rows }
