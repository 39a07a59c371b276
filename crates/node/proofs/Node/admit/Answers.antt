-- `node::Node::admit` meets its contract: the node is tested, the body read, and the message at the index admitted.
use mathlib.Core.Path.{sym, ◌∙◌}
use Rattle.ids.specs.IdLaws.{message-inside}
use native.Mathlib.Omega.{arith}
use Rattle.node.proofs.Answers.{tested, admits-all, admits-no, admits_as, plan_faulty, plan_refused, plan_missing, plan_at_lem}
use Rattle.node.proofs.Node.admit.Goals as goal

pub slice_bounds-admit_part-count : goal.slice_bounds-admit_part-count
slice_bounds-admit_part-count c =
    let a = c.args in
    (message-inside _ a.body.now a.index _ _
    (sym c.message_at.ensures ∙ c.in-Ok.is)).0

pub slice_bounds-admit_part-start : goal.slice_bounds-admit_part-start
slice_bounds-admit_part-start c =
    let a = c.args in
    (message-inside _ a.body.now a.index _ _
    (sym c.message_at.ensures ∙ c.in-Ok.is)).0

pub slice_bounds-admit_part-end : goal.slice_bounds-admit_part-end
slice_bounds-admit_part-end c =
    let a = c.args in
    (message-inside _ a.body.now a.index _ _
    (sym c.message_at.ensures ∙ c.in-Ok.is)).1

pub admit_part-requires : goal.admit_part-requires
admit_part-requires c =
    let a = c.args in
    tested a.self a.seen_store.now a.cache_store.now c.in_default.ensures
    (omega arith)
    (omega arith)
    (omega arith)
    (omega arith)
    (omega arith)
    (omega arith)
    (omega arith)
    (omega arith)
    (omega arith)
    (omega arith)

pub returns-in-Err : goal.returns-in-Err
returns-in-Err c =
    let a = c.args in admits-all a.self a.seen_store.now a.cache_store.now a.at a.edition a.body.now a.index a.verified _
    (admits-no a.self a.seen_store.now a.cache_store.now a.at _ _
    (plan_faulty a.self a.seen_store.now a.cache_store.now a.edition a.body.now a.index a.verified a.at _ c.in-Err.ensures))

pub returns-in-Err-accept : goal.returns-in-Err-accept
returns-in-Err-accept c =
    let a = c.args in
    admits-all a.self a.seen_store.now a.cache_store.now a.at a.edition a.body.now a.index a.verified _
    (admits-no a.self a.seen_store.now a.cache_store.now a.at _ _ (plan_refused a.self a.seen_store.now a.cache_store.now
    a.edition a.body.now a.index a.verified a.at _ c.in_default.ensures c.mode_of-mode.ensures
    c.in-Err-accept.ensures))

pub returns-in-Err-message_at : goal.returns-in-Err-message_at
returns-in-Err-message_at c =
    let a = c.args in
    admits-all a.self a.seen_store.now a.cache_store.now a.at a.edition a.body.now a.index a.verified _
    (admits-no a.self a.seen_store.now a.cache_store.now a.at _ _ (plan_missing a.self a.seen_store.now a.cache_store.now
    a.edition a.body.now a.index a.verified a.at _ c.in_default.ensures c.mode_of-mode.ensures
    c.in_default-accept.ensures c.in-Err-message_at.ensures))

pub returns-in-Ok : goal.returns-in-Ok
returns-in-Ok c =
    let a = c.args in
    let r = c.admit_part.ensures in
    admits-all a.self a.seen_store.now a.cache_store.now a.at a.edition a.body.now a.index a.verified _
    (admits_as a.self a.seen_store.now a.cache_store.now a.at _ _ (plan_at_lem a.self a.seen_store.now a.cache_store.now
    a.edition a.body.now a.index a.verified a.at _ _ c.in_default.ensures c.mode_of-mode.ensures
    c.in_default-accept.ensures c.in-Ok.ensures)
    (r.answer_value, (r.node_value, (r.seen_store_after, r.cache_store_after))))
