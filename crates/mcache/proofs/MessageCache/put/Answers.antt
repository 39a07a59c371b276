-- `MessageCache::put` meets its contract.
use Rattle.std.proofs.Common.{sym, rules}
use Rattle.ids.specs.IdLaws.{message-inside}
use Rattle.mcache.proofs.Answers.{roomy, tested, put-done, not-put, puts_as}
use Rattle.mcache.proofs.Answers.{plan_fault, plan_refused, plan_missing, plan_at_lem}
use Rattle.mcache.proofs.MessageCache.put.Goals as goal

pub slice_bounds-put_part-count : goal.slice_bounds-put_part-count
slice_bounds-put_part-count c = (message-inside _ c.args.body.now c.args.index _ _ (sym c.in-Ok.ensures)).0

pub slice_bounds-put_part-start : goal.slice_bounds-put_part-start
slice_bounds-put_part-start c = (message-inside _ c.args.body.now c.args.index _ _ (sym c.in-Ok.ensures)).0

pub slice_bounds-put_part-end : goal.slice_bounds-put_part-end
slice_bounds-put_part-end c = (message-inside _ c.args.body.now c.args.index _ _ (sym c.in-Ok.ensures)).1

pub put_part-requires : goal.put_part-requires
put_part-requires c =
    let s = c.args.self in
    tested s c.args.store.now c.in_default.ensures (search rules) (search rules) (search rules) (search rules)
    (search rules) (roomy s (search rules) (search rules) (search rules))

pub returns-in-Err : goal.returns-in-Err
returns-in-Err c =
    let a = c.args in
    put-done _ _ _ _ _ _ _ (not-put a.self a.store.now _ _ _ c.not_put.ensures
    (plan_fault a.self a.store.now a.edition a.body.now a.index _ c.in-Err.ensures))

pub returns-in-Err-accept : goal.returns-in-Err-accept
returns-in-Err-accept c =
    let a = c.args in
    put-done _ _ _ _ _ _ _ (not-put a.self a.store.now _ _ _ c.not_put-in-Err-accept.ensures
    (plan_refused a.self a.store.now a.edition a.body.now a.index _ c.in_default.ensures c.mode_of-mode.ensures
    c.in-Err-accept.ensures))

pub returns-in-Err-message_at : goal.returns-in-Err-message_at
returns-in-Err-message_at c =
    let a = c.args in
    put-done _ _ _ _ _ _ _ (not-put a.self a.store.now _ _ _ c.not_put-in-Err-message_at.ensures
    (plan_missing a.self a.store.now a.edition a.body.now a.index _ c.in_default.ensures c.mode_of-mode.ensures
    c.in_default-accept.ensures c.in-Err-message_at.ensures))

pub returns-in-Ok : goal.returns-in-Ok
returns-in-Ok c =
    let a = c.args in
    let p = c.put_part.ensures in
    put-done _ _ _ _ _ _ _ (puts_as a.self a.store.now _ _ _ _ _
    (plan_at_lem a.self a.store.now a.edition a.body.now a.index _ _ c.in_default.ensures c.mode_of-mode.ensures
    c.in_default-accept.ensures c.in-Ok.ensures) (p.answer_value, (p.cache_value, p.store_after)))
