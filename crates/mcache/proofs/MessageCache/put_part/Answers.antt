-- `MessageCache::put_part` meets its contract.
use Rattle.std.proofs.Common.{sym, refl}
use Rattle.mcache.proofs.Answers.{id-fits_in, id-counts, put_under, not-put, plan_unfit}
use Rattle.mcache.proofs.MessageCache.put_part.Goals as goal

pub slice_bounds-id-end : goal.slice_bounds-id-end
slice_bounds-id-end c =
    id-fits_in _ c.args.part.now _ _ _ _ (sym c.in-Ok.ensures) c.form_id-n.result _ _ refl c.form_id-n.ensures

pub slice_bounds-keep-end : goal.slice_bounds-keep-end
slice_bounds-keep-end c =
    id-counts _ c.args.part.now _ _ _ _ (sym c.in-Ok.ensures) c.form_id-n.result _ _ refl c.form_id-n.ensures

pub returns-in-Err : goal.returns-in-Err
returns-in-Err c =
    let a = c.args in
    let h = not-put a.self a.store.now _ _ _ c.not_put.ensures (plan_unfit a.self a.part.now _ c.in-Err.ensures) in
    record { answer_value = h.0; cache_value = h.1.0; store_after = h.1.1 }

pub returns-in-Ok : goal.returns-in-Ok
returns-in-Ok c =
    let a = c.args in
    let h = put_under _ a.part.now _ _ _ _ (sym c.in-Ok.ensures) c.form_id-n.result _ _ refl c.form_id-n.ensures
    a.self a.store.now c.requires _ _ c.keep.ensures in
    record { answer_value = h.0; cache_value = h.1.0; store_after = h.1.1 }
