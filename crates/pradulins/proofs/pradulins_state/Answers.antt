-- `pradulins::pradulins_state` meets its contract: what the stored node holds is told.
use Rattle.pradulins.specs.Holds.{state_told}
use Rattle.pradulins.proofs.Told.{told_as}
use Rattle.pradulins.proofs.pradulins_state.Goals as goal

pub returns : goal.returns
returns c =
    let a = c.args in
    let t =
    told_as (λ n. state_told n a.seen_store.now a.cache_store.now) a.values.now
    c.load-n.ensures c.told_state.ensures (c.tell.ensures.value, c.tell.ensures.values_after) in
    record { number = t.0; values = t.1 }
