use Rattle.mcache.proofs.Steps.{entered-none, enter-room, enter-found, entered-some}
use Rattle.mcache.proofs.MessageCache.enter.Goals as goal

pub returns-then-max-eq0 : goal.returns-then-max-eq0
returns-then-max-eq0 c =
    let h = entered-none c.args.self c.args.store.now c.args.part.now c.args.id.now c.wrapping_add_u64.result c.if-max-eq0.true c.wrapping_add_u64.ensures.value in record { value = h.0; store_after = h.1 }

pub append-requires : goal.append-requires
append-requires c =
    let a = c.args in
    let r = enter-room a.self a.store.now a.part.now a.id.now c.saturating_sub-k.result c.without-rest.result c.if-max-eq0.false c.saturating_sub-k.ensures
    c.without-rest.ensures c.requires.placed in
    let f = enter-found a.self a.store.now a.part.now a.id.now c.saturating_sub-k.result c.without-rest.result c.if-max-eq0.false c.saturating_sub-k.ensures
    c.without-rest.ensures _ _ _ c.requires.found in record {
      placed = r.0;
      count_bound = r.1;
      part_len_bound = c.requires.part_len_bound;
      found = f;
    }

pub returns : goal.returns
returns c =
    let h = entered-some c.args.self c.args.store.now c.args.part.now c.args.id.now c.saturating_sub-k.result
    c.without-rest.result c.if-max-eq0.false c.saturating_sub-k.ensures c.without-rest.ensures _ _
    c.append.ensures.value c.append.ensures.store_after in record { value = h.0; store_after = h.1 }
