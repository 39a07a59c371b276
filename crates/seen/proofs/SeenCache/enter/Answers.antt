-- `seen::SeenCache::enter` meets its contract: with max 0 all leave; otherwise enough leave that there is room for a row.
use mathlib.Core.Path.{sym, ◌∙◌}
use native.Mathlib.Omega.{arith}
use Rattle.seen.specs.State.{ring_of}
use lib.ListN.{length}
use Rattle.seen.proofs.Steps.{can, entered-not, entered-none, entered-some, enter-room}
use borrow.Author.Rules.{rules}
use Rattle.seen.proofs.SeenCache.enter.Goals as goal

pub returns-then-max-eq0 : goal.returns-then-max-eq0
returns-then-max-eq0 c =
    let a = c.args in
    entered-none a.cap a.max a.self a.store.now a.id.now a.expires (sym (rw
    c.ring.ensures at c.can_enter.ensures) ∙ c.if-can_enter.true) _
    c.if-max-eq0.true c.without.ensures

pub overflow_add-count : goal.overflow_add-count
overflow_add-count c =
    let a = c.args in
    let r = can a.max (ring_of a.cap a.self) (length a.store.now) (length a.id.now) (sym (rw
    c.ring.ensures at c.can_enter.ensures) ∙ c.if-can_enter.true) in omega arith

pub append-requires : goal.append-requires
append-requires c =
    let a = c.args in let h = enter-room a.cap a.max a.self a.store.now a.id.now a.expires (sym (rw
    c.ring.ensures at c.can_enter.ensures) ∙
    c.if-can_enter.true) c.saturating_sub-k.result c.without-rest.result
    c.if-max-eq0.false c.saturating_sub-k.ensures c.without-rest.ensures (search rules) in record { in_store = h.0; count_lt_cap = h.1.0; id_size_in_bounds = h.1.1.0; id_len_bound = h.1.1.1 }

pub returns-then-can_enter : goal.returns-then-can_enter
returns-then-can_enter c =
    let a = c.args in
    entered-some a.cap a.max a.self a.store.now a.id.now a.expires (sym (rw
    c.ring.ensures at
    c.can_enter.ensures) ∙
    c.if-can_enter.true) c.saturating_sub-k.result
    c.without-rest.result c.if-max-eq0.false
    c.saturating_sub-k.ensures c.without-rest.ensures _ _
    c.append.ensures.value c.append.ensures.store_after

pub returns : goal.returns
returns c =
    let a = c.args in
    entered-not a.cap a.max a.self a.store.now a.id.now a.expires (sym (rw c.ring.ensures at
    c.can_enter.ensures) ∙ c.if-can_enter.false)
