-- `seen::SeenCache::next_expiry` meets its contract: the front row stands in the arrays.
use Prim.Native.Nat.{◌<◌, ◌/◌}
use mathlib.Core.Path.{◌≡◌, sym, ◌∙◌}
use lib.ListN.{length}
use native.Mathlib.Omega.{arith}
use borrow.Author.Rules.{rules}
use Rattle.rows.specs.StoreLaws.{place_in}
use Rattle.seen.proofs.Answers.{tested_ring}
use Rattle.seen.specs.State.{id_size, max_ids}
use Rattle.seen.proofs.SeenCache.next_expiry.Goals as goal

pub offset_bounds-self-p : goal.offset_bounds-self-p
offset_bounds-self-p c =
    let a = c.args in
    let r = tested_ring a.self a.store.now (sym c.in_ok-lent.was ∙ c.lent.ensures) (search rules) (search rules) in
    let h : 0 < length a.store.now / id_size = omega (arith, c.if-self-eq0.false) in
    let p = place_in r 0 c.place-p.result h (rw c.ring.ensures at c.place-p.ensures) in omega arith

pub bounds-self-p : goal.bounds-self-p
bounds-self-p c =
    let a = c.args in
    let r = tested_ring a.self a.store.now (sym c.in_ok-lent.was ∙ c.lent.ensures) (search rules) (search rules) in
    let h : 0 < length a.store.now / id_size = omega (arith, c.if-self-eq0.false) in
    let z : length a.self.expiry ≡ max_ids = search rules in
    let p = place_in r 0 c.place-p.result h (rw c.ring.ensures at c.place-p.ensures) in omega arith
