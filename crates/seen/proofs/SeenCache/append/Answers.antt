-- `seen::SeenCache::append` meets its contract: the row in the next place is written, and it lies in the store.
use mathlib.Core.Path.{◌≡◌}
use native.Mathlib.Omega.{arith}
use lib.ListN.{length}
use Rattle.seen.proofs.Steps.{appended-is, appended-store}
use Rattle.rows.specs.StoreLaws.{place_in}
use borrow.Author.Rules.{rules}
use Rattle.seen.specs.State.{max_ids}
use Rattle.seen.proofs.SeenCache.append.Goals as goal

pub overflow_mul-p : goal.overflow_mul-p
overflow_mul-p c =
    let r = place_in c.requires.in_store c.args.self.count c.place-p.result c.requires.count_lt_cap (rw c.ring.ensures at c.place-p.ensures) in omega arith

pub write_id-requires : goal.write_id-requires
write_id-requires c =
    let r = place_in c.requires.in_store c.args.self.count c.place-p.result c.requires.count_lt_cap (rw c.ring.ensures at c.place-p.ensures) in omega (arith, c.requires)

pub offset_bounds-self-p : goal.offset_bounds-self-p
offset_bounds-self-p c =
    let r = place_in c.requires.in_store
    c.args.self.count c.place-p.result
    c.requires.count_lt_cap (rw c.ring.ensures at
    c.place-p.ensures) in omega arith

pub bounds-self-p : goal.bounds-self-p
bounds-self-p c =
    let r = place_in c.requires.in_store
    c.args.self.count c.place-p.result
    c.requires.count_lt_cap (rw c.ring.ensures at
    c.place-p.ensures) in
    let z : length c.args.self.len ≡ max_ids = search rules in
    omega arith

pub bounds-self-p-2 : goal.bounds-self-p-2
bounds-self-p-2 c =
    let r = place_in c.requires.in_store
    c.args.self.count c.place-p.result
    c.requires.count_lt_cap (rw c.ring.ensures at
    c.place-p.ensures) in
    let z : length c.args.self.len ≡ max_ids = search rules in
    omega arith

pub returns : goal.returns
returns c =
    let a = c.args in
    let p = c.place-p in
    let e = rw c.ring.ensures at p.ensures in record {
      value = appended-is a.cap (length a.id.now) a.expires p.result a.self e;
      store_after = appended-store a.cap p.result a.self a.store.now _ a.id.now e c.write_id.ensures;
    }
