use Rattle.std.proofs.Common.{arith}
use Rattle.mcache.proofs.Answers.{found_none, found_at, found_lies}
use Rattle.mcache.proofs.MessageCache.message_of.Goals as goal

pub overflow_mul-base : goal.overflow_mul-base
overflow_mul-base c =
    let w = found_lies c.args.self
    c.args.store.now c.args.id.now
    c.find-i.result c.place-p.result c.requires c.if-i-self.true
    (rw c.ring.ensures at c.place-p.ensures) in omega arith

pub offset_bounds-self-p : goal.offset_bounds-self-p
offset_bounds-self-p c =
    let w = found_lies c.args.self
    c.args.store.now c.args.id.now
    c.find-i.result c.place-p.result c.requires c.if-i-self.true
    (rw c.ring.ensures at c.place-p.ensures) in omega arith

pub bounds-self-p : goal.bounds-self-p
bounds-self-p c =
    let w = found_lies c.args.self
    c.args.store.now c.args.id.now
    c.find-i.result c.place-p.result c.requires c.if-i-self.true
    (rw c.ring.ensures at c.place-p.ensures) in omega arith

pub overflow_add-end : goal.overflow_add-end
overflow_add-end c =
    let w = found_lies c.args.self
    c.args.store.now c.args.id.now
    c.find-i.result c.place-p.result c.requires
    c.if-i-self.true (rw c.ring.ensures at c.place-p.ensures) in omega arith

pub slice_bounds-result-end : goal.slice_bounds-result-end
slice_bounds-result-end c =
    let w = found_lies c.args.self
    c.args.store.now c.args.id.now
    c.find-i.result c.place-p.result c.requires
    c.if-i-self.true (rw c.ring.ensures at c.place-p.ensures) in omega arith

pub returns-then-i-self : goal.returns-then-i-self
returns-then-i-self c =
    found_at c.args.self
    c.args.store.now
    c.args.id.now c.find-i.result
    c.place-p.result c.find-i.ensures c.if-i-self.true
    (rw c.ring.ensures at c.place-p.ensures)

pub returns : goal.returns
returns c = found_none c.args.self c.args.store.now c.args.id.now (omega (arith, c.find-i.ensures))
