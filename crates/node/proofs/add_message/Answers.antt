-- `add_message` meets its contract.
use native.Mathlib.Omega.{arith}
use Rattle.node.proofs.Serving.{row-place, message-there, message-not}
use Rattle.node.proofs.add_message.Goals as goal

pub overflow_mul-base : goal.overflow_mul-base
overflow_mul-base c =
    let a = c.args in let q = c.requires.start_le_cap in let p = row-place a.ring a.row _ (q.0, q.1, q.2) c.if-row-ring.true c.place-p.ensures in omega arith

pub offset_bounds-lens-p : goal.offset_bounds-lens-p
offset_bounds-lens-p c =
    let a = c.args in let q = c.requires.start_le_cap in let p = row-place a.ring a.row _ (q.0, q.1, q.2) c.if-row-ring.true c.place-p.ensures in omega arith

pub bounds-lens-p : goal.bounds-lens-p
bounds-lens-p c =
    let a = c.args in
    let q = c.requires.start_le_cap in
    let p = row-place a.ring a.row _ (q.0, q.1, q.2) c.if-row-ring.true
    c.place-p.ensures in omega arith

pub overflow_cast-lens : goal.overflow_cast-lens
overflow_cast-lens c = omega (arith, c.type_inv.lens c.place-p.result)

pub overflow_add-base : goal.overflow_add-base
overflow_add-base c =
    let a = c.args in
    let q = c.requires.start_le_cap in
    let p = row-place a.ring a.row _ (q.0, q.1, q.2) c.if-row-ring.true
    c.place-p.ensures in omega (arith, c.type_inv.lens c.place-p.result)

pub returns-then-row-ring : goal.returns-then-row-ring
returns-then-row-ring c =
    let a = c.args in let h = message-there a.lens.now a.ring a.row a.to.now a.n c.if-row-ring.true _ _
    _ c.place-p.ensures c.add_part.ensures.value
    c.add_part.ensures.table_after in record { value = h.0; to_after = h.1 }

pub returns : goal.returns
returns c =
    let a = c.args in let h = message-not a.lens.now a.ring a.row a.to.now a.n c.if-row-ring.false in record { value = h.0; to_after = h.1 }
