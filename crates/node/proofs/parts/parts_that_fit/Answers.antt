-- `parts_that_fit` meets its contract. The loop's invariant: those that fit are the parts passed and those that fit of the rest.
use native.Mathlib.Omega.{arith}
use Rattle.node.proofs.Turns.{field-size, size_fits, fit-turn, fit-stop, fit-done}
use Rattle.node.proofs.parts.parts_that_fit.Goals as goal

pub overflow_add-size : goal.overflow_add-size
overflow_add-size c =
    let a = c.args in let l = c.loop-i in
    let z = size_fits a.field a.s.now a.table.now a.n l.i c.requires.parts
    c.loop-i-test.true _ _ c.uvarint_len.ensures c.uvarint_len-in-loop-i.ensures
    c.requires.field_bound
    (omega arith) in omega arith

pub overflow_add-size-in-loop-i : goal.overflow_add-size-in-loop-i
overflow_add-size-in-loop-i c =
    let a = c.args in let l = c.loop-i in
    let z = size_fits a.field a.s.now a.table.now a.n l.i c.requires.parts
    c.loop-i-test.true _ _ c.uvarint_len.ensures c.uvarint_len-in-loop-i.ensures
    c.requires.field_bound
    (omega arith) in omega arith

pub loop-i-preserved : goal.loop-i-preserved
loop-i-preserved c =
    let l = c.loop-i in
    let a = c.args in
    let z = field-size a.field a.s.now a.table.now a.n l.i c.requires.parts c.loop-i-test.true _ _
    c.uvarint_len.ensures c.uvarint_len-in-loop-i.ensures in
    fit-turn a.field a.s.now a.table.now a.n l.i c.requires.parts c.loop-i-test.true a.room l.left _ z
    l.invariant c.if-left-size.false

pub returns-then-left-size-clause-value : goal.returns-then-left-size-clause-value
returns-then-left-size-clause-value c =
    let l = c.loop-i in
    let a = c.args in
    let z = field-size a.field a.s.now a.table.now a.n l.i c.requires.parts c.loop-i-test.true _ _
    c.uvarint_len.ensures c.uvarint_len-in-loop-i.ensures in
    fit-stop a.field a.s.now a.table.now a.n l.i c.requires.parts c.loop-i-test.true a.room l.left _ z l.invariant
    c.if-left-size.true

pub returns-clause-value : goal.returns-clause-value
returns-clause-value c =
    let a = c.args in let l = c.loop-i in
    fit-done a.field a.s.now a.table.now a.n l.i a.room l.left c.loop-i-test.false l.auto.i-end l.invariant
