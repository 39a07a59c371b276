-- `compose::message_row` meets its contract: so many messages were passed before row i.
use native.Mathlib.Omega.{arith}
use Rattle.compose.proofs.Tests.{passed-all, passed_skip, passed-one, passed-found}
use Rattle.compose.proofs.message_row.Goals.{then-is_code+else-count-index, else-is_code}
use Rattle.compose.proofs.message_row.Goals as goal

pub returns-then-count-index : goal.returns-then-count-index
returns-then-count-index c =
    let a = c.args in
    passed-found a.records.now a.bytes.now c.loop-i.count c.loop-i.i a.index c.loop-i.invariant.2
    c.loop-i-test.true c.is_code.ensures c.if-is_code.true c.if-count-index.true

pub loop-i-preserved : goal.loop-i-preserved
loop-i-preserved c =
    let a = c.args in
    let l = c.loop-i in
    elim c.if-is_code.branch [
      | then-is_code+else-count-index w ↦ let n = w.if-count-index.false in let v = l.invariant.1 in (
        omega arith,
        omega arith,
        passed-one a.records.now a.bytes.now l.count l.i a.index l.invariant.2 c.loop-i-test.true c.is_code.ensures w.if-is_code.true w.count-is,
      )
      | else-is_code w ↦ (
        omega arith,
        omega arith,
        passed_skip a.records.now a.bytes.now l.count l.i a.index l.invariant.2 c.loop-i-test.true c.is_code.ensures w.if-is_code.false w.count-is,
      )
    ]

pub returns : goal.returns
returns c =
    let a = c.args in
    passed-all a.records.now a.bytes.now c.loop-i.count c.loop-i.i a.index c.loop-i.invariant.2
    c.loop-i-test.false c.loop-i.invariant.1
