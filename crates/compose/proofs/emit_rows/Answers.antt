-- `compose::emit_rows` meets its contract: what is left of the rows of that kind, written where those before end, makes all of them.
use Rattle.compose.specs.Puts.{going-none, going-part}
use Rattle.compose.proofs.Parts.{each_over, each_next}
use Rattle.compose.proofs.emit_rows.Goals as goal

pub loop-i-preserved : goal.loop-i-preserved
loop-i-preserved c =
    let a = c.args in let l = c.loop-i in
    going-part _ _ _ _ _ _ l.invariant _ _ (each_next a.records.now a.bytes.now l.i c.loop-i-test.true a.code a.n) _ _ c.emit_row_at-end.ensures

pub returns : goal.returns
returns c =
    let a = c.args in let l = c.loop-i in
    going-none _ _ _ _ _ _ l.invariant (each_over a.records.now a.bytes.now l.i a.code a.n c.loop-i-test.false)
