-- `compose::texts_fine` meets its contract: what the rows from i on say is what all of them do.
use Rattle.std.proofs.lemmas.Result.{err_from_is_err_and}
use Rattle.compose.proofs.Tests.{texts_on, texts-stop}
use Rattle.compose.proofs.texts_fine.Goals as goal

pub loop-i-preserved : goal.loop-i-preserved
loop-i-preserved c =
    let a = c.args in
    texts_on a.records.now a.bytes.now c.loop-i.i c.loop-i.invariant _ c.loop-i-test.true
    c.row_at.ensures c.in_ok-text_fine.ensures

pub returns-in_err-text_fine : goal.returns-in_err-text_fine
returns-in_err-text_fine c =
    let a = c.args in
    let p = err_from_is_err_and c.from_residual.result c.from_residual.ensures.1 in
    rw (p.1, p.2) (texts-stop a.records.now a.bytes.now c.loop-i.i c.loop-i.invariant _ c.loop-i-test.true
    c.row_at.ensures c.in_err-text_fine.ensures)
