-- `compose::messages_fine` meets its contract: what the messages from row i on say is what all of them do.
use Rattle.std.proofs.lemmas.Result.{err_from_is_err_and}
use Rattle.compose.proofs.Tests.{unfit-end, unfit_skip, unfit_on, unfit-stop}
use Rattle.compose.proofs.messages_fine.Goals.{then-is_code+in_ok-weigh, else-is_code}
use Rattle.compose.proofs.messages_fine.Goals as goal

pub returns-in_err-weigh : goal.returns-in_err-weigh
returns-in_err-weigh c =
    let a = c.args in
    let p = err_from_is_err_and c.from_residual.result c.from_residual.ensures.1 in
    rw (p.1, p.2) (unfit-stop a.flags a.records.now a.bytes.now c.loop-i.i c.loop-i.invariant
    c.loop-i-test.true c.is_code.ensures c.if-is_code.true c.in_err-weigh.ensures)

pub loop-i-preserved : goal.loop-i-preserved
loop-i-preserved c =
    let a = c.args in
    let l = c.loop-i in
    elim c.if-is_code.branch [
      | then-is_code+in_ok-weigh w ↦
          unfit_on a.flags a.records.now a.bytes.now l.i l.invariant c.loop-i-test.true c.is_code.ensures w.if-is_code.true w.in_ok-weigh.ensures
      | else-is_code w ↦ unfit_skip a.flags a.records.now a.bytes.now l.i l.invariant c.loop-i-test.true c.is_code.ensures w.if-is_code.false
    ]

pub returns : goal.returns
returns c =
    let a = c.args in
    unfit-end a.flags a.records.now a.bytes.now c.loop-i.i c.loop-i.invariant c.loop-i-test.false
