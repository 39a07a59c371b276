-- `compose::lent_well` meets its contract: what the rows from i on say, after a message or none and a prune or none, is what all of them say.
use Rattle.compose.proofs.Tests.{or-now, or-then, lent-parts, lent-all, lent_on}
use Rattle.compose.proofs.lent_well.Goals.{then-is_code, else-is_code, then-is_code-2, else-is_code-2}
use Rattle.compose.proofs.lent_well.Goals as goal

pub returns-then-records-ne0 : goal.returns-then-records-ne0
returns-then-records-ne0 c = lent-parts _ _ c.if-records-ne0.true

pub loop-i-init : goal.loop-i-init
loop-i-init c = lent-all _ _ c.if-records-ne0.false

pub loop-i-preserved : goal.loop-i-preserved
loop-i-preserved c =
    let l = c.loop-i in
    let m = c.is_code.ensures in
    let n = c.is_code-in-loop-i.ensures in
    lent_on _ _ l.i l.message l.prune _ l.invariant c.loop-i-test.true c.row_at-r.ensures
    c.held_by.ensures c.if-not-held_by.false c.row_inside.ensures c.if-not-row_inside.false
    (elim c.if-is_code.branch [
      | then-is_code w ↦ or-now l.message m w.if-is_code.true w.message-is
      | else-is_code w ↦ or-then _ m w.if-is_code.false w.message-is
    ])
    (elim c.if-is_code-2.branch [
      | then-is_code-2 w ↦ or-now l.prune n w.if-is_code-2.true w.prune-is
      | else-is_code-2 w ↦ or-then _ n w.if-is_code-2.false w.prune-is
    ])
