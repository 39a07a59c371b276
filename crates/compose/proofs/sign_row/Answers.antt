-- `compose::sign_row` meets its contract: measured, and written where there is room.
use native.Mathlib.Omega.{arith}
use Rattle.compose.proofs.Parts.{measured}
use Rattle.compose.proofs.Answers.{too_short, all-put}
use Rattle.compose.proofs.sign_row.Goals as goal

pub returns-then-out-needed : goal.returns-then-out-needed
returns-then-out-needed c = too_short _ _ _ (measured _ _ _ _ c.emit_signed-needed.ensures) c.if-out-needed.true

pub returns : goal.returns
returns c =
    all-put _ c.args.out.now _ (measured _ _ _ _ c.emit_signed-needed.ensures) _ _ c.if-out-needed.false
    (omega (arith)) c.emit_signed.ensures
