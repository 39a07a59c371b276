-- `compose::write_tested` meets its contract: measured, and written where the length and the room allow it.
use native.Mathlib.Omega.{arith}
use Rattle.compose.proofs.Parts.{measured}
use Rattle.compose.proofs.Answers.{too_short, all-put, too_long, not-long}
use Rattle.compose.proofs.write_tested.Goals as goal

pub returns-then-len-gt-MAX_RPC_SIZE : goal.returns-then-len-gt-MAX_RPC_SIZE
returns-then-len-gt-MAX_RPC_SIZE c = too_long _ _ _ (measured _ _ _ _ c.emit_rpc-len.ensures) c.if-len-gt-MAX_RPC_SIZE.true

pub returns-then-out-len : goal.returns-then-out-len
returns-then-out-len c =
    let e = measured _ _ _ _ c.emit_rpc-len.ensures in
    not-long _ _ _ e c.if-len-gt-MAX_RPC_SIZE.false _ _ (too_short _ _ _ e c.if-out-len.true)

pub returns : goal.returns
returns c =
    let e = measured _ _ _ _ c.emit_rpc-len.ensures in
    not-long _ _ _ e c.if-len-gt-MAX_RPC_SIZE.false _ _
    (all-put _ c.args.out.now _ e _ _ c.if-out-len.false (omega (arith)) c.emit_rpc.ensures)
