-- `pradulins::pradulins_write_rpc` meets its contract: the answer is told.
use Rattle.compose.specs.Told.{composed_told}
use Rattle.pradulins.proofs.Told.{told_as}
use Rattle.pradulins.proofs.pradulins_write_rpc.Goals as goal

pub returns : goal.returns
returns c =
    let did = c.write_rpc-answer.ensures in
    let t = told_as composed_told c.args.values.now did.answer c.told_composed.ensures (c.tell.ensures.value, c.tell.ensures.values_after) in
    record { number = t.0; values = t.1; buffer = did.lent }
