-- `pradulins::pradulins_walk` meets its contract: the answer is told.
use Rattle.protobuf.specs.Told.{walk_told}
use Rattle.pradulins.proofs.Told.{told_as}
use Rattle.pradulins.proofs.pradulins_walk.Goals as goal

pub returns : goal.returns
returns c =
    let dialect = c.dialect_of-spoken.ensures in
    let t = told_as walk_told c.args.values.now (rw dialect at c.step-answer.ensures)
    c.told_walk.ensures (c.tell.ensures.value, c.tell.ensures.values_after) in
    record { number = t.0; values = t.1 }
