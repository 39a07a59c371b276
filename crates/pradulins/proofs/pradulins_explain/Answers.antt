-- `pradulins::pradulins_explain` meets its contract: what the stored node answers is told.
use Rattle.node.specs.Told.{explain_told}
use Rattle.pradulins.proofs.Told.{told_as}
use Rattle.pradulins.proofs.pradulins_explain.Goals as goal

pub returns : goal.returns
returns c =
    let t = told_as explain_told c.args.values.now
    (rw c.load-n.ensures at c.explain-r.ensures.answer) c.told_explain.ensures
    (c.tell.ensures.value, c.tell.ensures.values_after) in
    record { number = t.0; values = t.1 }
