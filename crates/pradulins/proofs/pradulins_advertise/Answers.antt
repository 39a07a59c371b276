-- `pradulins::pradulins_advertise` meets its contract: what the stored node answers is told.
use Rattle.node.specs.Told.{advertise_told}
use Rattle.pradulins.proofs.Told.{told_as}
use Rattle.pradulins.proofs.pradulins_advertise.Goals as goal

pub returns : goal.returns
returns c =
    let node = c.load-n.ensures in
    let did = c.advertise-r.ensures in
    let t = told_as advertise_told c.args.values.now
    (rw node at did.answer) c.told_advertise.ensures (c.tell.ensures.value, c.tell.ensures.values_after) in
    record { number = t.0; values = t.1; buffer = rw node at did.buffer }
