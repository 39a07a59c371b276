-- `pradulins::pradulins_ask` meets its contract: what the stored node answers is told.
use Rattle.node.specs.Told.{ask_told}
use Rattle.pradulins.proofs.Told.{told_as}
use Rattle.pradulins.proofs.pradulins_ask.Goals as goal

pub returns : goal.returns
returns c =
    let node = c.load-n.ensures in
    let edition = c.edition_of-spoken.ensures in
    let did = c.ask-r.ensures in
    let t = told_as ask_told c.args.values.now (rw (node, edition) at did.answer)
    c.told_ask.ensures (c.tell.ensures.value, c.tell.ensures.values_after) in
    record { number = t.0; values = t.1; buffer = rw (node, edition) at did.buffer }
