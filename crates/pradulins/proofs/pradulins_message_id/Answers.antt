-- `pradulins::pradulins_message_id` meets its contract: the answer is told.
use Rattle.ids.specs.Told.{message_told}
use Rattle.pradulins.proofs.Told.{told_as}
use Rattle.pradulins.proofs.pradulins_message_id.Goals as goal

pub returns : goal.returns
returns c =
    let dialect = c.dialect_of-spoken.ensures in
    let did = c.message_id-answer.ensures in
    let t = told_as message_told c.args.values.now (rw dialect at did.answer)
    c.told_message.ensures (c.tell.ensures.value, c.tell.ensures.values_after) in
    record { number = t.0; values = t.1; buffer = rw dialect at did.lent }
