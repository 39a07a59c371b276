-- `pradulins::pradulins_decode` meets its contract: the answer is told.
use Rattle.message.specs.Told.{decoded_told}
use Rattle.pradulins.proofs.Told.{told_as}
use Rattle.pradulins.proofs.pradulins_decode.Goals as goal

pub returns : goal.returns
returns c =
    let dialect = c.dialect_of-spoken.ensures in
    let did = c.decode-answer.ensures in
    let t = told_as decoded_told c.args.values.now (rw dialect at did.answer)
    c.told_decoded.ensures (c.tell.ensures.value, c.tell.ensures.values_after) in
    record { number = t.0; values = t.1; table = rw dialect at did.lent }
