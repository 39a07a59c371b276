-- `pradulins::pradulins_encode` meets its contract: the answer is told.
use Rattle.protobuf.specs.Told.{encoded_told}
use Rattle.pradulins.proofs.Told.{told_as}
use Rattle.pradulins.proofs.pradulins_encode.Goals as goal

pub returns : goal.returns
returns c =
    let dialect = c.dialect_of-spoken.ensures in
    let did = c.encode-answer.ensures in
    let t = told_as encoded_told c.args.values.now (rw dialect at did.answer)
    c.told_encoded.ensures (c.tell.ensures.value, c.tell.ensures.values_after) in
    record { number = t.0; values = t.1; buffer = rw dialect at did.lent }
