-- `inspect::senders::answer_key` meets its contract: the key is decoded and put.
use native.Mathlib.Omega.{arith}
use Rattle.text.specs.Laws.{puts_then, puts_as}
use Rattle.lines.specs.Laws.{wrote_puts}
use Rattle.inspect.proofs.Answering.{key_answer_lem}
use Rattle.inspect.proofs.senders.answer_key.Goals as goal

pub returns : goal.returns
returns c =
    puts_as (key_answer_lem _ _ c.decode_protobuf-key.ensures) (omega arith)
    (puts_then (wrote_puts (omega arith) c.put_word-i.ensures) c.put_key.ensures)
