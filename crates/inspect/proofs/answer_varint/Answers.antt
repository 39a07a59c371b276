-- `inspect::answer_varint` meets its contract: the varint is read and put.
use Rattle.lines.specs.Laws.{wrote_puts}
use native.Mathlib.Omega.{arith}
use Rattle.text.specs.Laws.{puts_then, puts_as}
use Rattle.inspect.proofs.Answering.{varint_answer_lem}
use Rattle.inspect.proofs.answer_varint.Goals as goal

pub returns : goal.returns
returns c =
    puts_as (varint_answer_lem _ _ c.read_uvarint-v.ensures) (omega arith) (puts_then (wrote_puts (omega arith) c.put_word-i.ensures) c.put_varint.ensures)
