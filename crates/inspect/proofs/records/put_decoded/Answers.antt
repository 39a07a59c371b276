-- `inspect::records::put_decoded` meets its contract: the test says which word it is.
use native.Mathlib.Omega.{arith}
use Rattle.text.specs.Laws.{puts_then, puts_as}
use Rattle.lines.specs.Laws.{wrote_puts}
use Rattle.inspect.proofs.Lines.{with-control, without-control}
use Rattle.inspect.proofs.records.put_decoded.Goals as goal

pub returns-then-t-eq1 : goal.returns-then-t-eq1
returns-then-t-eq1 c =
    puts_as (with-control _ c.if-t-eq1.true) (omega arith)
    (puts_then (wrote_puts (omega arith) c.put_word-i.ensures)
    (puts_then (wrote_puts (omega arith) c.put_value-j.ensures) (wrote_puts (omega arith) c.put_word.ensures)))

pub returns : goal.returns
returns c =
    puts_as (without-control _ c.if-t-eq1.false) (omega arith)
    (puts_then (wrote_puts (omega arith) c.put_word-i.ensures)
    (puts_then (wrote_puts (omega arith) c.put_value-j.ensures) (wrote_puts (omega arith) c.put_word-2.ensures)))
