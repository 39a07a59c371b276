-- `inspect::put_varint` meets its contract: the case says what is put.
use mathlib.Core.Path.{sym, ap}
use native.Mathlib.Omega.{arith}
use Rattle.text.specs.Laws.{puts_then, puts_as}
use Rattle.inspect.specs.Answers.{varint}
use Rattle.lines.specs.Laws.{wrote_puts}
use Rattle.inspect.proofs.put_varint.Goals as goal

pub returns-in-Ok : goal.returns-in-Ok
unfolding varint
returns-in-Ok c =
    puts_as (ap varint (sym c.in-Ok.is)) (omega arith)
    (puts_then (wrote_puts (omega arith) c.put_value-i.ensures) (wrote_puts (omega arith) c.put_value.ensures))

pub returns-in-Err : goal.returns-in-Err
unfolding varint
returns-in-Err c =
    puts_as (ap varint (sym c.in-Err.is)) (omega arith)
    (rw c.told_varint.ensures at (wrote_puts (omega arith) c.put_refusal.ensures))
