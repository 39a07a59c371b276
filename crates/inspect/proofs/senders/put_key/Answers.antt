-- `inspect::senders::put_key` meets its contract: the case says what is put.
use native.Mathlib.Omega.{arith}
use Rattle.text.specs.Laws.{puts_then, puts_as}
use Rattle.lines.specs.Laws.{wrote_puts}
use Rattle.inspect.proofs.Answering.{key-there, key-refused}
use Rattle.inspect.proofs.senders.put_key.Goals as goal

pub returns-in-Ok : goal.returns-in-Ok
returns-in-Ok c =
    puts_as (key-there _ _ _ _ c.in-Ok.is c.code_of.ensures) (omega arith)
    (puts_then (wrote_puts (omega arith) c.put_value-i.ensures) c.put_rest.ensures)

pub returns-in-Err : goal.returns-in-Err
returns-in-Err c =
    puts_as (key-refused _ _ _ _ c.in-Err.is c.told_key.ensures) (omega arith)
    (wrote_puts (omega arith) c.put_refusal.ensures)
