-- `lines::put_spot` meets its contract: the case says what is put.
use native.Mathlib.Omega.{arith}
use Rattle.text.specs.Laws.{puts_none, puts_then, puts_as}
use Rattle.lines.specs.Laws.{wrote_puts}
use Rattle.lines.proofs.Spots.{nowhere, somewhere}
use Rattle.lines.proofs.put_spot.Goals as goal

pub returns-in-None : goal.returns-in-None
returns-in-None c = puts_as (nowhere _ c.in-None.is) (omega arith) (puts_none _ _)

pub returns-in-Some : goal.returns-in-Some
returns-in-Some c =
    puts_as (somewhere _ _ c.in-Some.is) (omega arith)
    (puts_then (wrote_puts (omega arith) c.put_word-i.ensures)
    (puts_then (wrote_puts (omega arith) c.put_value-j.ensures) c.put_fields.ensures))
