-- `lines::put_told` meets its contract: the test says what is put.
use native.Mathlib.Omega.{arith}
use Rattle.text.specs.Laws.{puts_as}
use Rattle.lines.specs.Laws.{wrote_puts}
use Rattle.lines.proofs.Spots.{in_full, in_short}
use Rattle.lines.proofs.put_told.Goals as goal

pub returns-then-full : goal.returns-then-full
returns-then-full c =
    puts_as (in_full _ _ _ c.if-full.true) (omega arith)
    (wrote_puts (omega arith) c.put_refusal.ensures)

pub returns : goal.returns
returns c =
    puts_as (in_short _ _ _ c.if-full.false) (omega arith)
    (wrote_puts (omega arith) c.put_refused.ensures)
