-- `inspect::records::put_flag` meets its contract: the case and the test say what is put.
use mathlib.Core.Path.{sym, ap}
use native.Mathlib.Omega.{arith}
use Rattle.text.specs.Laws.{puts_as}
use Rattle.inspect.specs.Records.{flag_text}
use Rattle.inspect.proofs.Lines.{flag-zero, flag_one}
use Rattle.lines.specs.Laws.{wrote_puts}
use Rattle.inspect.proofs.records.put_flag.Goals as goal

pub returns-then-v-eq0 : goal.returns-then-v-eq0
returns-then-v-eq0 c =
    puts_as (flag-zero _ _ c.in-Present.is c.if-v-eq0.true) (omega arith) (wrote_puts (omega arith) c.put_word-then-v-eq0.ensures)

pub returns-in-Absent : goal.returns-in-Absent
unfolding flag_text
returns-in-Absent c =
    puts_as (ap flag_text (sym c.in-Absent.is)) (omega arith) (wrote_puts (omega arith) c.put_word.ensures)

pub returns-else-v-eq0 : goal.returns-else-v-eq0
returns-else-v-eq0 c =
    puts_as (flag_one _ _ c.in-Present.is c.if-v-eq0.false) (omega arith) (wrote_puts (omega arith) c.put_word-in-Present.ensures)
