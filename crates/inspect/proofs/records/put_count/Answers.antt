-- `inspect::records::put_count` meets its contract: the case says what is put.
use mathlib.Core.Path.{sym, ap}
use native.Mathlib.Omega.{arith}
use Rattle.text.specs.Laws.{puts_as}
use Rattle.inspect.specs.Records.{count_text}
use Rattle.lines.specs.Laws.{wrote_puts}
use Rattle.inspect.proofs.records.put_count.Goals as goal

pub returns-in-Absent : goal.returns-in-Absent
unfolding count_text
returns-in-Absent c =
    puts_as (ap count_text (sym c.in-Absent.is)) (omega arith) (wrote_puts (omega arith) c.put_word.ensures)

pub returns-in-Present : goal.returns-in-Present
unfolding count_text
returns-in-Present c =
    puts_as (ap count_text (sym c.in-Present.is)) (omega arith) (wrote_puts (omega arith) c.put_value.ensures)
