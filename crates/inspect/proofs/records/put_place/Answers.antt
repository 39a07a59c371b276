-- `inspect::records::put_place` meets its contract: the case and the tests say what is put.
use mathlib.Core.Path.{sym, ap}
use native.Mathlib.Omega.{arith}
use Rattle.text.specs.Laws.{puts_as}
use Rattle.inspect.specs.Records.{place_text}
use Rattle.inspect.proofs.Lines.{place-turned, place-past, place-there}
use Rattle.lines.specs.Laws.{wrote_puts}
use Rattle.inspect.proofs.records.put_place.Goals as goal

pub returns-then-end-start : goal.returns-then-end-start
returns-then-end-start c =
    puts_as (place-turned _ _ _ _ c.in-Present.is c.if-end-start.true) (omega arith) (wrote_puts (omega arith) c.put_word-then-end-start.ensures)

pub returns-then-s-end : goal.returns-then-s-end
returns-then-s-end c =
    puts_as (place-past _ _ _ _ c.in-Present.is c.if-end-start.false c.if-s-end.true) (omega arith) (wrote_puts (omega arith) c.put_word-then-s-end.ensures)

pub returns-in-Absent : goal.returns-in-Absent
unfolding place_text
returns-in-Absent c =
    puts_as (ap (place_text c.args.s.now) (sym c.in-Absent.is)) (omega arith) (wrote_puts (omega arith) c.put_word.ensures)

pub returns-else-s-end : goal.returns-else-s-end
returns-else-s-end c =
    puts_as (place-there _ _ _ _ c.in-Present.is c.if-end-start.false c.if-s-end.false) (omega arith) c.put_bytes.ensures
