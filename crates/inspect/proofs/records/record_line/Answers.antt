-- `inspect::records::record_line` meets its contract: the tests, and then the record and a newline.
use mathlib.Core.Path.{refl}
use native.Mathlib.Omega.{arith}
use Rattle.text.specs.Laws.{puts_then, puts_as}
use Rattle.lines.specs.Laws.{wrote_nothing, wrote_as, puts_wrote, wrote_puts}
use Rattle.inspect.proofs.Lines.{record_turned, record_past, record_there}
use Rattle.inspect.proofs.records.record_line.Goals as goal

pub returns-then-end-start : goal.returns-then-end-start
returns-then-end-start c = wrote_as (record_turned _ c.args.found c.if-end-start.true) (wrote_nothing _ _ _)

pub returns-then-body-end : goal.returns-then-body-end
returns-then-body-end c = wrote_as (record_past _ c.args.found c.if-end-start.false c.if-body-end.true) (wrote_nothing _ _ _)

pub returns : goal.returns
returns c =
    wrote_as (record_there _ c.args.found
    c.if-end-start.false
    c.if-body-end.false)
    (puts_wrote (omega arith) (puts_as refl (omega arith) (puts_then c.put_record-i.ensures (wrote_puts (omega arith) c.end_line.ensures))))
