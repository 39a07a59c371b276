-- `inspect::records::row_line` meets its contract: the row's record, where there is one.
use mathlib.Core.Path.{ap}
use Rattle.inspect.specs.Records.{row_line}
use Rattle.lines.specs.Laws.{wrote_nothing, wrote_as}
use Rattle.inspect.proofs.records.row_line.Goals as goal

pub returns-in-None : goal.returns-in-None
unfolding row_line
returns-in-None c = wrote_as (ap (row_line c.args.body.now) c.in-None.ensures) (wrote_nothing _ _ _)

pub returns-in-Some : goal.returns-in-Some
unfolding row_line
returns-in-Some c = wrote_as (ap (row_line c.args.body.now) c.in-Some.ensures) c.record_line.ensures
