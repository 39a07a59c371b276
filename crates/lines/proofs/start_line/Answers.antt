-- `lines::start_line` meets its contract: the number is short enough.
use native.Mathlib.Omega.{arith}
use Rattle.text.specs.Laws.{decimal_twenty}
use Rattle.lines.specs.Laws.{wrote_in}
use Rattle.lines.proofs.start_line.Goals as goal

pub returns : goal.returns
returns c = wrote_in (decimal_twenty _ (omega arith)) (c.put_decimal.ensures.value, c.put_decimal.ensures.out_after)
