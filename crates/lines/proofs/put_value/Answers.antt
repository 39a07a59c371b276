-- `lines::put_value` meets its contract: the number is short enough.
use native.Mathlib.Omega.{arith}
use Rattle.text.specs.Laws.{length-number}
use Rattle.lines.specs.Laws.{wrote_in}
use Rattle.lines.proofs.put_value.Goals as goal

pub returns : goal.returns
returns c = wrote_in (length-number _ (omega arith)) (c.put_number.ensures.value, c.put_number.ensures.out_after)
