-- `lines::put_values` meets its contract: there is room.
use native.Mathlib.Omega.{arith}
use Rattle.text.specs.Laws.{numbers_puts}
use Rattle.lines.proofs.put_values.Goals as goal

pub returns : goal.returns
returns c =
    let a = c.args in numbers_puts a.count a.first a.second a.third (omega arith) (omega arith) (omega arith) c.requires (c.put_numbers.ensures.value, c.put_numbers.ensures.out_after)
