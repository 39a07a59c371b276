-- `lines::put_shown` meets its contract: the number and then the hex.
use native.Mathlib.Omega.{arith}
use mathlib.Core.Path.{refl}
use Rattle.text.specs.Laws.{puts_then, puts_as}
use Rattle.lines.specs.Laws.{wrote_puts}
use Rattle.lines.proofs.put_shown.Goals as goal

pub returns : goal.returns
returns c =
    puts_as refl (omega arith) (puts_then (wrote_puts (omega arith) c.put_value-i.ensures) c.put_hex_of.ensures)
