-- `compose::emit_number` meets its contract: nothing, or a tag and the number.
use mathlib.Core.Path.{sym}
use native.Mathlib.Omega.{arith}
use Rattle.compose.specs.Puts.{puts_none, puts_same, puts_append}
use Rattle.compose.proofs.Parts.{number-none, number_is}
use Rattle.compose.proofs.emit_number.Goals as goal

pub returns-in-Absent : goal.returns-in-Absent
returns-in-Absent c =
    let a = c.args in
    puts_same a.out.now a.at _ _ _ _ (sym (number-none a.n a.number c.in-Absent.is)) (puts_none a.out.now a.at (omega (arith, c.ranges.at.fits)))

pub returns-in-Present : goal.returns-in-Present
returns-in-Present c =
    let a = c.args in
    puts_same a.out.now a.at _ _ _ _ (sym (number_is a.n _ a.number c.in-Present.is)) (puts_append a.out.now _ _ a.at _ _ _ _ c.emit_varint-i.ensures c.emit_varint.ensures)
