-- `compose::emit_control` meets its contract: nothing, or measured, a head, and then the entries where there is room.
use mathlib.Core.List.{◌++◌}
use mathlib.Core.Path.{sym, ◌∙◌}
use native.Mathlib.Omega.{arith}
use Rattle.compose.specs.Lent.{lent_rows}
use Rattle.compose.specs.Puts.{puts_none, puts_same, each_row}
use Rattle.compose.proofs.Parts.{field_puts, field-short, control-none, control-some}
use Rattle.compose.proofs.emit_control.Goals as goal

pub returns-then-out-end : goal.returns-then-out-end
returns-then-out-end c =
    let a = c.args in
    let rs = lent_rows a.records.now in
    let b = a.bytes.now in
    puts_same a.out.now a.at _ _ _ _ (control-some b rs (sym c.has_control.ensures ∙ c.if-not-has_control.false))
    (field-short _ _ a.out.now _ a.at _ _ _ 3 (each_row 8 3 b rs ++ each_row 9 4 b rs) c.emit_entries-len.ensures c.emit_head-i.ensures c.past-end.ensures c.if-out-end.true)

pub returns : goal.returns
returns c =
    let a = c.args in
    let rs = lent_rows a.records.now in
    let b = a.bytes.now in
    puts_same a.out.now a.at _ _ _ _ (control-some b rs (sym c.has_control.ensures ∙ c.if-not-has_control.false))
    (field_puts _ _ a.out.now _ _ a.at _ _ _ 3 (each_row 8 3 b rs ++ each_row 9 4 b rs) c.emit_entries-len.ensures c.emit_head-i.ensures c.emit_entries.ensures)

pub returns-then-not-has_control : goal.returns-then-not-has_control
returns-then-not-has_control c =
    let a = c.args in
    puts_same a.out.now a.at _ _ _ _ (sym (control-none a.bytes.now (lent_rows a.records.now) (sym c.has_control.ensures ∙ c.if-not-has_control.true))) (puts_none a.out.now a.at (omega (arith, c.ranges.at.fits)))
