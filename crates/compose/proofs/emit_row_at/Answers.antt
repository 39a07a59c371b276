-- `compose::emit_row_at` meets its contract: a row of that kind or nothing, by the code.
use Prim.Native.Nat.{◌+◌, ◌*◌}
use mathlib.Core.Path.{sym, ◌∙◌}
use native.Mathlib.Omega.{arith}
use Rattle.message.specs.Rows.{record_from}
use Rattle.compose.specs.Lent.{rows_from}
use Rattle.compose.specs.Puts.{puts_none, puts_same}
use Rattle.compose.proofs.Parts.{row-yes, row-no, written-code}
use Rattle.compose.proofs.emit_row_at.Goals as goal

pub is_code-requires : goal.is_code-requires
is_code-requires c = let p = c.requires in (p.i_in_bounds, (written-code p.written.0).0, (written-code p.written.0).1)

pub emit_row_field-requires : goal.emit_row_field-requires
emit_row_field-requires c =
    let p = c.requires in record {
      inside = p.inside;
      i_in_bounds = p.i_in_bounds;
      written = p.written;
      code_value = sym c.is_code.ensures ∙ c.if-is_code.true;
    }

pub returns-then-is_code : goal.returns-then-is_code
returns-then-is_code c =
    let a = c.args in
    puts_same a.out.now a.at _ _ _ _ (row-yes a.code a.n a.bytes.now (record_from a.records.now (a.i * 20)) (rows_from a.records.now (a.i + 1)) (sym c.is_code.ensures ∙ c.if-is_code.true)) c.emit_row_field.ensures

pub returns : goal.returns
returns c =
    let a = c.args in
    puts_same a.out.now a.at _ _ _ _ (row-no a.code a.n a.bytes.now (record_from a.records.now (a.i * 20)) (rows_from a.records.now (a.i + 1)) (sym c.is_code.ensures ∙ c.if-is_code.false)) (puts_none a.out.now a.at (omega (arith, c.ranges.at.fits)))
