-- `compose::emit_fields` meets its contract: fields 1 to 4, in their order.
use Prim.Native.Nat.{◌+◌, ◌*◌}
use native.Mathlib.Omega.{arith}
use Rattle.message.specs.Rows.{record_from}
use Rattle.compose.specs.Lent.{rows_from}
use Rattle.compose.specs.Puts.{puts_same, puts_append}
use Rattle.compose.proofs.Parts.{fields_at}
use Rattle.compose.proofs.emit_fields.Goals as goal

pub emit_field-requires : goal.emit_field-requires
emit_field-requires c =
    let p = c.requires in record {
      inside = p.inside;
      message_row = p.message_row;
      r_value = (c.row_at-r.ensures, omega arith);
    }

pub returns : goal.returns
returns c =
    let a = c.args in
    puts_same a.out.now a.at _ _ _ _ (fields_at a.bytes.now _ (record_from a.records.now (a.i * 20)) (rows_from a.records.now (a.i + 1)) c.row_at-r.ensures)
    (puts_append a.out.now _ _ a.at _ _ _ _ c.emit_field-j.ensures
    (puts_append _ _ _ _ _ _ _ _ c.emit_field-k.ensures
    (puts_append _ _ _ _ _ _ _ _ c.emit_field-l.ensures c.emit_field.ensures)))
