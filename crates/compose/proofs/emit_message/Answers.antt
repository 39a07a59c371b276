-- `compose::emit_message` meets its contract: these, and then fields 5 and 6.
use Prim.Native.Nat.{◌+◌, ◌*◌}
use Rattle.message.specs.Rows.{record_from}
use Rattle.compose.specs.Lent.{rows_from}
use Rattle.compose.specs.Puts.{puts_same, puts_append}
use Rattle.compose.proofs.Parts.{message_at_lem}
use Rattle.compose.proofs.emit_message.Goals as goal

pub returns : goal.returns
returns c =
    let a = c.args in
    puts_same a.out.now a.at _ _ _ _ (message_at_lem a.bytes.now _ (record_from a.records.now (a.i * 20)) (rows_from a.records.now (a.i + 1)) c.row_at-r.ensures)
    (puts_append a.out.now _ _ a.at _ _ _ _ c.emit_fields-j.ensures (puts_append _ _ _ _ _ _ _ _ c.emit_field-k.ensures c.emit_field.ensures))
