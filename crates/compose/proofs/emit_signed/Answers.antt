-- `compose::emit_signed` meets its contract: the prefix, and then the fields.
use Prim.Native.Nat.{◌+◌, ◌*◌}
use Rattle.message.specs.Rows.{record_from}
use Rattle.compose.specs.Lent.{rows_from}
use Rattle.compose.specs.Puts.{puts_same, puts_append}
use Rattle.compose.proofs.Parts.{signed_is}
use Rattle.compose.proofs.emit_signed.Goals as goal

pub returns : goal.returns
returns c =
    let a = c.args in
    puts_same a.out.now 0 _ _ _ _ (signed_is a.bytes.now (record_from a.records.now (a.i * 20)) (rows_from a.records.now (a.i + 1)))
    (puts_append a.out.now _ _ 0 _ _ _ _ c.emit_bytes-j.ensures c.emit_fields.ensures)
