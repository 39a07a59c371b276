-- `compose::emit_row_field` meets its contract: measured, a head, and then the row where there is room.
use Prim.Native.Nat.{◌+◌, ◌*◌}
use Rattle.message.specs.Rows.{record_from}
use Rattle.compose.specs.Lent.{rows_from}
use Rattle.compose.specs.Puts.{row_bytes}
use Rattle.compose.proofs.Parts.{field_puts, field-short}
use Rattle.compose.proofs.emit_row_field.Goals as goal

pub returns-then-out-end : goal.returns-then-out-end
returns-then-out-end c =
    let a = c.args in
    field-short _ _ a.out.now _ a.at _ _ _ a.n (row_bytes a.code a.bytes.now (record_from a.records.now (a.i * 20)) (rows_from a.records.now (a.i + 1)))
    c.emit_row-len.ensures c.emit_head-j.ensures c.past-end.ensures c.if-out-end.true

pub returns : goal.returns
returns c =
    let a = c.args in
    field_puts _ _ a.out.now _ _ a.at _ _ _ a.n (row_bytes a.code a.bytes.now (record_from a.records.now (a.i * 20)) (rows_from a.records.now (a.i + 1)))
    c.emit_row-len.ensures c.emit_head-j.ensures c.emit_row.ensures
