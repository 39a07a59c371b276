-- `message::put_record` meets its contract: kind and place, number, and places, one after the other, are the record's words.
use Prim.Native.Nat.{◌*◌}
use Rattle.message.proofs.Tables.{record_put}
use Rattle.message.proofs.put_record.Goals as goal

pub returns : goal.returns
returns c =
    let a = c.args in
    record_put a.table.now _ _ _ (a.row * 20) _ _ _ a.r
    c.kind_code-code.ensures
    (c.put_triple-a.ensures.value, c.put_triple-a.ensures.table_after)
    (c.put_number-b.ensures.value, c.put_number-b.ensures.table_after)
    c.put_places.ensures.table_after
