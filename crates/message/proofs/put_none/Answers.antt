-- `message::put_none` meets its contract: no number, and five times no place, one after the other.
use Rattle.message.proofs.Tables.{none-put}
use Rattle.message.proofs.put_none.Goals as goal

pub returns : goal.returns
returns c =
    let a = c.args in
    none-put a.table.now _ _ _ _ _ _ a.i _ _ _ _ _ _
    (c.put_pair-a.ensures.value, c.put_pair-a.ensures.table_after)
    (c.put_triple-b.ensures.value, c.put_triple-b.ensures.table_after)
    (c.put_triple-c.ensures.value, c.put_triple-c.ensures.table_after)
    (c.put_triple-d.ensures.value, c.put_triple-d.ensures.table_after)
    (c.put_triple-e.ensures.value, c.put_triple-e.ensures.table_after) (c.put_triple.ensures.value, c.put_triple.ensures.table_after)
