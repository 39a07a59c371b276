-- `message::put_places` meets its contract: five places, one after the other, are one run of fifteen words.
use Rattle.message.proofs.Tables.{slots_put}
use Rattle.message.proofs.put_places.Goals as goal

pub returns : goal.returns
returns c =
    let a = c.args in let h = slots_put a.table.now _ _ _ _ _ a.i _ _ _ _ _ a.slots
    (c.put_place-a.ensures.value, c.put_place-a.ensures.table_after)
    (c.put_place-b.ensures.value, c.put_place-b.ensures.table_after)
    (c.put_place-c.ensures.value, c.put_place-c.ensures.table_after)
    (c.put_place-d.ensures.value, c.put_place-d.ensures.table_after)
    (c.put_place.ensures.value, c.put_place.ensures.table_after) in record { value = h.0; table_after = h.1 }
