-- `mcache::tell_row` meets its contract: a row that is told of goes into its spot.
use Rattle.std.proofs.Common.{refl}
use Rattle.rows.specs.Store.{id_at}
use Rattle.mcache.specs.State.{message_id_size}
use Rattle.mcache.proofs.Listing.{spot-room, told-put}
use Rattle.mcache.proofs.tell_row.Goals as goal

pub put_row-requires : goal.put_row-requires
put_row-requires c =
    let a = c.args in
    (spot-room (id_at message_id_size a.id_lens.now a.ids.now) a.p a.n c.spot-at.result a.rows.now c.requires.0 c.spot-at.ensures, c.requires.0)

pub returns-then-there : goal.returns-then-there
returns-then-there c =
    let spot = c.spot-at in
    let a = c.args in
    let pre = c.requires in
    rw c.if-there.true (record {
      value = refl;
      rows_after = told-put (id_at message_id_size a.id_lens.now a.ids.now) a.p a.n spot.result a.rows.now _ pre.0
          spot.ensures c.put_row.ensures;
    })

pub returns : goal.returns
returns c = rw c.if-there.false (record { value = refl; rows_after = refl })
