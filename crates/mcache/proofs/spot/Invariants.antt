use Rattle.std.proofs.Common.{◌≡◌, ◌+◌, take, drop}
use Rattle.rows.specs.Store.{id_at}
use Rattle.mcache.specs.State.{spot_of, message_id_size}
use Rattle.mcache.proofs.spot.Given as goal

abbrev pub invariant-loop-i : goal.invariant-loop-i
invariant-loop-i l =
    l.i + spot_of (id_at message_id_size l.id_lens l.ids) l.p (drop l.i (take l.n l.rows)) ≡ spot_of (id_at message_id_size l.id_lens l.ids) l.p (take l.n l.rows)
