-- `node::emit_ids` meets its contract: what is left of the ids, written at the end of what was written, makes all of them.
use Rattle.encode.specs.Puts.{Going}
use Rattle.node.proofs.Writes.{ids_left}
use Rattle.node.proofs.emit_ids.Given as goal

abbrev pub invariant-loop-row : goal.invariant-loop-row
invariant-loop-row l =
    Going l.initial.out l.at (ids_left l.n l.rows l.id_lens l.ids 0) l.out l.end (ids_left l.n l.rows l.id_lens l.ids l.row-index)
