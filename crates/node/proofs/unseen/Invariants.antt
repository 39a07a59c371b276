-- `unseen` meets its contract. The loop's invariant: the ids in `to`, and then those of `from` from i on that are not seen, are all that are not.
use Rattle.rows.specs.Store.{ids_in}
use Rattle.node.specs.Calls.{unseen_from}
use Rattle.node.proofs.Asking.{Picked}
use Rattle.node.proofs.unseen.Given as goal

abbrev pub invariant-loop-i : goal.invariant-loop-i
invariant-loop-i l = Picked (unseen_from l.flags (ids_in 129 l.ring l.lens l.store)) l.body l.from l.n l.to l.k l.i
