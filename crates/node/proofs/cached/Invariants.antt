-- `cached` meets its contract. The loop's invariant: the messages in `to`, and then those that are cached of the ids in `from` from i on, are all.
use Rattle.rows.specs.Store.{ids_in}
use Rattle.node.proofs.Serving.{Found}
use Rattle.node.proofs.cached.Given as goal

abbrev pub invariant-loop-i : goal.invariant-loop-i
invariant-loop-i l = Found l.lens l.ring (ids_in 128 l.ring l.id_lens l.ids) l.body l.from l.n l.to l.k l.i
