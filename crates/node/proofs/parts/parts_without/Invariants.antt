-- `parts_without` meets its contract. The loop's invariant: the parts in `to`, and then those of `from` from i on that are not among the others,
-- are all that are not.
use Rattle.node.specs.Parts.{parts_in, without}
use Rattle.node.proofs.Asking.{Picked}
use Rattle.node.proofs.parts.parts_without.Given as goal

abbrev pub invariant-loop-i : goal.invariant-loop-i
invariant-loop-i l = Picked (without (parts_in l.other l.table l.m)) l.body l.from l.n l.to l.k l.i
