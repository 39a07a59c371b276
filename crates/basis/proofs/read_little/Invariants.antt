-- `basis::read_little` meets its contract: `value` is the number in the bytes that were passed, on top of those that are left.
use lib.ListN.{take, drop}
use Rattle.basis.specs.Little.{little}
use Rattle.basis.proofs.Little.{Read}
use Rattle.basis.proofs.read_little.Given as goal

abbrev pub invariant-loop-b : goal.invariant-loop-b
invariant-loop-b l = Read (little (take l.n (drop l.at l.s))) l.n l.b-iterator.iter.rest.now l.value
