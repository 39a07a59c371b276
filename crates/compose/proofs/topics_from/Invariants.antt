-- `compose::topics_from` meets its contract: the topics that were counted, and those from row i on, are those from the first row on.
use Prim.Native.Nat.{◌≤◌}
use Rattle.compose.specs.Lent.{rows_from}
use Rattle.compose.specs.Said.{topics_from}
use Rattle.compose.proofs.Tests.{Counted}
use Rattle.compose.proofs.topics_from.Given as goal

abbrev pub invariant-loop-i : goal.invariant-loop-i
invariant-loop-i l =
    (l.count ≤ l.i) × Counted (topics_from l.bytes (rows_from l.records l.from)) l.count l.long (topics_from l.bytes (rows_from l.records l.i))
