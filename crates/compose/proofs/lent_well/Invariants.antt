-- `compose::lent_well` meets its contract: what the rows from i on say, after a message or none and a prune or none, is what all of them say.
use mathlib.Core.Path.{◌≡◌}
use lib.ListN.{length}
use Rattle.compose.specs.Lent.{rows_from, lent_from, lent_well}
use Rattle.compose.proofs.lent_well.Given as goal

abbrev pub invariant-loop-i : goal.invariant-loop-i
invariant-loop-i l =
    lent_from (length l.bytes) l.message l.prune (rows_from l.records l.i) ≡ lent_well l.records l.bytes
