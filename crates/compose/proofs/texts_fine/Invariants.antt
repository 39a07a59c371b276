-- `compose::texts_fine` meets its contract: what the rows from i on say is what all of them do.
use mathlib.Core.Path.{◌≡◌}
use Rattle.compose.specs.Lent.{rows_from, lent_rows}
use Rattle.compose.specs.Compose.{texts_fine}
use Rattle.compose.proofs.texts_fine.Given as goal

abbrev pub invariant-loop-i : goal.invariant-loop-i
invariant-loop-i l = texts_fine l.bytes (rows_from l.records l.i) ≡ texts_fine l.bytes (lent_rows l.records)
