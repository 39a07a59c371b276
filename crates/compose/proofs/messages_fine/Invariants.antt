-- `compose::messages_fine` meets its contract: what the messages from row i on say is what all of them do.
use mathlib.Core.Path.{◌≡◌}
use Rattle.compose.specs.Lent.{rows_from, lent_rows}
use Rattle.compose.specs.Said.{messages_in}
use Rattle.compose.specs.Weighed.{first_unfit}
use Rattle.compose.proofs.messages_fine.Given as goal

abbrev pub invariant-loop-i : goal.invariant-loop-i
invariant-loop-i l =
    first_unfit l.flags (messages_in l.bytes (rows_from l.records l.i)) ≡ first_unfit l.flags (messages_in l.bytes (lent_rows l.records))
