-- `compose::message_row` meets its contract: so many messages were passed before row i.
use Prim.Native.Nat.{◌≤◌}
use Rattle.compose.proofs.Tests.{Passed}
use Rattle.compose.proofs.message_row.Given as goal

abbrev pub invariant-loop-i : goal.invariant-loop-i
invariant-loop-i l = (l.count ≤ l.i) × (l.count ≤ l.index) × Passed l.records l.bytes l.count l.i
