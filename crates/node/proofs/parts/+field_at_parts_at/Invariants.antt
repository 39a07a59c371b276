-- A path gets shorter with each submessage, and `parts_at` calls `field_at` at its own path, so it comes one higher. The loop's invariant: the parts in
-- the table, and then those in the fields from `at` on, are all that are to be in it.
use Rattle.std.proofs.Common.{◌+◌, ◌-◌, ◌*◌, length}
use Rattle.node.proofs.Turns.{Walked}
use Rattle.node.proofs.parts.+field_at_parts_at.Given as goal

abbrev pub decreases-field_at : goal.decreases-field_at
decreases-field_at l = 2 * length l.path.now

abbrev pub decreases-parts_at : goal.decreases-parts_at
decreases-parts_at l = 2 * length l.path.now + 1

abbrev pub invariant-parts_at-loop-at : goal.invariant-parts_at-loop-at
invariant-parts_at-loop-at l = Walked l.mode l.body l.start l.end l.path l.fn.table l.n l.table l.at l.k

abbrev pub decreases-parts_at-loop-at : goal.decreases-parts_at-loop-at
decreases-parts_at-loop-at l = (l.end - l.start) - l.at
