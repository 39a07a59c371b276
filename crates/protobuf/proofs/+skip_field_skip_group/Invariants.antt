-- The cycle {skip_field, skip_group}. The bytes that are left fall: `skip_field` calls `skip_group` at its own place, so it comes one
-- higher, and `skip_group` reads a tag before it calls `skip_field`. The loop's invariant: going on from `at` gives the group's answer.
use Prim.Native.Nat.{◌+◌, ◌-◌, ◌*◌, ◌≤◌}
use mathlib.Core.Path.{◌≡◌}
use lib.ListN.{length}
use Rattle.protobuf.specs.Field.{skip_group}
use Rattle.protobuf.proofs.+skip_field_skip_group.Given as goal

abbrev pub decreases-skip_field : goal.decreases-skip_field
decreases-skip_field l = 2 * (length l.input.now - l.idx) + 1

abbrev pub decreases-skip_group : goal.decreases-skip_group
decreases-skip_group l = 2 * (length l.input.now - l.idx)

abbrev pub invariant-skip_group-loop-number : goal.invariant-skip_group-loop-number
invariant-skip_group-loop-number l = (l.idx ≤ l.at) × (skip_group l.levels l.input l.at l.field ≡ skip_group l.levels l.input l.idx l.field)

abbrev pub decreases-skip_group-loop-number : goal.decreases-skip_group-loop-number
decreases-skip_group-loop-number l = length l.input - l.at
