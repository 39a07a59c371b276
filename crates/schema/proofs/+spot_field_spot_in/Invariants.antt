-- A submessage's kind ranks lower, and `spot_in` calls `spot_field` at its own kind, so it comes one higher. The loop's invariant:
-- what stands from `at` on decides.
use Rattle.std.proofs.Common.{◌≡◌, length, ◌-◌, ◌+◌, ◌*◌, ◌≤◌}
use Rattle.protobuf.specs.Walk.{walk_at}
use Rattle.schema.specs.Schema.{rank}
use Rattle.schema.specs.Spots.{spot_along, spot_in}
use Rattle.schema.proofs.+spot_field_spot_in.Given as goal

abbrev pub decreases-spot_field : goal.decreases-spot_field
decreases-spot_field l = 2 * rank l.kind

abbrev pub decreases-spot_in : goal.decreases-spot_in
decreases-spot_in l = 2 * rank l.kind + 1

abbrev pub invariant-spot_in-loop-why : goal.invariant-spot_in-loop-why
invariant-spot_in-loop-why l = record {
  inside : l.at ≤ length l.input;
  rest : spot_in l.mode l.kind l.input ≡ spot_along (spot_in l.mode) l.kind l.input (walk_at l.mode l.input l.at);
}

abbrev pub decreases-spot_in-loop-why : goal.decreases-spot_in-loop-why
decreases-spot_in-loop-why l = length l.input - l.at
