-- A submessage's kind ranks lower, and `count` calls `count_field` at its own kind, so it comes one higher. The loop's invariant:
-- going on from `at` with n records gives the message's count, and there are no more records than bytes passed.
use Rattle.std.proofs.Common.{◌≡◌, length, ◌-◌, ◌+◌, ◌*◌, ◌≤◌}
use Rattle.protobuf.specs.Walk.{walk_at}
use Rattle.schema.specs.Schema.{rank}
use Rattle.schema.specs.Count.{plus, count_along, counted}
use Rattle.schema.proofs.+count_count_field.Given as goal

abbrev pub decreases-count : goal.decreases-count
decreases-count l = 2 * rank l.kind + 1

abbrev pub decreases-count_field : goal.decreases-count_field
decreases-count_field l = 2 * rank l.kind

abbrev pub invariant-count-loop-f : goal.invariant-count-loop-f
invariant-count-loop-f l = record {
  inside : l.at ≤ length l.input;
  few : l.n ≤ l.at;
  rest : counted l.mode l.kind l.input ≡ plus l.n (count_along (counted l.mode) l.kind l.input (walk_at l.mode l.input l.at));
}

abbrev pub decreases-count-loop-f : goal.decreases-count-loop-f
decreases-count-loop-f l = length l.input - l.at
