-- A submessage's kind ranks lower, and `write_message` calls `write_field` at its own kind, so it comes one higher. The loop's
-- invariant: what is left along the fields, written from the next row on, makes what all of it makes.
use Rattle.std.proofs.Common.{length, ◌-◌, ◌+◌, ◌*◌, ◌≤◌}
use Rattle.basis.specs.declared.Mode.TheVariants.{Groups}
use Rattle.schema.specs.Schema.{rank}
use Rattle.message.proofs.Turns.{Left, along_at}
use Rattle.message.proofs.+write_field_write_message.Given as goal

abbrev pub decreases-write_field : goal.decreases-write_field
decreases-write_field l = 2 * rank l.kind

abbrev pub decreases-write_message : goal.decreases-write_message
decreases-write_message l = 2 * rank l.kind + 1

abbrev pub invariant-write_message-loop-f : goal.invariant-write_message-loop-f
invariant-write_message-loop-f l = record {
  room : (l.initial.next_row + length (along_at Groups l.kind l.base l.input 0)) * 20 ≤ length l.initial.table;
  left : Left l.initial.table l.initial.next_row (along_at Groups l.kind l.base l.input 0) l.table l.next_row (along_at Groups l.kind l.base l.input l.at);
}

abbrev pub decreases-write_message-loop-f : goal.decreases-write_message-loop-f
decreases-write_message-loop-f l = length l.input - l.at
