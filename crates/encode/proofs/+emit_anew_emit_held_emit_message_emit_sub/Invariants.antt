-- Entries that are written anew rank lower than the message that they stand in. The loops' invariants: what is left along the fields, or
-- of the table's rows, written at the end of what was written, makes all.
use Rattle.std.proofs.Common.{length, ◌-◌, ◌+◌, ◌*◌}
use Rattle.basis.specs.declared.Mode.TheVariants.{Groups}
use Rattle.protobuf.specs.Walk.{walk_at}
use Rattle.protobuf.specs.Encode.{bytes_field}
use Rattle.schema.specs.Schema.{rank}
use Rattle.canon.specs.Canon.{each_along, each_of, part_with, canon}
use Rattle.encode.specs.Puts.{Going}
use Rattle.encode.proofs.Parts.{depth, rows_from}
use Rattle.encode.proofs.+emit_anew_emit_held_emit_message_emit_sub.Given as goal

abbrev pub decreases-emit_anew : goal.decreases-emit_anew
decreases-emit_anew l = 5 * rank l.kind + 3

abbrev pub decreases-emit_held : goal.decreases-emit_held
decreases-emit_held l = depth l.held

abbrev pub decreases-emit_message : goal.decreases-emit_message
decreases-emit_message l = 5 * rank l.kind + 1

abbrev pub decreases-emit_sub : goal.decreases-emit_sub
decreases-emit_sub l = 5 * rank l.kind + 2

abbrev pub invariant-emit_anew-loop-f : goal.invariant-emit_anew-loop-f
invariant-emit_anew-loop-f l =
    Going l.initial.out l.at (each_of Groups (λ p. bytes_field l.n (canon Groups l.kind p)) l.n l.input) l.out l.end
    (each_along (λ p. bytes_field l.n (canon Groups l.kind p)) l.n l.input (walk_at Groups l.input l.i))

abbrev pub decreases-emit_anew-loop-f : goal.decreases-emit_anew-loop-f
decreases-emit_anew-loop-f l = length l.input - l.i

abbrev pub invariant-emit_message-loop-n : goal.invariant-emit_message-loop-n
invariant-emit_message-loop-n l =
    Going l.initial.out l.at (canon Groups l.kind l.part) l.out l.end (rows_from (part_with Groups (canon Groups) l.kind l.part) l.kind l.n)
