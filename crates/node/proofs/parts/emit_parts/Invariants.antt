-- `emit_parts` meets its contract. The loop's invariant: what is left of the parts, written at the end of what was written, makes all of it.
use lib.ListN.{drop}
use Rattle.protobuf.specs.Encode.{bytes_field}
use Rattle.rpc.specs.Encode.{repeated}
use Rattle.encode.specs.Puts.{Going}
use Rattle.node.specs.Parts.{parts_in}
use Rattle.node.proofs.parts.emit_parts.Given as goal

abbrev pub invariant-loop-i : goal.invariant-loop-i
invariant-loop-i l =
    Going l.initial.out l.at (repeated (bytes_field l.field) (parts_in l.s l.table l.n)) l.out l.end (repeated (bytes_field l.field) (drop l.i (parts_in l.s l.table l.n)))
