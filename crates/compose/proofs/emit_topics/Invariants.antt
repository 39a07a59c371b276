-- `compose::emit_topics` meets its contract: what is left of the topics, written where those before end, makes all of them; it ends at a message or with the rows.
use Rattle.protobuf.specs.Encode.{bytes_field}
use Rattle.rpc.specs.Encode.{repeated}
use Rattle.compose.specs.Said.{topics_from}
use Rattle.compose.specs.Lent.{rows_from}
use Rattle.compose.specs.Puts.{Going}
use Rattle.compose.proofs.emit_topics.Given as goal

abbrev pub invariant-loop-i : goal.invariant-loop-i
invariant-loop-i l =
    Going l.initial.out l.at (repeated (bytes_field 4) (topics_from l.bytes (rows_from l.records l.from))) l.out l.end (repeated (bytes_field 4) (topics_from l.bytes (rows_from l.records l.i)))
