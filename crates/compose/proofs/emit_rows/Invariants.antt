-- `compose::emit_rows` meets its contract: what is left of the rows of that kind, written where those before end, makes all of them.
use Rattle.compose.specs.Lent.{rows_from, lent_rows}
use Rattle.compose.specs.Puts.{each_row, Going}
use Rattle.compose.proofs.emit_rows.Given as goal

abbrev pub invariant-loop-i : goal.invariant-loop-i
invariant-loop-i l =
    Going l.initial.out l.at (each_row l.code l.n l.bytes (lent_rows l.records)) l.out l.end (each_row l.code l.n l.bytes (rows_from l.records l.i))
