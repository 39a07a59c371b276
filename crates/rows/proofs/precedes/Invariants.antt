use mathlib.Core.Path.{◌≡◌}
use lib.ListN.{drop}
use Rattle.rows.specs.Ids.{precedes_bytes}
use Rattle.rows.proofs.precedes.Given as goal

abbrev pub invariant-loop-i : goal.invariant-loop-i
invariant-loop-i l = precedes_bytes (drop l.i l.a) (drop l.i l.b) ≡ precedes_bytes l.a l.b
