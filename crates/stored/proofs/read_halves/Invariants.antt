-- `stored::read_halves` meets its contract. The invariant: the first i numbers are there.
use mathlib.Core.Path.{◌≡◌}
use lib.ListN.{take, drop}
use Rattle.stored.specs.Layout.{gathered}
use Rattle.stored.proofs.read_halves.Given as goal

abbrev pub invariant-loop-i : goal.invariant-loop-i
invariant-loop-i l = take l.i l.out ≡ gathered 2 l.i (drop l.at l.s)
