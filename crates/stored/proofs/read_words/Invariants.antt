-- `stored::read_words` meets its contract. The invariant: the first i numbers are there.
use mathlib.Core.Path.{◌≡◌}
use lib.ListN.{take, drop}
use Rattle.stored.specs.Layout.{gathered}
use Rattle.stored.proofs.read_words.Given as goal

abbrev pub invariant-loop-i : goal.invariant-loop-i
invariant-loop-i l = take l.i l.out ≡ gathered 8 l.i (drop l.at l.s)
