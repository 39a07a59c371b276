use mathlib.Core.Path.{◌≡◌}
use lib.ListN.{drop}
use Rattle.rows.specs.Store.{all_up_to, in_use}
use Rattle.rows.proofs.all_within.Given as goal

abbrev pub invariant-loop-i : goal.invariant-loop-i
invariant-loop-i l = all_up_to l.most (drop l.i (in_use l.ring l.lens)) ≡ all_up_to l.most (in_use l.ring l.lens)
