-- `stored::write_halves` meets its contract. The invariant: to write the numbers that are left is to write them all.
use Prim.Native.Nat.{◌+◌, ◌*◌}
use mathlib.Core.Path.{◌≡◌}
use lib.ListN.{drop}
use lib.Seq.{sets}
use Rattle.stored.specs.Layout.{spread}
use Rattle.stored.proofs.write_halves.Given as goal

abbrev pub invariant-loop-i : goal.invariant-loop-i
invariant-loop-i l =
    sets l.out (l.at + l.i * 2) (spread 2 (drop l.i l.values)) ≡ sets l.initial.out l.at (spread 2 l.values)
