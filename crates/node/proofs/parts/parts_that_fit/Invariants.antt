-- `parts_that_fit` meets its contract. The loop's invariant: those that fit are the parts passed and those that fit of the rest.
use Prim.Native.Nat.{◌+◌}
use mathlib.Core.Path.{◌≡◌}
use lib.ListN.{drop}
use Rattle.node.specs.Parts.{parts_in, fitting}
use Rattle.node.proofs.parts.parts_that_fit.Given as goal

abbrev pub invariant-loop-i : goal.invariant-loop-i
invariant-loop-i l =
    fitting l.field l.room (parts_in l.s l.table l.n) ≡ l.i + fitting l.field l.left (drop l.i (parts_in l.s l.table l.n))
