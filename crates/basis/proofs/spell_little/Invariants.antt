-- `basis::spell_little` meets its contract: to write the bytes of v that are left is to write those of the value.
use Prim.Native.Nat.{◌+◌, ◌-◌}
use mathlib.Core.Path.{◌≡◌}
use lib.Seq.{sets}
use Rattle.basis.specs.Little.{bytes_of}
use Rattle.basis.proofs.spell_little.Given as goal

abbrev pub invariant-loop-i : goal.invariant-loop-i
invariant-loop-i l =
    sets l.out (l.at + l.i) (bytes_of (l.n - l.i) l.v) ≡ sets l.initial.out l.at (bytes_of l.n l.value)
