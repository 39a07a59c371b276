-- `text::spell_hex` meets its contract: the digits of what is left, put at i, make what all of them at `at` make.
use Prim.Native.Nat.{◌+◌, ◌*◌}
use mathlib.Core.Path.{◌≡◌}
use lib.ListN.{drop}
use lib.Seq.{sets}
use Rattle.text.specs.Line.{hex}
use Rattle.text.proofs.spell_hex.Given as goal

abbrev pub invariant-loop-b : goal.invariant-loop-b
invariant-loop-b l =
    (l.i ≡ l.at + 2 * l.b-index) × (sets l.out l.i (hex (drop l.b-index l.s)) ≡ sets l.initial.out l.at (hex l.s))
