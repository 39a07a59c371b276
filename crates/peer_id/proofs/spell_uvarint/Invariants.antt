-- `peer_id::spell_uvarint` meets its contract: what is left to write at i makes what all of the value at `at` makes.
use Prim.Native.Nat.{◌+◌}
use mathlib.Core.Path.{◌≡◌}
use lib.ListN.{length}
use lib.Seq.{sets}
use Rattle.peer_id.specs.Uvarint.{uvarint}
use Rattle.peer_id.proofs.spell_uvarint.Given as goal

abbrev pub invariant-loop-v : goal.invariant-loop-v
invariant-loop-v l =
    (l.i + length (uvarint l.v) ≡ l.at + length (uvarint l.value)) × (length l.out ≡ length l.initial.out) × (sets l.out l.i (uvarint l.v) ≡ sets l.initial.out l.at (uvarint l.value))

abbrev pub decreases-loop-v : goal.decreases-loop-v
decreases-loop-v l = l.v
