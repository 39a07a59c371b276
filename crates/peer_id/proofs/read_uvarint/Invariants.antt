-- `peer_id::read_uvarint` meets its contract: the value so far, and what the bytes from k on give above it, make what all of them give.
use Prim.Native.Nat.{◌-◌, ◌^◌, ◌≤◌, ◌<◌}
use mathlib.Core.Path.{◌≡◌}
use lib.ListN.{length, drop}
use Rattle.peer_id.specs.Uvarint.{read_from, read_uvarint}
use Rattle.peer_id.proofs.Shift.{shift}
use Rattle.peer_id.proofs.read_uvarint.Given as goal

abbrev pub invariant-loop-k : goal.invariant-loop-k
invariant-loop-k l =
    (l.k ≤ 9) × (l.weight ≡ 128 ^ l.k) × (l.value < l.weight) × (read_uvarint l.input ≡ shift l.value l.weight l.k (read_from l.k (drop l.k l.input)))

abbrev pub decreases-loop-k : goal.decreases-loop-k
decreases-loop-k l = length l.input - l.k
