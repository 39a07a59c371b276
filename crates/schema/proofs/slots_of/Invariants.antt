-- `schema::slots_of` meets its contract. The invariant: going on from `at` with the slots so far gives the message's slots; the measure is what is
-- left of the message.
use Prim.Native.Nat.{◌-◌, ◌≤◌}
use mathlib.Core.Path.{◌≡◌}
use lib.ListN.{length}
use Rattle.protobuf.specs.Walk.{walk_at}
use Rattle.schema.specs.Slots.{slots_along, slots_of}
use Rattle.schema.proofs.slots_of.Given as goal

abbrev pub invariant-loop-f : goal.invariant-loop-f
invariant-loop-f l =
    (l.at ≤ length l.input) × (slots_of l.mode l.kind l.input ≡ slots_along l.kind l.slots (walk_at l.mode l.input l.at))

abbrev pub decreases-loop-f : goal.decreases-loop-f
decreases-loop-f l = length l.input - l.at
