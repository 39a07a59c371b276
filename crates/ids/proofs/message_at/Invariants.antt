-- `ids::message_at` meets its contract: what the fields from here on give, with n messages passed, is what all of them give.
use Prim.Native.Nat.{◌-◌, ◌≤◌}
use mathlib.Core.Path.{◌≡◌}
use lib.ListN.{length}
use Rattle.protobuf.specs.Walk.{walk_at}
use Rattle.ids.specs.Ids.{message_along, message_at}
use Rattle.ids.proofs.message_at.Given as goal

abbrev pub invariant-loop-f : goal.invariant-loop-f
invariant-loop-f l =
    (l.at ≤ length l.body) × (l.n ≤ l.at) × (message_at l.mode l.body l.index ≡ message_along l.index l.n (walk_at l.mode l.body l.at))

abbrev pub decreases-loop-f : goal.decreases-loop-f
decreases-loop-f l = length l.body - l.at
