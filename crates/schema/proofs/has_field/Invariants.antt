-- `schema::has_field` meets its contract: what is left of the walk has the answer for all of it.
use Prim.Native.Nat.{◌-◌}
use mathlib.Core.Path.{◌≡◌}
use lib.ListN.{length}
use Rattle.protobuf.specs.Walk.{walk_at}
use Rattle.schema.specs.Slots.{has_along, has_field}
use Rattle.schema.proofs.has_field.Given as goal

abbrev pub invariant-loop-f : goal.invariant-loop-f
invariant-loop-f l = has_along l.n (walk_at l.mode l.input l.at) ≡ has_field l.mode l.n l.input

abbrev pub decreases-loop-f : goal.decreases-loop-f
decreases-loop-f l = length l.input - l.at
