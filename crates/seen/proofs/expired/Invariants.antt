-- `seen::expired` meets its contract: those that were passed have expired, and as many of the rest as the rest says.
use Prim.Native.Nat.{◌+◌}
use mathlib.Core.Path.{◌≡◌}
use lib.ListN.{drop}
use Rattle.rows.specs.Store.{in_use}
use Rattle.seen.specs.State.{spent}
use Rattle.seen.proofs.expired.Given as goal

abbrev pub invariant-loop-i : goal.invariant-loop-i
invariant-loop-i l = spent l.at (in_use l.ring l.expiry) ≡ l.i + spent l.at (drop l.i (in_use l.ring l.expiry))
