use Prim.Native.Nat.{◌+◌, ◌≤◌, max}
use mathlib.Core.Path.{◌≡◌}
use lib.ListN.{drop}
use Rattle.rows.specs.Ids.{index_of}
use Rattle.rows.specs.Store.{ids_in}
use Rattle.rows.proofs.Store.find_from.Given as goal

abbrev pub invariant-loop-i : goal.invariant-loop-i
invariant-loop-i l =
    (l.i ≤ max l.from l.ring.count) × (l.i + index_of l.id (drop l.i (ids_in l.self.size l.ring l.self.lens.now l.self.ids.now))
    ≡ l.from + index_of l.id (drop l.from (ids_in l.self.size l.ring l.self.lens.now l.self.ids.now)))
