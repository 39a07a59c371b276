use Rattle.std.proofs.Common.{◌≡◌, drop}
use Rattle.rows.specs.Store.{in_use}
use Rattle.mcache.specs.State.{falls_from}
use Rattle.mcache.proofs.windows_fall.Given as goal

abbrev pub invariant-loop-i : goal.invariant-loop-i
invariant-loop-i l =
    falls_from l.last (drop l.i (in_use l.ring l.window)) ≡ falls_from l.most (in_use l.ring l.window)
