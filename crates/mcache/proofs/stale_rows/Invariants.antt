use Rattle.std.proofs.Common.{◌≡◌, ◌+◌, drop}
use Rattle.rows.specs.Store.{in_use}
use Rattle.mcache.specs.State.{stale}
use Rattle.mcache.proofs.stale_rows.Given as goal

abbrev pub invariant-loop-i : goal.invariant-loop-i
invariant-loop-i l =
    l.i + stale l.history_len (drop l.i (in_use l.ring l.window)) ≡ stale l.history_len (in_use l.ring l.window)
