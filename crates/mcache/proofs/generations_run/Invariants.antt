use Rattle.std.proofs.Common.{◌≡◌, drop}
use Rattle.rows.specs.Store.{in_use}
use Rattle.mcache.specs.State.{runs_to}
use Rattle.mcache.proofs.generations_run.Given as goal

abbrev pub invariant-loop-i : goal.invariant-loop-i
invariant-loop-i l =
    runs_to l.next (drop l.i (in_use l.ring l.generation)) ≡ runs_to l.next (in_use l.ring l.generation)
