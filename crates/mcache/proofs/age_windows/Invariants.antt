use Rattle.std.proofs.Common.{◌≡◌, ◌++◌, map, take, drop}
use Rattle.mcache.specs.State.{older}
use Rattle.mcache.proofs.age_windows.Given as goal

abbrev pub invariant-loop-age : goal.invariant-loop-age
invariant-loop-age l = l.window ≡ map older (take l.age-index l.initial.window) ++ drop l.age-index l.initial.window
