-- `mcache::put_shorts` meets its contract.
use Rattle.std.proofs.Common.{◌≡◌, ◌+◌, take, drop}
use lib.Seq.{sets}
use Rattle.mcache.proofs.put_shorts.Given as goal

abbrev pub invariant-loop-i : goal.invariant-loop-i
invariant-loop-i l = sets l.out (l.at + l.i) (drop l.i (take l.n l.values)) ≡ sets l.initial.out l.at (take l.n l.values)
