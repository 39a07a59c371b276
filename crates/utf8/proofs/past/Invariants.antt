-- `utf8::past` meets its contract: a block of ASCII bytes can be left out.
use Prim.Native.Nat.{◌-◌, ◌≤◌}
use mathlib.Core.Path.{◌≡◌}
use lib.ListN.{length, drop}
use Rattle.utf8.specs.Utf8.{is_utf8}
use Rattle.utf8.proofs.past.Given as goal

abbrev pub invariant-loop-i : goal.invariant-loop-i
invariant-loop-i l = record {
  lower_bound : l.at ≤ l.i;
  upper_bound : l.i ≤ length l.s;
  s_value : is_utf8 (drop l.at l.s) ≡ is_utf8 (drop l.i l.s);
}

abbrev pub decreases-loop-i : goal.decreases-loop-i
decreases-loop-i l = length l.s - l.i
