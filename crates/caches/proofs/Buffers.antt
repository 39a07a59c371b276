-- A byte written keeps a buffer's length.
use Prim.Native.Nat.{ℕ, ◌+◌, ◌≤◌, ◌<◌}
use mathlib.Core.List.{List}
use native.Mathlib.Omega.{arith}
use lib.ListN.{length, set, length-set}

pub after-set : (l : List ℕ) (k x : ℕ) → k < length l → k + 1 ≤ length (set l k x)
after-set l k x h = rw (length-set l k x) (omega arith)
