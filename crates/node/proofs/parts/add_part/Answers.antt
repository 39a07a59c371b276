-- `add_part` meets its contract.
use Prim.Native.Nat.{ℕ, ◌*◌}
use mathlib.Core.Path.{refl, ap}
use native.Mathlib.Omega.{arith}
use native.Mathlib.Numerals.{add-one}
use lib.ListN.{set, length-set}
use Rattle.node.proofs.parts.add_part.Goals as goal

pub bounds-table-n-2 : goal.bounds-table-n-2
bounds-table-n-2 c = let a = c.args in let l = length-set a.table.now (a.n * 2) a.start in omega arith

pub returns : goal.returns
returns c =
    let a = c.args in record {
      value = refl;
      table_after = ap (λ (k : ℕ). set (set a.table.now (a.n * 2) a.start) k a.end) (add-one (a.n * 2));
    }
