-- `inspect::lists::put_three` meets its contract: three stores, one after the other, are one run of three words.
use mathlib.Core.Path.{refl}
use native.Mathlib.Omega.{arith}
use native.Mathlib.Numerals.{add-one, add-two}
use lib.ListN.{length-set}
use Rattle.inspect.proofs.lists.put_three.Goals as goal

pub bounds-table-i-2 : goal.bounds-table-i-2
bounds-table-i-2 c = simp length-set (omega arith)

pub bounds-table-i-3 : goal.bounds-table-i-3
bounds-table-i-3 c = simp length-set (omega arith)

pub returns : goal.returns
returns c =
    record {
      value = refl;
      table_after = rw (add-one c.args.i, add-two c.args.i);
    }
