-- `stored::column_at` meets its contract.
use Prim.Native.Nat.{◌+◌}
use native.Mathlib.Omega.{arith}
use Rattle.stored.proofs.Parts.{part_copied}
use borrow.Author.Rules.{rules}
use Rattle.stored.proofs.column_at.Goals as goal

pub returns : goal.returns
returns c =
    let at = c.args.at in
    part_copied c.args.s.now _ _ at (at + 64) (omega arith) (search rules) (omega arith) c.put_bytes.ensures.lent
