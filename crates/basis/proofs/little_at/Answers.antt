-- `basis::little_at` meets its contract: as many bytes are read as are there, up to eight.
use Prim.Native.Nat.{min}
use mathlib.Core.Path.{◌∙◌}
use native.Mathlib.Omega.{arith}
use Rattle.basis.proofs.Little.{past, there}
use Rattle.basis.proofs.little_at.Goals as goal

pub returns-then-s-at : goal.returns-then-s-at
returns-then-s-at c = past _ c.args.at (min c.args.n 8) c.if-s-at.true

pub returns : goal.returns
returns c =
    let a = c.args in c.read_little.ensures ∙ there _ a.at (min a.n 8) c.min-m.result c.if-s-at.false (omega arith)
