use native.Mathlib.Omega.{arith}
use Rattle.rows.specs.IdsLaws.{order_end}
use Rattle.rows.proofs.precedes.Goals as goal

pub returns : goal.returns
returns c = order_end c.args.a.now c.args.b.now c.loop-i.i c.loop-i.invariant (omega arith)
