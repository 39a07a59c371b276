use mathlib.Core.Path.{sym}
use Prim.Native.Nat.{◌-◌}
use Rattle.rows.specs.IdsLaws.{same_length, same_not}
use Rattle.rows.proofs.same.Goals as goal

pub returns-then-a-b : goal.returns-then-a-b
returns-then-a-b c = sym (same_length c.args.a.now c.args.b.now c.if-a-b.true)

pub returns-then-a-i : goal.returns-then-a-i
returns-then-a-i c = same_not c.args.a.now c.args.b.now (c.loop-i.i - 1) c.if-a-i.true
