use Rattle.std.proofs.Common.{sym, ◌∙◌, arith}
use Rattle.mcache.specs.GuardLaws.{lie_rows}
use Rattle.mcache.proofs.can_keep.Goals as goal

pub overflow_mul-ring : goal.overflow_mul-ring
overflow_mul-ring c = let t = lie_rows c.args.ring (sym c.rows_lie.ensures ∙ c.if-rows_lie.true) in omega (arith, t.0)
