-- `lines::put_refused` meets its contract: the refusal is short enough.
use native.Mathlib.Omega.{arith}
use Rattle.text.specs.Laws.{length-refused}
use Rattle.lines.specs.Laws.{wrote_in}
use Rattle.lines.proofs.put_refused.Goals as goal

pub returns : goal.returns
returns c =
    let a = c.args in
    wrote_in (length-refused a.refusal a.count a.first a.second a.third (omega arith) (omega arith) (omega arith) (omega arith)) (c.put_refused.ensures.value, c.put_refused.ensures.out_after)
