-- `text::spell_numbers` meets its contract: one number after the other, as many as are counted.
use Prim.Native.Nat.{◌≤◌}
use native.Mathlib.Omega.{arith}
use Rattle.text.specs.Laws.{puts_none, puts_then, puts_as}
use Rattle.text.proofs.Numbers.{none, one, two, three}
use Rattle.text.proofs.spell_numbers.Goals as goal

pub returns-then-count-eq0 : goal.returns-then-count-eq0
returns-then-count-eq0 c = puts_as (none _ _ _ _ c.if-count-eq0.true) (omega arith) (puts_none _ _)

pub returns-then-count-eq1 : goal.returns-then-count-eq1
returns-then-count-eq1 c = puts_as (one _ _ _ _ c.if-count-eq1.true) (omega arith) c.spell_number-i.ensures

pub returns-then-count-eq2 : goal.returns-then-count-eq2
returns-then-count-eq2 c =
    puts_as (two _ _ _ _ c.if-count-eq2.true) (omega arith) (puts_then c.spell_number-i.ensures c.spell_number-j.ensures)

pub returns : goal.returns
returns c =
    let a = c.args in
    let h : 3 ≤ a.count = omega arith in
    puts_as (three _ a.first a.second a.third h) (omega arith)
    (puts_then (puts_then c.spell_number-i.ensures
    c.spell_number-j.ensures) c.spell_number.ensures)
