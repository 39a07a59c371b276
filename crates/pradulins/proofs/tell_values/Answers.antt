-- `pradulins::tell_values` meets its contract: the values that the count names are stored, one after the other.
use Rattle.pradulins.proofs.Told.{one-stored, two-stored, three-stored, all-stored}
use Rattle.pradulins.proofs.tell_values.Goals as goal

pub returns-then-t-eq1 : goal.returns-then-t-eq1
returns-then-t-eq1 c = one-stored _ _ _ _ _ _ c.if-t-eq1.true

pub returns-then-t-eq2 : goal.returns-then-t-eq2
returns-then-t-eq2 c = two-stored _ _ _ _ _ _ c.if-t-eq2.true

pub returns-then-t-eq3 : goal.returns-then-t-eq3
returns-then-t-eq3 c = three-stored _ _ _ _ _ _ c.if-t-eq3.true

pub returns : goal.returns
returns c = all-stored _ _ _ _ _ _ c.if-t-eq0.false c.if-t-eq1.false c.if-t-eq2.false c.if-t-eq3.false
