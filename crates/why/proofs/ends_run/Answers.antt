-- `why::ends_run` meets its contract: the kind picks the test.
use Rattle.why.proofs.Ending.{no_node, cut, early, as_trace}
use Rattle.why.proofs.ends_run.Goals as goal

pub returns-then-kind-eq13 : goal.returns-then-kind-eq13
returns-then-kind-eq13 c = no_node _ _ _ c.if-kind-eq13.true

pub returns-then-started : goal.returns-then-started
returns-then-started c = cut _ _ _ _ c.if-kind-eq12.true c.if-started.true c.no_question.ensures

pub returns-then-kind-eq12 : goal.returns-then-kind-eq12
returns-then-kind-eq12 c = early _ _ _ c.if-kind-eq12.true c.if-started.false

pub returns : goal.returns
returns c = as_trace _ _ _ _ c.if-kind-eq13.false c.if-kind-eq12.false c.is_bad.ensures
