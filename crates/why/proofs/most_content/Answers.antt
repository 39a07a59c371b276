-- `why::most_content` meets its contract: the kind picks the length.
use borrow.Author.Tests.{eq-eqb, ne_eqb}
use Rattle.why.proofs.most_content.Goals as goal

pub returns-then-kind-eq13 : goal.returns-then-kind-eq13
returns-then-kind-eq13 c = rw (eq-eqb _ _ c.if-kind-eq13.true)

pub returns-else-kind-eq13 : goal.returns-else-kind-eq13
returns-else-kind-eq13 c = rw (ne_eqb _ _ c.if-kind-eq13.false)
