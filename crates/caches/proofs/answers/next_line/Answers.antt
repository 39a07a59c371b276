-- `caches::answers::next_line` meets its contract: the test says which line it is.
use borrow.Author.Tests.{eq-eqb, ne_eqb}
use Rattle.lines.specs.Laws.{wrote_yes, wrote_no}
use Rattle.caches.specs.Lines.{next_line}
use Rattle.caches.proofs.answers.next_line.Goals as goal

pub returns-then-t-eq1 : goal.returns-then-t-eq1
unfolding next_line
returns-then-t-eq1 c = wrote_yes _ _ (eq-eqb _ _ c.if-t-eq1.true) c.number_line.ensures

pub returns : goal.returns
unfolding next_line
returns c = wrote_no _ _ (ne_eqb _ _ c.if-t-eq1.false) c.told_line.ensures
