-- `caches::answers::clean_line` meets its contract: the test says which line it is.
use borrow.Author.Tests.{eq-eqb, ne_eqb}
use Rattle.lines.specs.Laws.{wrote_yes, wrote_no}
use Rattle.caches.specs.Lines.{clean_line}
use Rattle.caches.proofs.answers.clean_line.Goals as goal

pub returns-then-t-eq0 : goal.returns-then-t-eq0
unfolding clean_line
returns-then-t-eq0 c = wrote_yes _ _ (eq-eqb _ _ c.if-t-eq0.true) c.number_line.ensures

pub returns : goal.returns
unfolding clean_line
returns c = wrote_no _ _ (ne_eqb _ _ c.if-t-eq0.false) c.refusal_line.ensures
