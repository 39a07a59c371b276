-- `lines::told_line` meets its contract: the test says which line it is.
use borrow.Author.Tests.{eq-eqb, ne_eqb}
use Rattle.lines.specs.Laws.{wrote_yes, wrote_no}
use Rattle.lines.specs.Lines.{told_line}
use Rattle.lines.proofs.told_line.Goals as goal

pub returns-then-t-eq0 : goal.returns-then-t-eq0
unfolding told_line
returns-then-t-eq0 c = wrote_yes _ _ (eq-eqb _ _ c.if-t-eq0.true) c.words_line.ensures

pub returns : goal.returns
unfolding told_line
returns c = wrote_no _ _ (ne_eqb _ _ c.if-t-eq0.false) c.refusal_line.ensures
