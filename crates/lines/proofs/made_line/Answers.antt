-- `lines::made_line` meets its contract: the tests say which line it is.
use native.Mathlib.Omega.{arith}
use borrow.Author.Tests.{eq-eqb, ne_eqb}
use Rattle.lines.specs.Laws.{wrote_short, wrote_yes, wrote_no, wrote_more}
use Rattle.lines.specs.Lines.{made_line}
use Rattle.lines.proofs.made_line.Goals as goal

pub returns-then-out-lt131350 : goal.returns-then-out-lt131350
unfolding made_line
returns-then-out-lt131350 c = wrote_short 131350 0 _ _ c.if-out-lt131350.true

pub returns-then-t-eq0 : goal.returns-then-t-eq0
unfolding made_line
returns-then-t-eq0 c = wrote_yes _ _ (eq-eqb _ _ c.if-t-eq0.true) c.bytes_line.ensures

pub returns : goal.returns
unfolding made_line
returns c =
    wrote_no _ _ (ne_eqb _ _ c.if-t-eq0.false) (wrote_more (omega arith) (omega arith) c.refusal_line.ensures)
