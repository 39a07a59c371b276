-- `answers::offer_line` meets its contract: the tests say which line it is.
use borrow.Author.Tests.{eq-eqb, ne_eqb}
use Rattle.lines.specs.Laws.{wrote_yes, wrote_no}
use Rattle.answers.specs.Answers.{offer_line}
use Rattle.answers.proofs.offer_line.Goals as goal

pub returns-then-offer-eq0 : goal.returns-then-offer-eq0
unfolding offer_line
returns-then-offer-eq0 c = wrote_yes _ _ (eq-eqb _ _ c.if-offer-eq0.true) c.words_line.ensures

pub returns-then-offer-eq1 : goal.returns-then-offer-eq1
unfolding offer_line
returns-then-offer-eq1 c =
    wrote_no _ _ (ne_eqb _ _ c.if-offer-eq0.false)
    (wrote_yes _ _ (eq-eqb _ _ c.if-offer-eq1.true) c.words_line-then-offer-eq1.ensures)

pub returns-then-offer-eq2 : goal.returns-then-offer-eq2
unfolding offer_line
returns-then-offer-eq2 c =
    wrote_no _ _ (ne_eqb _ _ c.if-offer-eq0.false)
    (wrote_no _ _ (ne_eqb _ _ c.if-offer-eq1.false)
    (wrote_yes _ _ (eq-eqb _ _ c.if-offer-eq2.true) c.words_line-then-offer-eq2.ensures))

pub returns : goal.returns
unfolding offer_line
returns c =
    wrote_no _ _ (ne_eqb _ _ c.if-offer-eq0.false)
    (wrote_no _ _ (ne_eqb _ _ c.if-offer-eq1.false)
    (wrote_no _ _ (ne_eqb _ _ c.if-offer-eq2.false) c.number_line.ensures))
