-- `play::is_bad` meets its contract: the tests, one after the other.
use mathlib.Core.Path.{sym, ◌∙◌}
use Rattle.play.proofs.Ending.{not-one, sets_up, calls, early}
use Rattle.play.proofs.is_bad.Goals as goal

pub returns-then-misfit : goal.returns-then-misfit
returns-then-misfit c = not-one _ _ _ (sym c.misfit.ensures ∙ c.if-misfit.true)

pub returns-then-kind-eq1 : goal.returns-then-kind-eq1
returns-then-kind-eq1 c = sets_up _ _ _ (sym c.misfit.ensures ∙ c.if-misfit.false) c.if-kind-eq1.true

pub returns-then-started : goal.returns-then-started
returns-then-started c =
    calls _ _ _ _ (sym c.misfit.ensures ∙ c.if-misfit.false) c.if-kind-eq1.false c.if-started.true c.no_word.ensures

pub returns : goal.returns
returns c = early _ _ _ (sym c.misfit.ensures ∙ c.if-misfit.false) c.if-kind-eq1.false c.if-started.false
