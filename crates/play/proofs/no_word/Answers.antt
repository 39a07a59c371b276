-- `play::no_word` meets its contract: only an admit has a word.
use Rattle.play.proofs.Ending.{word, no-admit}
use Rattle.play.proofs.no_word.Goals as goal

pub returns-then-kind-eq2 : goal.returns-then-kind-eq2
returns-then-kind-eq2 c = word _ _ _ c.if-kind-eq2.true c.little_at-word.ensures

pub returns : goal.returns
returns c = no-admit _ _ c.if-kind-eq2.false
