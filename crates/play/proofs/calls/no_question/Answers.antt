-- `play::calls::no_question` meets its contract: the numbers are cut, or the id is.
use Rattle.play.proofs.Ending.{numbers-cut, id-cut}
use Rattle.play.proofs.calls.no_question.Goals as goal

pub returns-then-content-lt4 : goal.returns-then-content-lt4
returns-then-content-lt4 c = numbers-cut _ c.if-content-lt4.true

pub returns : goal.returns
returns c = id-cut _ _ c.if-content-lt4.false c.little_at-id_len.ensures
