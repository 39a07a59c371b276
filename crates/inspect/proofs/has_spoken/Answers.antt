-- `inspect::has_spoken` meets its contract: there is an answer to the number of a dialect, a place and a body.
use Rattle.inspect.proofs.Answering.{spoken-none, spoken-there}
use Rattle.inspect.proofs.has_spoken.Goals as goal

pub returns-then-content-lt9 : goal.returns-then-content-lt9
returns-then-content-lt9 c = spoken-none _ c.if-content-lt9.true

pub returns : goal.returns
returns c = spoken-there _ _ c.little_at-number.ensures c.if-content-lt9.false
