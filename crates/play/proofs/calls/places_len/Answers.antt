-- `play::calls::places_len` meets its contract.
use Rattle.play.proofs.Ending.{rows-lent, none_lent}
use Rattle.play.proofs.calls.places_len.Goals as goal

pub returns-then-max_messages-le64 : goal.returns-then-max_messages-le64
returns-then-max_messages-le64 c = rows-lent 64 4096 _ c.if-max_messages-le64.true

pub returns : goal.returns
returns c = none_lent 64 4096 _ c.if-max_messages-le64.false
