-- `play::calls::rows_len` meets its contract.
use Rattle.play.proofs.Ending.{rows-lent, none_lent}
use Rattle.play.proofs.calls.rows_len.Goals as goal

pub returns-then-max_seen-le256 : goal.returns-then-max_seen-le256
returns-then-max_seen-le256 c = rows-lent 256 129 _ c.if-max_seen-le256.true

pub returns : goal.returns
returns c = none_lent 256 129 _ c.if-max_seen-le256.false
