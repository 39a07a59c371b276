-- `inspect::lists::word_if` meets its contract: the bit says whether it is read.
use Rattle.inspect.proofs.Rows.{word_unset, word_set}
use Rattle.inspect.proofs.lists.word_if.Goals as goal

pub returns-then-bit-eq0 : goal.returns-then-bit-eq0
returns-then-bit-eq0 c = word_unset _ _ _ c.if-bit-eq0.true

pub returns : goal.returns
returns c = word_set _ _ _ _ c.if-bit-eq0.false c.little_at.ensures
