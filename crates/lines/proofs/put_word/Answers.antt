-- `lines::put_word` meets its contract: the word is as long as it is.
use native.Mathlib.Omega.{arith}
use Rattle.lines.specs.Laws.{wrote_in}
use Rattle.lines.proofs.put_word.Goals as goal

pub returns : goal.returns
returns c = wrote_in (omega arith) (c.put_text.ensures.value, c.put_text.ensures.out_after)
