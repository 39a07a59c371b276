-- `inspect::records::put_whole` meets its contract: the word, and then the bytes.
use Rattle.text.specs.Laws.{puts_then}
use Rattle.lines.specs.Laws.{wrote_puts}
use native.Mathlib.Omega.{arith}
use Rattle.inspect.proofs.records.put_whole.Goals as goal

pub returns : goal.returns
returns c = puts_then (wrote_puts (omega arith) c.put_word-i.ensures) c.put_bytes.ensures
