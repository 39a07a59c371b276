-- `inspect::records::put_first` meets its contract: the word, and then the field.
use Rattle.text.specs.Laws.{puts_then}
use Rattle.lines.specs.Laws.{wrote_puts}
use native.Mathlib.Omega.{arith}
use Rattle.inspect.proofs.records.put_first.Goals as goal

pub returns : goal.returns
returns c = puts_then (wrote_puts (omega arith) c.put_word-i.ensures) c.put_place.ensures
