-- `inspect::records::put_sub` meets its contract: its pieces, one after the other.
use mathlib.Core.Path.{refl}
use native.Mathlib.Omega.{arith}
use Rattle.text.specs.Laws.{puts_then, puts_as}
use Rattle.inspect.specs.Records.{sub_text}
use Rattle.lines.specs.Laws.{wrote_puts}
use Rattle.inspect.proofs.records.put_sub.Goals as goal

pub returns : goal.returns
unfolding sub_text
returns c =
    puts_as refl (omega arith) (puts_then (wrote_puts (omega arith) c.put_word-i.ensures) (puts_then c.put_flag-j.ensures c.put_place.ensures))
