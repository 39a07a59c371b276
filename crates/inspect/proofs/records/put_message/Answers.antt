-- `inspect::records::put_message` meets its contract: its pieces, one after the other.
use mathlib.Core.Path.{refl}
use native.Mathlib.Omega.{arith}
use Rattle.text.specs.Laws.{puts_then, puts_as}
use Rattle.inspect.specs.Records.{message_text}
use Rattle.inspect.proofs.records.put_message.Goals as goal

pub returns : goal.returns
unfolding message_text
returns c =
    puts_as refl (omega arith)
    (puts_then c.put_whole-i.ensures
    (puts_then c.put_place-j.ensures
    (puts_then c.put_place-k.ensures
    (puts_then c.put_place-l.ensures
    (puts_then c.put_place-m.ensures c.put_place.ensures)))))
