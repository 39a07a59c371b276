-- `inspect::records::put_prune` meets its contract: its pieces, one after the other.
use mathlib.Core.Path.{refl}
use native.Mathlib.Omega.{arith}
use Rattle.text.specs.Laws.{puts_then, puts_as}
use Rattle.inspect.specs.Records.{prune_text}
use Rattle.inspect.proofs.records.put_prune.Goals as goal

pub returns : goal.returns
unfolding prune_text
returns c = puts_as refl (omega arith) (puts_then c.put_first-i.ensures c.put_count.ensures)
