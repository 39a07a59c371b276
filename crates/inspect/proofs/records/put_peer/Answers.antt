-- `inspect::records::put_peer` meets its contract: its pieces, one after the other.
use mathlib.Core.Path.{refl}
use native.Mathlib.Omega.{arith}
use Rattle.text.specs.Laws.{puts_then, puts_as}
use Rattle.inspect.specs.Records.{peer_text}
use Rattle.inspect.proofs.records.put_peer.Goals as goal

pub returns : goal.returns
unfolding peer_text
returns c = puts_as refl (omega arith) (puts_then c.put_first-i.ensures c.put_place.ensures)
