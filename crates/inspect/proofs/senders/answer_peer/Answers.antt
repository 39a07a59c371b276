-- `inspect::senders::answer_peer` meets its contract: the peer id is read and put.
use native.Mathlib.Omega.{arith}
use Rattle.text.specs.Laws.{puts_then, puts_as}
use Rattle.lines.specs.Laws.{wrote_puts}
use Rattle.inspect.proofs.Answering.{peer_answer_lem}
use Rattle.inspect.proofs.senders.answer_peer.Goals as goal

pub returns : goal.returns
returns c =
    puts_as (peer_answer_lem _ _ c.from_bytes-peer.ensures) (omega arith)
    (puts_then (wrote_puts (omega arith) c.put_word-i.ensures) c.put_peer_id.ensures)
