-- `compose::emit_peers` meets its contract: what is left of the peers, written where those before end, makes all of them; it ends at a prune or with the rows.
use Rattle.protobuf.specs.Encode.{bytes_field}
use Rattle.rpc.specs.Encode.{repeated, encode_peer_info}
use Rattle.compose.specs.Said.{peers_from}
use Rattle.compose.specs.Lent.{rows_from}
use Rattle.compose.specs.Puts.{Going}
use Rattle.compose.proofs.emit_peers.Given as goal

abbrev pub invariant-loop-i : goal.invariant-loop-i
invariant-loop-i l =
    Going l.initial.out l.at (repeated (λ p. bytes_field 2 (encode_peer_info p)) (peers_from l.bytes (rows_from l.records l.from))) l.out l.end (repeated (λ p. bytes_field 2 (encode_peer_info p)) (peers_from l.bytes (rows_from l.records l.i)))
