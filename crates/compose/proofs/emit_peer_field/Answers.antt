-- `compose::emit_peer_field` meets its contract: measured, a head, and then the peer where there is room.
use Rattle.rpc.specs.Encode.{encode_peer_info}
use Rattle.compose.specs.Said.{peer_of}
use Rattle.compose.proofs.Parts.{field_puts, field-short}
use Rattle.compose.proofs.emit_peer_field.Goals as goal

pub returns-then-out-end : goal.returns-then-out-end
returns-then-out-end c =
    let a = c.args in
    field-short _ _ a.out.now _ a.at _ _ _ 2 (encode_peer_info (peer_of a.bytes.now a.r)) c.emit_peer-len.ensures c.emit_head-i.ensures c.past-end.ensures c.if-out-end.true

pub returns : goal.returns
returns c =
    let a = c.args in
    field_puts _ _ a.out.now _ _ a.at _ _ _ 2 (encode_peer_info (peer_of a.bytes.now a.r)) c.emit_peer-len.ensures c.emit_head-i.ensures c.emit_peer.ensures
