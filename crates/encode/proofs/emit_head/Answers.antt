-- `encode::emit_head` meets its contract: a tag, and a length where the tag ends.
use Prim.Native.Nat.{◌+◌, ◌*◌}
use Rattle.peer_id.specs.Uvarint.{uvarint}
use Rattle.protobuf.specs.Encode.{tag}
use Rattle.encode.specs.Puts.{puts_append, fits-first, fits_next}
use Rattle.encode.proofs.emit_head.Goals as goal

pub emit_varint-i-requires : goal.emit_varint-i-requires
unfolding tag
emit_varint-i-requires c = let a = c.args in fits-first a.at (uvarint (a.n * 8 + 2)) (uvarint a.len) c.requires.1

pub emit_varint-requires : goal.emit_varint-requires
unfolding tag
emit_varint-requires c =
    let a = c.args in
    fits_next a.out.now _ a.at _ (uvarint (a.n * 8 + 2)) (uvarint a.len) c.emit_varint-i.ensures
    c.requires.1

pub returns : goal.returns
unfolding tag
returns c =
    let a = c.args in
    puts_append a.out.now _ _ a.at _ _ (uvarint (a.n * 8 + 2)) (uvarint a.len)
    c.emit_varint-i.ensures c.emit_varint.ensures
