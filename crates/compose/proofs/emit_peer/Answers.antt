-- `compose::emit_peer` meets its contract: its id, and then its record.
use native.Mathlib.Omega.{arith}
use Rattle.compose.specs.Puts.{puts_same, puts_append}
use Rattle.compose.proofs.Parts.{peer-inside, peer-is}
use Rattle.compose.proofs.emit_peer.Goals as goal

pub emit_place-i-requires : goal.emit_place-i-requires
emit_place-i-requires c = (omega arith, (peer-inside _ _ _ c.requires).0)

pub emit_place-requires : goal.emit_place-requires
emit_place-requires c = (omega arith, (peer-inside _ _ _ c.requires).1)

pub returns : goal.returns
returns c =
    let a = c.args in
    puts_same a.out.now a.at _ _ _ _ (peer-is a.bytes.now a.r)
    (puts_append a.out.now _ _ a.at _ _ _ _ c.emit_place-i.ensures c.emit_place.ensures)
