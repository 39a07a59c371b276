-- `compose::emit_head` meets its contract: two varints, one after the other.
use Rattle.compose.specs.Puts.{puts_same, puts_append}
use Rattle.compose.proofs.Parts.{head-is}
use Rattle.compose.proofs.emit_head.Goals as goal

pub returns : goal.returns
returns c =
    let a = c.args in
    puts_same a.out.now a.at _ _ _ _ (head-is a.n a.len)
    (puts_append a.out.now _ _ a.at _ _ _ _ c.emit_varint-i.ensures c.emit_varint.ensures)
