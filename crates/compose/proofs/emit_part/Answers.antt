-- `compose::emit_part` meets its contract: a head with their number, and the bytes.
use Rattle.std.specs.Prelude.{length}
use Rattle.std.proofs.Common.{sym, arith}
use Rattle.compose.specs.Puts.{puts_field, capped_small}
use Rattle.compose.proofs.emit_part.Goals as goal

pub returns : goal.returns
returns c =
    let a = c.args in
    puts_field a.out.now _ _ a.at _ _ _ a.n a.part.now (sym (capped_small (length a.part.now) (omega arith))) c.emit_head-i.ensures c.emit_bytes.ensures
