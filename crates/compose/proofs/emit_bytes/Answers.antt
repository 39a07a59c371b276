-- `compose::emit_bytes` meets its contract: their number says where they end, and `put_bytes` puts them there where they fit.
use Rattle.compose.specs.Puts.{puts_set}
use Rattle.compose.proofs.emit_bytes.Goals as goal

pub returns : goal.returns
returns c = let a = c.args in puts_set a.out.now a.at a.part.now _ _ c.past.ensures c.put_bytes.ensures.lent
