-- `node::parts::emit_bytes` meets its contract: `put_bytes` puts the bytes where they fit.
use mathlib.Core.Path.{refl}
use Rattle.encode.specs.Puts.{puts_set}
use Rattle.node.proofs.parts.emit_bytes.Goals as goal

pub returns : goal.returns
returns c = let a = c.args in puts_set a.out.now a.at a.part.now _ _ refl c.put_bytes.ensures.lent
