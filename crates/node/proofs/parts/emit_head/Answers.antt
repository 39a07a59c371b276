-- `node::parts::emit_head` meets its contract: `put_head` puts a tag and a length where they fit.
use native.Mathlib.Omega.{arith}
use Rattle.encode.specs.Puts.{puts_head}
use Rattle.node.proofs.parts.emit_head.Goals as goal

pub returns : goal.returns
returns c =
    let a = c.args in
    puts_head a.out.now a.n a.len a.at _ _ (omega arith) c.requires.1 c.put_head.ensures.answer c.put_head.ensures.lent
