-- `compose::emit_graft` meets its contract: its topic.
use native.Mathlib.Omega.{arith}
use Rattle.compose.specs.Puts.{puts_same}
use Rattle.compose.proofs.Parts.{graft-inside, graft-is}
use Rattle.compose.proofs.emit_graft.Goals as goal

pub emit_place-requires : goal.emit_place-requires
emit_place-requires c = (omega arith, graft-inside _ _ _ c.requires)

pub returns : goal.returns
returns c =
    let a = c.args in
    puts_same a.out.now a.at _ _ _ _ (graft-is a.bytes.now a.r) c.emit_place.ensures
