-- `compose::emit_sub_opts` meets its contract: the flag, and then the topic.
use native.Mathlib.Omega.{arith}
use Rattle.compose.specs.Puts.{puts_same, puts_append}
use Rattle.compose.proofs.Parts.{sub_opts_inside, sub_opts_is}
use Rattle.compose.proofs.emit_sub_opts.Goals as goal

pub emit_place-requires : goal.emit_place-requires
emit_place-requires c = (omega arith, sub_opts_inside _ _ _ c.requires)

pub returns : goal.returns
returns c =
    let a = c.args in
    puts_same a.out.now a.at _ _ _ _ (sub_opts_is a.bytes.now a.r _ c.flag.ensures)
    (puts_append a.out.now _ _ a.at _ _ _ _ c.emit_number-i.ensures c.emit_place.ensures)
