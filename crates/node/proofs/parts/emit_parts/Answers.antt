-- `emit_parts` meets its contract. The loop's invariant: what is left of the parts, written at the end of what was written, makes all of it.
use Prim.Native.Nat.{◌+◌, ◌-◌, ◌*◌}
use mathlib.Core.Path.{refl}
use mathlib.Core.List.{◌++◌}
use lib.ListN.{get_or}
use Rattle.peer_id.specs.Uvarint.{uvarint}
use Rattle.protobuf.specs.Encode.{tag}
use Rattle.encode.specs.Puts.{going-none, going-fits, going-part}
use Rattle.node.specs.Parts.{part_at}
use Rattle.node.proofs.Turns.{write_turn, write_done}
use Rattle.node.proofs.parts.emit_parts.Goals as goal

pub emit_head-end-requires : goal.emit_head-end-requires
emit_head-end-requires c =
    let l = c.loop-i in
    let a = c.args in
    let x = tag a.field 2 ++ uvarint (get_or a.table.now (l.i * 2 + 1) 0 - get_or a.table.now (l.i * 2) 0) in (
      c.requires.field_bound.0,
      going-fits _ _ _ _ _ _ l.invariant x _ (write_turn a.field a.s.now a.table.now a.n l.i c.requires.parts c.loop-i-test.true),
    )

pub emit_bytes-end-requires : goal.emit_bytes-end-requires
emit_bytes-end-requires c =
    let l = c.loop-i in
    let a = c.args in
    let g = going-part _ _ _ _ _ _ l.invariant _ _
    (write_turn a.field a.s.now a.table.now a.n l.i c.requires.parts c.loop-i-test.true) _ _
    c.emit_head-end.ensures in
    going-fits _ _ _ _ _ _ g (part_at a.s.now a.table.now l.i) _ refl

pub loop-i-preserved : goal.loop-i-preserved
loop-i-preserved c =
    let a = c.args in let l = c.loop-i in
    let g = going-part _ _ _ _ _ _ l.invariant _ _
    (write_turn a.field a.s.now a.table.now a.n l.i c.requires.parts c.loop-i-test.true) _ _
    c.emit_head-end.ensures in
    going-part _ _ _ _ _ _ g (part_at a.s.now a.table.now l.i) _ refl _ _ c.emit_bytes-end.ensures

pub returns : goal.returns
returns c =
    let a = c.args in let l = c.loop-i in going-none _ _ _ _ _ _ l.invariant (write_done a.field a.s.now a.table.now a.n l.i c.loop-i-test.false)
