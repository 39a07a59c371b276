-- `encode::emit_slot` meets its contract.
use mathlib.Core.Path.{sym, ap, subst}
use Rattle.schema.specs.SlotsLaws.{PlaceInside}
use Rattle.canon.specs.Canon.{placed}
use Rattle.canon.specs.CanonLaws.{slot_inside}
use Rattle.encode.specs.Puts.{puts_same, fits-same}
use Rattle.encode.proofs.emit_slot.Goals as goal

pub emit_place-requires : goal.emit_place-requires
emit_place-requires c =
    let pre = c.requires in
    let a = c.args in
    let e = sym c.slot_in.ensures in (
      pre.0,
      subst (PlaceInside a.input.now) e (slot_inside a.input.now a.slots a.slot pre.1),
      fits-same a.at _ _
          (ap (placed a.n a.input.now) e) pre.2,
    )

pub returns : goal.returns
returns c =
    let a = c.args in
    puts_same a.out.now a.at _ _ _ _ (ap (placed a.n a.input.now) c.slot_in.ensures)
    c.emit_place.ensures
