-- `schema::slots_of` meets its contract. The invariant: going on from `at` with the slots so far gives the message's
-- slots; the measure is what is left of the message.
use Rattle.std.specs.Prelude.{Ok, None}
use Rattle.std.proofs.Common.{◌≡◌, refl, sym, ap, ◌∙◌, arith}
use Rattle.protobuf.specs.Field.{read_field}
use Rattle.protobuf.specs.Laws.{field-stands}
use Rattle.schema.specs.Slots.{slots_of}
use Rattle.schema.proofs.Turns.{slots_turn, slots_end, slots_refused}
use Rattle.schema.proofs.slots_of.Goals as goal

pub loop-f-init : goal.loop-f-init
unfolding slots_of
loop-f-init c = (omega arith, refl)

pub loop-f-smaller : goal.loop-f-smaller
loop-f-smaller c =
    let a = c.args in
    let e = ap Ok (sym c.in-Ok-Some.field-0-is) ∙ c.in-Ok-Some.ensures in
    let m = field-stands a.mode a.input.now c.loop-f.at _ e in
    omega arith

pub loop-f-preserved : goal.loop-f-preserved
loop-f-preserved c =
    let a = c.args in
    let l = c.loop-f in
    let e = ap Ok (sym c.in-Ok-Some.field-0-is) ∙ c.in-Ok-Some.ensures in
    let m = field-stands a.mode a.input.now l.at _ e in
    (m.within, l.invariant.1 ∙ slots_turn a.mode a.kind a.input.now l.at l.slots _ _ e c.take_field.ensures)

pub returns-in_default : goal.returns-in_default
returns-in_default c =
    let a = c.args in
    let l = c.loop-f in
    let e : Ok None ≡ read_field a.mode a.input.now l.at = cc in
    sym (l.invariant.1 ∙ slots_end a.mode a.kind a.input.now l.at l.slots e)

pub returns-in_default-2 : goal.returns-in_default-2
returns-in_default-2 c =
    let a = c.args in
    let l = c.loop-f in
    let e = sym c.in_default.is ∙ c.read_field.ensures in
    sym (l.invariant.1 ∙ slots_refused a.mode a.kind a.input.now l.at l.slots _ e)
