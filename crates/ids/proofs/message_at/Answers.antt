-- `ids::message_at` meets its contract: what the fields from here on give, with n messages passed, is what all of them give.
use mathlib.Core.Path.{◌≡◌, refl, sym, ap, ◌∙◌}
use native.Mathlib.Omega.{arith}
use Rattle.std.specs.Prelude.{Some, None, Ok}
use Rattle.protobuf.specs.Field.{read_field}
use Rattle.protobuf.specs.Laws.{Stands, field-stands}
use Rattle.ids.specs.Ids.{message_at}
use Rattle.ids.proofs.Turns.{found-end, found-refused, found_here, found-later, found-past}
use Rattle.ids.proofs.message_at.Goals.{In-Ok-Some}
use Rattle.ids.proofs.message_at.Goals as goal

field_read : (c : In-Ok-Some) → Ok (Some c.in-Ok-Some.f) ≡ read_field c.args.mode c.args.body.now c.loop-f.at
field_read c = ap Ok (sym c.in-Ok-Some.field-0-is) ∙ c.in-Ok-Some.ensures

stands : (c : In-Ok-Some) → Stands c.args.body.now c.loop-f.at c.in-Ok-Some.f
stands c = field-stands c.args.mode c.args.body.now c.loop-f.at _ (field_read c)

pub loop-f-init : goal.loop-f-init
unfolding message_at
loop-f-init c = (omega arith, omega arith, refl)

pub returns-then-n-index : goal.returns-then-n-index
returns-then-n-index c =
    sym (c.loop-f.invariant.2 ∙ found_here c.args.mode _ _ _ _ _ (field_read (goal.at.returns-then-n-index c).In-Ok-Some)
    (sym c.is_message.ensures ∙ c.if-is_message.true) c.if-n-index.true)

pub loop-f-smaller-else-n-index : goal.loop-f-smaller-else-n-index
loop-f-smaller-else-n-index c = let m = stands (goal.at.loop-f-smaller-else-n-index c).In-Ok-Some in omega (arith, m.ends, m.within)

pub loop-f-preserved-else-n-index : goal.loop-f-preserved-else-n-index
loop-f-preserved-else-n-index c =
    let p = (goal.at.loop-f-preserved-else-n-index c).In-Ok-Some in
    let m = stands p in (
      m.within,
      omega (arith, m.ends),
      c.loop-f.invariant.2 ∙ found-later c.args.mode _ _ _ _ _ (field_read p)
          (sym c.is_message.ensures ∙ c.if-is_message.true) c.if-n-index.false,
    )

pub loop-f-smaller : goal.loop-f-smaller
loop-f-smaller c = let m = stands (goal.at.loop-f-smaller c).In-Ok-Some in omega (arith, m.ends, m.within)

pub loop-f-preserved : goal.loop-f-preserved
loop-f-preserved c =
    let p = (goal.at.loop-f-preserved c).In-Ok-Some in
    let m = stands p in (
      m.within,
      omega (arith, m.ends),
      c.loop-f.invariant.2 ∙ found-past c.args.mode _ _ _ _ _ (field_read p) (sym c.is_message.ensures ∙ c.if-is_message.false),
    )

pub returns-in_default : goal.returns-in_default
returns-in_default c =
    let e : Ok None ≡ read_field c.args.mode c.args.body.now c.loop-f.at = cc in
    sym (c.loop-f.invariant.2 ∙ found-end c.args.mode _ _ _ _ e)

pub returns-in_default-2 : goal.returns-in_default-2
returns-in_default-2 c =
    sym (c.loop-f.invariant.2 ∙ found-refused c.args.mode _ _ _ _ _ (sym c.in_default.is ∙ c.read_field.ensures))
