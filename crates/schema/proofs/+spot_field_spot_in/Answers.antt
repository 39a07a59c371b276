-- The cycle {spot_field, spot_in} meets its contracts.
use Prim.Native.Nat.{◌-◌}
use Rattle.std.specs.Prelude.{Ok}
use Rattle.std.proofs.Common.{sym, ap, subst, ◌∙◌, arith, rules, length, drop, length-take}
use Rattle.basis.specs.Spot.{inside, Within}
use Rattle.protobuf.specs.Laws.{field-stands}
use Rattle.protobuf.specs.Walk.{between}
use Rattle.schema.specs.Spots.{field_spot}
use Rattle.schema.specs.SchemaLaws.{sub-rank}
use Rattle.schema.specs.SpotsLaws.{spot_along_lem, spot-within, within_reaches}
use Rattle.schema.proofs.Turns.{spot-end, spot-refused, spot-found, spot-turn}
use Rattle.schema.proofs.+spot_field_spot_in.Goals as goal

pub spot_field-spot_in-spot-requires : goal.spot_field-spot_in-spot-requires
spot_field-spot_in-spot-requires t c =
    let r = sub-rank c.args.kind _ _ _ _ (sym c.role_of.ensures ∙ c.in-Sub.is) in
    (omega (arith, c.decreases), tt)

pub spot_field-enclose-requires : goal.spot_field-enclose-requires
spot_field-enclose-requires t c =
    let a = c.args in
    let s = a.input.now in
    let p = between s a.f.start a.f.next in
    let w = spot-within a.mode _ p in
    within_reaches (length p) a.f.start c.spot_in-spot.result (subst (Within (length p)) (sym c.spot_in-spot.ensures) w)
    (omega (arith, length-take (a.f.next - a.f.start) (drop a.f.start s)))

pub spot_field-returns-in-Text : goal.spot_field-returns-in-Text
unfolding field_spot
spot_field-returns-in-Text t c = search rules

pub spot_field-returns-in-Sub : goal.spot_field-returns-in-Sub
unfolding field_spot
spot_field-returns-in-Sub t c =
    simp (sym c.role_of.ensures ∙ c.in-Sub.is) (c.enclose.ensures ∙ ap (inside _ _) c.spot_in-spot.ensures)

pub spot_field-returns-in_default : goal.spot_field-returns-in_default
unfolding field_spot
spot_field-returns-in_default t c = search rules

pub spot_in-loop-why-init : goal.spot_in-loop-why-init
spot_in-loop-why-init t c =
    let a = c.args in
    record { inside = omega arith; rest = spot_along_lem a.mode a.kind a.input.now }

pub spot_in-returns-in-Err : goal.spot_in-returns-in-Err
spot_in-returns-in-Err t c =
    let a = c.args in
    let l = c.loop-why in
    c.spot_of.ensures ∙ sym (l.invariant.rest ∙ spot-refused a.mode a.kind a.input.now l.at _ c.in-Err.ensures)

pub spot_in-returns-in-Ok-None : goal.spot_in-returns-in-Ok-None
spot_in-returns-in-Ok-None t c =
    let a = c.args in
    let l = c.loop-why in
    let e = ap Ok (sym c.in-Ok-None.field-0-is) ∙ c.in-Ok-None.ensures in
    sym (l.invariant.rest ∙ spot-end a.mode a.kind a.input.now l.at e)

pub spot_in-spot_field-spot-requires : goal.spot_in-spot_field-spot-requires
spot_in-spot_field-spot-requires t c =
    let a = c.args in
    let e = ap Ok (sym c.in-Ok-Some.field-0-is) ∙ c.in-Ok-Some.ensures in
    let m = field-stands a.mode a.input.now c.loop-why.at _ e in
    (omega (arith, c.decreases), record { order = m.ends; fits = m.within })

pub spot_in-returns-then-is_some : goal.spot_in-returns-then-is_some
spot_in-returns-then-is_some t c =
    let a = c.args in
    let l = c.loop-why in
    let e = ap Ok (sym c.in-Ok-Some.field-0-is) ∙ c.in-Ok-Some.ensures in
    sym (l.invariant.rest ∙ spot-found a.mode a.kind a.input.now l.at _ _ e c.spot_field-spot.ensures
    (sym c.is_some.ensures ∙ c.if-is_some.true))

pub spot_in-loop-why-smaller : goal.spot_in-loop-why-smaller
spot_in-loop-why-smaller t c =
    let a = c.args in
    let e = ap Ok (sym c.in-Ok-Some.field-0-is) ∙ c.in-Ok-Some.ensures in
    let m = field-stands a.mode a.input.now c.loop-why.at _ e in
    omega arith

pub spot_in-loop-why-preserved : goal.spot_in-loop-why-preserved
spot_in-loop-why-preserved t c =
    let a = c.args in
    let l = c.loop-why in
    let e = ap Ok (sym c.in-Ok-Some.field-0-is) ∙ c.in-Ok-Some.ensures in
    let m = field-stands a.mode a.input.now l.at _ e in
    record {
      inside = m.within;
      rest = l.invariant.rest ∙ spot-turn a.mode a.kind a.input.now l.at _ _ e c.spot_field-spot.ensures
          (sym c.is_some.ensures ∙ c.if-is_some.false);
    }
