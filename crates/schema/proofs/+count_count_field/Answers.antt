-- The cycle {count, count_field} meets its contracts.
use Prim.Native.Nat.{◌-◌}
use Rattle.std.specs.Prelude.{Ok}
use Rattle.std.proofs.Common.{sym, ap, ◌∙◌, arith, rules, drop, length-take}
use Rattle.protobuf.specs.Laws.{field-stands}
use Rattle.schema.specs.Count.{field_count}
use Rattle.schema.specs.SchemaLaws.{sub-rank}
use Rattle.schema.specs.CountLaws.{count_along_lem, count_fits, field_fits, own-one}
use Rattle.schema.proofs.Turns.{plus_none, count_turn, count-end, count-refused, field-refused}
use Rattle.schema.proofs.+count_count_field.Goals as goal

pub count-loop-f-init : goal.count-loop-f-init
count-loop-f-init t c = let a = c.args in record {
  inside = omega arith;
  few = omega arith;
  rest = count_along_lem a.mode a.kind a.input.now ∙ plus_none _;
}

pub count-returns-in_err-f : goal.count-returns-in_err-f
count-returns-in_err-f t c =
    let a = c.args in
    let l = c.loop-f in
    let e = l.invariant.rest ∙ count-refused a.mode a.kind a.input.now l.at l.n _ c.in_err-f.ensures in
    search rules

pub count-count_field-requires : goal.count-count_field-requires
count-count_field-requires t c =
    let a = c.args in
    let m = field-stands a.mode a.input.now c.loop-f.at _ (ap Ok (sym c.in-Some.is) ∙ c.in_ok-f.ensures) in
    (omega (arith, c.decreases), record { order = m.ends; fits = m.within })

pub count-returns-in_err-n : goal.count-returns-in_err-n
count-returns-in_err-n t c =
    let a = c.args in
    let l = c.loop-f in
    let f = ap Ok (sym c.in-Some.is) ∙ c.in_ok-f.ensures in
    let e = l.invariant.rest ∙ field-refused a.mode a.kind a.input.now l.at l.n _ _ f (sym c.in_err-n.ensures) in
    search rules

pub count-overflow_add-n : goal.count-overflow_add-n
count-overflow_add-n t c =
    let a = c.args in
    let l = c.loop-f in
    let m = field-stands a.mode a.input.now l.at _ (ap Ok (sym c.in-Some.is) ∙ c.in_ok-f.ensures) in
    let f = field_fits a.mode a.kind a.input.now l.at _ _ m (sym c.in_ok-n.ensures) in
    omega arith

pub count-loop-f-smaller : goal.count-loop-f-smaller
count-loop-f-smaller t c =
    let a = c.args in
    let m = field-stands a.mode a.input.now c.loop-f.at _ (ap Ok (sym c.in-Some.is) ∙ c.in_ok-f.ensures) in
    omega arith

pub count-loop-f-preserved : goal.count-loop-f-preserved
count-loop-f-preserved t c =
    let a = c.args in
    let l = c.loop-f in
    let e = ap Ok (sym c.in-Some.is) ∙ c.in_ok-f.ensures in
    let g = sym c.in_ok-n.ensures in
    let m = field-stands a.mode a.input.now l.at _ e in
    let f = field_fits a.mode a.kind a.input.now l.at _ _ m g in
    record {
      inside = m.within;
      few = omega arith;
      rest = l.invariant.rest ∙ count_turn a.mode a.kind a.input.now l.at l.n _ _ e g;
    }

pub count-returns : goal.count-returns
count-returns t c =
    let a = c.args in
    let l = c.loop-f in
    let e = ap Ok (sym c.in_default.is) ∙ c.in_ok-f.ensures in
    sym (l.invariant.rest ∙ count-end a.mode a.kind a.input.now l.at l.n e)

pub count_field-count-requires : goal.count_field-count-requires
count_field-count-requires t c =
    let r = sub-rank c.args.kind _ _ _ _ (sym c.role_of.ensures ∙ c.in-Sub.is) in
    (omega (arith, c.decreases), tt)

pub count_field-overflow_add-result : goal.count_field-overflow_add-result
count_field-overflow_add-result t c =
    let a = c.args in
    let f = count_fits a.mode _ _ _ (sym c.in_ok-n-in-Sub.ensures) in
    omega (arith, own-one c.in-Sub.k, c.own.ensures, length-take (a.f.next - a.f.start) (drop a.f.start a.input.now))

pub count_field-returns-in-Text : goal.count_field-returns-in-Text
unfolding field_count
count_field-returns-in-Text t c = search rules

pub count_field-returns-in-Topic : goal.count_field-returns-in-Topic
unfolding field_count
count_field-returns-in-Topic t c = search rules

pub count_field-returns-in-MessageId : goal.count_field-returns-in-MessageId
unfolding field_count
count_field-returns-in-MessageId t c = search rules

pub count_field-returns-in_err-n-in-Sub : goal.count_field-returns-in_err-n-in-Sub
unfolding field_count
count_field-returns-in_err-n-in-Sub t c = search rules

pub count_field-returns-in_ok-n-in-Sub : goal.count_field-returns-in_ok-n-in-Sub
unfolding field_count
count_field-returns-in_ok-n-in-Sub t c = search rules

pub count_field-returns-in-Skip : goal.count_field-returns-in-Skip
unfolding field_count
count_field-returns-in-Skip t c = search rules
