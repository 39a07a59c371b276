-- The cycle {skip_field, skip_group} meets its contracts: each answer in a group is the step of `skip_group` that the tests picked.
use mathlib.Core.Path.{sym, ap, ◌∙◌}
use native.Mathlib.Omega.{arith}
use Rattle.std.specs.Prelude.{Ok}
use Rattle.std.proofs.lemmas.Result.{err_from_is_err_and}
use Rattle.basis.specs.declared.Mode.TheVariants.{Groups}
use Rattle.protobuf.specs.Laws.{tag_moves, skip_moves}
use Rattle.protobuf.proofs.Skips.{in_group_lem, closes, other_end, goes_on}
use Rattle.protobuf.proofs.+skip_field_skip_group.Goals as goal

pub skip_group-returns-in_err-number : goal.skip_group-returns-in_err-number
skip_group-returns-in_err-number t c =
    let a = c.args in
    let l = c.loop-number in
    let p = err_from_is_err_and c.from_residual.result c.from_residual.ensures.1 in
    rw (p.1, p.2) (in_group_lem a.levels a.input.now l.at a.field _ (c.in_err-number.ensures) ∙ l.invariant.1)

pub skip_group-returns-then-number-field : goal.skip_group-returns-then-number-field
skip_group-returns-then-number-field t c =
    let a = c.args in
    let l = c.loop-number in
    closes a.levels a.input.now l.at a.field _ _ _ (ap Ok (sym c.in-Some.is) ∙ c.in_ok-number.ensures)
    c.if-wire_type-eq-WIRE_END_GROUP.true c.if-number-field.true ∙ l.invariant.1

pub skip_group-returns-else-number-field : goal.skip_group-returns-else-number-field
skip_group-returns-else-number-field t c =
    let a = c.args in
    let l = c.loop-number in
    other_end a.levels a.input.now l.at a.field _ _ _ (ap Ok (sym c.in-Some.is) ∙ c.in_ok-number.ensures)
    c.if-wire_type-eq-WIRE_END_GROUP.true c.if-number-field.false ∙ l.invariant.1

pub skip_group-skip_field-requires : goal.skip_group-skip_field-requires
skip_group-skip_field-requires t c =
    let l = c.loop-number in
    let f = c.in-Some in
    let m = tag_moves c.args.input.now l.at f.number f.wire_type f.next (ap Ok (sym f.is) ∙ c.in_ok-number.ensures) in
    (omega (arith, l.invariant.0, c.decreases), tt)

pub skip_group-returns-in_err-at : goal.skip_group-returns-in_err-at
skip_group-returns-in_err-at t c =
    let a = c.args in
    let l = c.loop-number in
    let p = err_from_is_err_and c.from_residual-in_err-at.result c.from_residual-in_err-at.ensures.1 in
    rw (p.1, p.2) (goes_on a.levels a.input.now l.at a.field _ _ _ (ap Ok (sym c.in-Some.is) ∙ c.in_ok-number.ensures) _
    c.if-wire_type-eq-WIRE_END_GROUP.false (c.in_err-at.ensures) ∙ l.invariant.1)

pub skip_group-loop-number-smaller : goal.skip_group-loop-number-smaller
skip_group-loop-number-smaller t c =
    let a = c.args in
    let f = c.in-Some in
    let m = tag_moves a.input.now c.loop-number.at f.number f.wire_type f.next (ap Ok (sym f.is) ∙ c.in_ok-number.ensures) in
    let k = skip_moves Groups a.levels a.input.now f.next f.number f.wire_type c.in_ok-at.at (c.in_ok-at.ensures) in
    omega arith

pub skip_group-loop-number-preserved : goal.skip_group-loop-number-preserved
skip_group-loop-number-preserved t c =
    let a = c.args in
    let l = c.loop-number in
    let f = c.in-Some in
    let q = ap Ok (sym f.is) ∙ c.in_ok-number.ensures in
    let m = tag_moves a.input.now l.at f.number f.wire_type f.next q in
    let k = skip_moves Groups a.levels a.input.now f.next f.number f.wire_type c.in_ok-at.at (c.in_ok-at.ensures) in (
      omega (arith, l.invariant.0),
      goes_on a.levels a.input.now l.at a.field _ _ _ q _ c.if-wire_type-eq-WIRE_END_GROUP.false (c.in_ok-at.ensures) ∙ l.invariant.1,
    )

pub skip_group-returns : goal.skip_group-returns
skip_group-returns t c =
    let a = c.args in
    let l = c.loop-number in
    in_group_lem a.levels a.input.now l.at a.field _ (ap Ok (sym c.in_default.is) ∙ c.in_ok-number.ensures) ∙ l.invariant.1
