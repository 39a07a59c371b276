-- `ids::put_id` meets its contract: measured, then the three parts are written one after the other.
use mathlib.Core.Path.{sym, ap, ◌∙◌}
use native.Mathlib.Omega.{arith}
use Rattle.std.specs.Prelude.{Err}
use Rattle.std.proofs.lemmas.Result.{err_from_is_err_and}
use Rattle.ids.specs.Ids.{answer_id, left_id}
use Rattle.ids.specs.IdLaws.{Fits, id-fits}
use Rattle.ids.proofs.Turns.{id-short, id-put}
use Rattle.ids.proofs.put_id.Goals.{In_ok-a}
use Rattle.ids.proofs.put_id.Goals as goal

fits : (c : In_ok-a) → Fits c.args.part.now c.in_ok-a.a c.in_ok-a.e c.in_ok-a.b c.in_ok-a.f
fits c = id-fits c.args.mode c.args.part.now _ _ _ _ (sym c.in_ok-a.ensures)

pub returns-in_err-a : goal.returns-in_err-a
returns-in_err-a c =
    let a = c.args in
    let e = c.in_err-a.ensures in
    let p = err_from_is_err_and c.from_residual.result c.from_residual.ensures.1 in record {
      value = p.1 ∙ ap Err p.2 ∙ ap (answer_id a.before.now a.part.now a.out.now) e;
      out_after = ap (left_id a.before.now a.part.now a.out.now) e;
    }

pub overflow_sub-total : goal.overflow_sub-total
overflow_sub-total c = (fits (goal.at.overflow_sub-total c).In_ok-a).from.0

pub overflow_add-total : goal.overflow_add-total
overflow_add-total c = let h = fits (goal.at.overflow_add-total c).In_ok-a in omega (arith, h.from-short)

pub overflow_sub-total-2 : goal.overflow_sub-total-2
overflow_sub-total-2 c = (fits (goal.at.overflow_sub-total-2 c).In_ok-a).seqno.0

pub overflow_add-total-2 : goal.overflow_add-total-2
overflow_add-total-2 c = let h = fits (goal.at.overflow_add-total-2 c).In_ok-a in omega (arith, h.from-short, h.seqno-short)

pub returns-then-out-total : goal.returns-then-out-total
returns-then-out-total c =
    let a = c.args in
    let e = c.in_ok-a.ensures in
    let s = id-short a.before.now a.part.now a.out.now _ _ _ _ (fits (goal.at.returns-then-out-total c).In_ok-a) c.if-out-total.true in record {
      value = s.0 ∙ ap (answer_id a.before.now a.part.now a.out.now) e;
      out_after = s.1 ∙ ap (left_id a.before.now a.part.now a.out.now) e;
    }

pub slice_bounds-put_bytes-count : goal.slice_bounds-put_bytes-count
slice_bounds-put_bytes-count c = (fits (goal.at.slice_bounds-put_bytes-count c).In_ok-a).from.0

pub slice_bounds-put_bytes-start : goal.slice_bounds-put_bytes-start
slice_bounds-put_bytes-start c = (fits (goal.at.slice_bounds-put_bytes-start c).In_ok-a).from.0

pub slice_bounds-put_bytes-end : goal.slice_bounds-put_bytes-end
slice_bounds-put_bytes-end c = (fits (goal.at.slice_bounds-put_bytes-end c).In_ok-a).from.1

pub slice_bounds-put_bytes-count-2 : goal.slice_bounds-put_bytes-count-2
slice_bounds-put_bytes-count-2 c = (fits (goal.at.slice_bounds-put_bytes-count-2 c).In_ok-a).seqno.0

pub slice_bounds-put_bytes-start-2 : goal.slice_bounds-put_bytes-start-2
slice_bounds-put_bytes-start-2 c = (fits (goal.at.slice_bounds-put_bytes-start-2 c).In_ok-a).seqno.0

pub slice_bounds-put_bytes-end-2 : goal.slice_bounds-put_bytes-end-2
slice_bounds-put_bytes-end-2 c = (fits (goal.at.slice_bounds-put_bytes-end-2 c).In_ok-a).seqno.1

pub returns : goal.returns
returns c =
    let a = c.args in
    let e = c.in_ok-a.ensures in
    let s = id-put a.before.now a.part.now a.out.now _ _ _ _ _ _ _ _ _ _ (fits (goal.at.returns c).In_ok-a)
    c.if-out-total.false c.put_bytes-i.ensures c.put_bytes-j.ensures c.put_bytes.ensures in record {
      value = s.0 ∙ ap (answer_id a.before.now a.part.now a.out.now) e;
      out_after = s.1 ∙ ap (left_id a.before.now a.part.now a.out.now) e;
    }
