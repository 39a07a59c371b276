-- `ids::put_id_at` meets its contract: the body's test and the message's place pick the case.
use mathlib.Core.Path.{◌≡◌, sym, ap, ◌∙◌}
use Rattle.std.specs.Prelude.{Ok, Err}
use Rattle.std.proofs.lemmas.Result.{err_from_is_err_and}
use Rattle.ids.specs.Ids.{message_at}
use Rattle.ids.specs.IdLaws.{message-inside}
use Rattle.ids.proofs.Turns.{mapped-ok, mapped-err, at-message, no-message, refused-body}
use Rattle.ids.proofs.put_id_at.Goals.{In_ok-start}
use Rattle.ids.proofs.put_id_at.Goals as goal

place : (c : In_ok-start) → message_at c.args.dialect.mode c.args.body.now c.args.index ≡ Ok (c.in_ok-start.start, c.in_ok-start.end)
place c = sym c.message_at.ensures ∙ mapped-ok _ _ _ _ c.map_err.ensures.cases c.in_ok-start.was

pub returns-in_err-accept : goal.returns-in_err-accept
returns-in_err-accept c =
    let a = c.args in
    let p = err_from_is_err_and c.from_residual.result c.from_residual.ensures.1 in
    let h = refused-body a.before.now a.dialect a.body.now a.index a.out.now _ (sym c.in_err-accept.ensures) in
    record { value = p.1 ∙ ap Err p.2 ∙ h.0; out_after = h.1 }

pub returns-in_err-start : goal.returns-in_err-start
returns-in_err-start c =
    let a = c.args in
    let r = c.from_residual-in_err-start in
    let p = err_from_is_err_and r.result r.ensures.1 in
    let m = mapped-err _ _ _ _ c.map_err.ensures.cases c.in_err-start.was in
    let h = no-message a.before.now a.dialect a.body.now a.index a.out.now _ (sym c.in_ok-accept.ensures) (sym c.message_at.ensures ∙ m.1) in
    record { value = p.1 ∙ ap Err (p.2 ∙ m.2) ∙ h.0; out_after = h.1 }

pub slice_bounds-put_id-count : goal.slice_bounds-put_id-count
slice_bounds-put_id-count c =
    let a = c.args in (message-inside a.dialect.mode a.body.now a.index _ _ (place (goal.at.slice_bounds-put_id-count c).In_ok-start)).0

pub slice_bounds-put_id-start : goal.slice_bounds-put_id-start
slice_bounds-put_id-start c =
    let a = c.args in (message-inside a.dialect.mode a.body.now a.index _ _ (place (goal.at.slice_bounds-put_id-start c).In_ok-start)).0

pub slice_bounds-put_id-end : goal.slice_bounds-put_id-end
slice_bounds-put_id-end c =
    let a = c.args in (message-inside a.dialect.mode a.body.now a.index _ _ (place (goal.at.slice_bounds-put_id-end c).In_ok-start)).1

pub returns : goal.returns
returns c =
    let a = c.args in
    let h = at-message a.before.now a.dialect a.body.now a.index a.out.now _ _ _ _ (sym c.in_ok-accept.ensures)
    (place (goal.at.returns c).In_ok-start) (c.put_id.ensures.value, c.put_id.ensures.out_after) in
    record { value = h.0; out_after = h.1 }
