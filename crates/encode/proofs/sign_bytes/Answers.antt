-- `encode::sign_bytes` meets its contract: the body's test and the message's place pick the case.
use Prim.Native.Nat.{ℕ}
use mathlib.Core.Path.{◌≡◌, sym, ap, ◌∙◌}
use mathlib.Core.List.{List}
use native.Mathlib.Omega.{arith}
use Rattle.std.specs.Prelude.{Ok, Err}
use Rattle.std.proofs.lemmas.Result.{err_from_is_err_and}
use Rattle.basis.specs.Writing.{answer, written}
use Rattle.ids.specs.Ids.{message_at, of_written}
use Rattle.schema.specs.AcceptLaws.{accept_small}
use Rattle.ids.specs.declared.MessageError.TheVariants as mess
use Rattle.ids.specs.IdLaws.{message-inside}
use Rattle.ids.proofs.Turns.{mapped-ok, mapped-err}
use Rattle.canon.proofs.Taken.{signed-shorter}
use Rattle.encode.proofs.Signs.{part_small, sign_refused, sign_missing, sign_found}
use Rattle.encode.proofs.Taken.{taken-message}
use Rattle.encode.proofs.sign_bytes.Goals.{In_ok-start}
use Rattle.encode.proofs.sign_bytes.Goals as goal

place : (c : In_ok-start) → message_at c.args.dialect.mode c.args.body.now c.args.index ≡ Ok (c.in_ok-start.start, c.in_ok-start.end)
place c = sym c.message_at.ensures ∙ mapped-ok _ _ _ _ c.map_err.ensures.cases c.in_ok-start.was

pub slice_bounds-sign_part-count : goal.slice_bounds-sign_part-count
slice_bounds-sign_part-count c =
    let a = c.args in (message-inside a.dialect.mode a.body.now a.index _ _ (place (goal.at.slice_bounds-sign_part-count c).In_ok-start)).0

pub slice_bounds-sign_part-start : goal.slice_bounds-sign_part-start
slice_bounds-sign_part-start c =
    let a = c.args in (message-inside a.dialect.mode a.body.now a.index _ _ (place (goal.at.slice_bounds-sign_part-start c).In_ok-start)).0

pub slice_bounds-sign_part-end : goal.slice_bounds-sign_part-end
slice_bounds-sign_part-end c =
    let a = c.args in (message-inside a.dialect.mode a.body.now a.index _ _ (place (goal.at.slice_bounds-sign_part-end c).In_ok-start)).1

pub sign_part-requires : goal.sign_part-requires
sign_part-requires c =
    let a = c.args in
    let t = sym c.in_ok-accept.ensures in
    let f = place (goal.at.sign_part-requires c).In_ok-start in (
      rw (taken-message a.dialect a.body.now a.index _ _ t f).bytes
          (signed-shorter a.dialect a.body.now a.index c.in_ok-start.start c.in_ok-start.end (λ i. omega (arith, c.type_inv.body i)) t f),
      part_small a.body.now c.in_ok-start.start c.in_ok-start.end (accept_small a.dialect a.body.now t),
    )

pub returns-in_err-accept : goal.returns-in_err-accept
returns-in_err-accept c =
    let a = c.args in
    let p = err_from_is_err_and c.from_residual.result c.from_residual.ensures.1 in
    rw (p.1, p.2) (sign_refused a.dialect a.body.now a.index a.out.now _ (sym c.in_err-accept.ensures))

pub returns-in_err-start : goal.returns-in_err-start
returns-in_err-start c =
    let a = c.args in
    let r = c.from_residual-in_err-start in
    let p = err_from_is_err_and r.result r.ensures.1 in
    let m = mapped-err _ _ _ _ c.map_err.ensures.cases c.in_err-start.was in
    let e : r.result ≡ Err (mess.NoMessage m.0) = p.1 ∙ ap Err (p.2 ∙ m.2) in
    rw e (sign_missing a.dialect a.body.now a.index a.out.now _ (sym c.in_ok-accept.ensures) (sym c.message_at.ensures ∙ m.1))

pub returns : goal.returns
returns c =
    let a = c.args in
    let t = sym c.in_ok-accept.ensures in
    let f = place (goal.at.returns c).In_ok-start in
    let g = (taken-message a.dialect a.body.now a.index _ _ t f).signed in
    let r = c.sign_part.ensures in
    sign_found a.dialect a.body.now a.index a.out.now _ _ _ _ t f
    (r.value ∙ ap (λ (x : List ℕ). of_written (answer x a.out.now)) g, r.out_after ∙ ap (λ (x : List ℕ). written x a.out.now) g)
