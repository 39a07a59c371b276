-- `encode::encode` meets its contract: the test of the body picks the case.
use Prim.Native.Nat.{ℕ}
use mathlib.Core.Path.{sym, ap, ◌∙◌}
use mathlib.Core.List.{List}
use native.Mathlib.Omega.{arith}
use Rattle.std.specs.Prelude.{Err}
use Rattle.std.proofs.lemmas.Result.{err_from_is_err_and}
use Rattle.basis.specs.Writing.{answer, written}
use Rattle.protobuf.specs.Encode.{of_written}
use Rattle.schema.specs.AcceptLaws.{accept_small}
use Rattle.canon.proofs.Taken.{taken-shorter}
use Rattle.encode.specs.Encode.{encode_checked, encode_answer, encoded_checked, encode_left}
use Rattle.encode.proofs.Taken.{taken-body}
use Rattle.encode.proofs.encode.Goals as goal

pub encode_taken-requires : goal.encode_taken-requires
encode_taken-requires c =
    let a = c.args in
    let t = sym c.in_ok-accept.ensures in
    (rw (taken-body a.dialect a.body.now t) (taken-shorter a.dialect a.body.now (λ i. omega (arith, c.type_inv.body i)) t), accept_small a.dialect a.body.now t)

pub returns-in_err-accept : goal.returns-in_err-accept
unfolding encode_answer encode_left
returns-in_err-accept c =
    let a = c.args in
    let e = c.in_err-accept.ensures in
    let p = err_from_is_err_and c.from_residual.result c.from_residual.ensures.1 in
    record {
      answer = p.1 ∙ ap Err p.2 ∙ ap (encode_checked a.dialect a.body.now a.out.now) e;
      lent = ap (encoded_checked a.dialect a.body.now a.out.now) e;
    }

pub returns : goal.returns
unfolding encode_answer encode_left
returns c =
    let a = c.args in
    let e = c.in_ok-accept.ensures in
    let b = taken-body a.dialect a.body.now (sym e) in
    let r = c.encode_taken.ensures in
    record {
      answer = r.value ∙ ap (λ (x : List ℕ). of_written (answer x a.out.now)) b ∙ ap (encode_checked a.dialect a.body.now a.out.now) e;
      lent = r.out_after ∙ ap (λ (x : List ℕ). written x a.out.now) b ∙ ap (encoded_checked a.dialect a.body.now a.out.now) e;
    }
