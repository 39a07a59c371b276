-- `key::decode_protobuf` meets its contract.
use mathlib.Core.Path.{sym, ◌∙◌}
use native.Mathlib.Omega.{arith}
use Rattle.std.proofs.lemmas.Result.{err_from_is_err_and}
use Rattle.key.proofs.Steps.{read-within, key_none, key_tag, key-read, known-else, known-then}
use Rattle.key.proofs.decode_protobuf.Goals as goal

pub returns-then-is_empty : goal.returns-then-is_empty
returns-then-is_empty c = key_none _ (sym c.is_empty.ensures ∙ c.if-is_empty.true)

pub returns-in_err-check_tag : goal.returns-in_err-check_tag
returns-in_err-check_tag c =
    let p = err_from_is_err_and c.from_residual.result c.from_residual.ensures.1 in
    rw (p.1, p.2) (key_tag _ (sym c.is_empty.ensures ∙ c.if-is_empty.false) _ c.in_err-check_tag.ensures)

pub returns-in_err-value : goal.returns-in_err-value
returns-in_err-value c =
    let p = err_from_is_err_and c.from_residual-in_err-value.result c.from_residual-in_err-value.ensures.1 in
    rw (p.1, p.2) (key-read _ (sym c.is_empty.ensures ∙ c.if-is_empty.false) _ c.in_ok-check_tag.ensures c.in_err-value.ensures)

pub returns-in_err-key_type : goal.returns-in_err-key_type
returns-in_err-key_type c =
    let p = err_from_is_err_and c.from_residual-in_err-key_type.result c.from_residual-in_err-key_type.ensures.1 in
    rw (p.1, p.2) (known-else c.args.input.now c.in_ok-value.value c.in_ok-value.used _ c.in_err-key_type.ensures
    ∙ key-read _ (sym c.is_empty.ensures ∙ c.if-is_empty.false) _ c.in_ok-check_tag.ensures c.in_ok-value.ensures)

pub overflow_add-used : goal.overflow_add-used
overflow_add-used c = omega (arith, read-within c.args.input.now 1 _ _ c.in_ok-value.ensures)

pub returns : goal.returns
returns c =
    c.decode_data.ensures ∙ known-then _ c.in_ok-value.value _ _ c.in_ok-key_type.ensures
    ∙ key-read _ (sym c.is_empty.ensures ∙ c.if-is_empty.false) _ c.in_ok-check_tag.ensures c.in_ok-value.ensures
