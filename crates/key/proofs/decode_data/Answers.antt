-- `key::decode_data` meets its contract.
use Prim.Native.Nat.{◌+◌}
use mathlib.Core.Path.{◌∙◌}
use native.Mathlib.Omega.{arith}
use Rattle.std.proofs.lemmas.Result.{err_from_is_err_and}
use Rattle.key.proofs.Steps.{read-within, tag_there, data_tag, data_read}
use Rattle.key.proofs.decode_data.Goals as goal

pub returns-in_err-check_tag : goal.returns-in_err-check_tag
returns-in_err-check_tag c =
    let p = err_from_is_err_and c.from_residual.result c.from_residual.ensures.1 in
    rw (p.1, p.2) (data_tag _ _ _ _ c.in_err-check_tag.ensures)

pub overflow_add-next : goal.overflow_add-next
overflow_add-next c = omega (arith, (tag_there c.args.input.now c.args.at _ c.in_ok-check_tag.ensures).0)

pub slice_bounds-read_uvarint-count : goal.slice_bounds-read_uvarint-count
slice_bounds-read_uvarint-count c = omega (arith, (tag_there c.args.input.now c.args.at _ c.in_ok-check_tag.ensures).0)

pub returns-in_err-size : goal.returns-in_err-size
returns-in_err-size c =
    let p = err_from_is_err_and c.from_residual-in_err-size.result c.from_residual-in_err-size.ensures.1 in
    rw (p.1, p.2) (data_read _ _ _ _ c.in_ok-check_tag.ensures c.in_err-size.ensures)

pub overflow_add-next-2 : goal.overflow_add-next-2
overflow_add-next-2 c = omega (arith, read-within c.args.input.now (c.args.at + 1) _ _ c.in_ok-size.ensures)

pub returns : goal.returns
returns c = c.data_from.ensures ∙ data_read _ _ _ _ c.in_ok-check_tag.ensures c.in_ok-size.ensures
