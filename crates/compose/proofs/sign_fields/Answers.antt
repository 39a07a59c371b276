-- `compose::sign_fields` meets its contract: the lists' tests and the message's row pick the case.
use Rattle.std.proofs.lemmas.Result.{err_from_is_err_and}
use Rattle.compose.proofs.Answers.{lists-inside, row-found, sign_lists, sign_missing, sign_found}
use Rattle.compose.proofs.sign_fields.Goals as goal

pub sign_row-requires : goal.sign_row-requires
sign_row-requires c =
    let a = c.args in
    let r = row-found a.records.now a.bytes.now a.index _ c.in_ok-i.ensures in
    record { inside = lists-inside _ _ c.in_ok-lists_of.ensures; message_row = (r.0, r.1) }

pub returns-in_err-lists_of : goal.returns-in_err-lists_of
returns-in_err-lists_of c =
    let a = c.args in
    let p = err_from_is_err_and c.from_residual.result c.from_residual.ensures.1 in
    rw (p.1, p.2) (sign_lists a.records.now a.bytes.now a.index a.out.now c.in_err-lists_of.ensures)

pub returns-in_err-i : goal.returns-in_err-i
returns-in_err-i c =
    let a = c.args in
    let r = c.from_residual-in_err-i in
    let p = err_from_is_err_and r.result r.ensures.1 in
    rw (p.1, p.2) (sign_missing a.records.now a.bytes.now a.index a.out.now c.in_ok-lists_of.ensures c.in_err-i.ensures)

pub returns : goal.returns
returns c =
    let a = c.args in
    sign_found a.records.now a.bytes.now a.index a.out.now c.in_ok-lists_of.ensures _ c.in_ok-i.ensures _ _ c.sign_row.ensures
