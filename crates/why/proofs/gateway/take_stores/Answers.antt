-- `why::gateway::take_stores` meets its contract: the stores are written where they can be used.
use native.Mathlib.Omega.{arith}
use mathlib.Core.Path.{refl}
use Rattle.std.proofs.lemmas.Result.{err_from_is_err_and}
use Rattle.lines.specs.Laws.{prefix}
use Rattle.why.proofs.Giving.{refused, taken, fine-room}
use Rattle.why.proofs.gateway.take_stores.Goals as goal

pub overflow_mul-seen_len : goal.overflow_mul-seen_len
overflow_mul-seen_len c =
    let l = fine-room c.args.node c.args.rest.now c.in_ok-given.ensures in
    omega arith

pub slice_bounds-put_bytes-end : goal.slice_bounds-put_bytes-end
slice_bounds-put_bytes-end c =
    let l = fine-room c.args.node c.args.rest.now c.in_ok-given.ensures in
    prefix _ _ (omega arith)

pub slice_bounds-put_bytes-count : goal.slice_bounds-put_bytes-count
slice_bounds-put_bytes-count c =
    let l = fine-room c.args.node c.args.rest.now c.in_ok-given.ensures in
    omega arith

pub slice_bounds-put_bytes-start : goal.slice_bounds-put_bytes-start
slice_bounds-put_bytes-start c =
    let l = fine-room c.args.node c.args.rest.now c.in_ok-given.ensures in
    omega arith

pub returns-in_err-given : goal.returns-in_err-given
returns-in_err-given c =
    let p = err_from_is_err_and c.from_residual.result c.from_residual.ensures.1 in
    rw (p.1, p.2) (refused _ _ c.in_err-given.ensures)

pub returns : goal.returns
returns c =
    taken _ _ c.in_ok-given.ensures c.put_bytes.ensures.lent refl
    c.put_bytes-2.ensures.lent
