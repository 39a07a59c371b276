-- `caches::say::print` is safe: with the newline the part that is printed is there.
use Rattle.lines.specs.Laws.{prefix}
use Rattle.caches.proofs.Buffers.{after-set}
use Rattle.caches.proofs.say.print.Goals as goal

pub slice_bounds-write_all-end : goal.slice_bounds-write_all-end
slice_bounds-write_all-end c = after-set c.args.out.now c.args.k 10 c.if-k-out.true

pub slice_bounds-write_all-end-then-k-out : goal.slice_bounds-write_all-end-then-k-out
slice_bounds-write_all-end-then-k-out c = prefix _ _ (after-set c.args.out.now c.args.k 10 c.if-k-out.true)
