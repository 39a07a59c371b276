-- `states::calls::call` is safe and ends: the parts of the stores that are lent are there.
use Rattle.lines.specs.Laws.{prefix}
use Rattle.std.proofs.Common.{rules}
use Rattle.states.proofs.calls.call.Goals as goal

pub slice_bounds-on_lent-end-2 : goal.slice_bounds-on_lent-end-2
slice_bounds-on_lent-end-2 c = prefix _ _ (search rules)

pub slice_bounds-on_lent-end-4 : goal.slice_bounds-on_lent-end-4
slice_bounds-on_lent-end-4 c = prefix _ _ (search rules)
