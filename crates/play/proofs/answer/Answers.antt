-- `play::answer` is safe and ends: the parts of the stores that are lent are there.
use Rattle.lines.specs.Laws.{prefix}
use borrow.Author.Rules.{rules}
use Rattle.play.proofs.answer.Goals as goal

pub slice_bounds-call_node-end-2 : goal.slice_bounds-call_node-end-2
slice_bounds-call_node-end-2 c = prefix _ _ (search rules)

pub slice_bounds-call_node-end-4 : goal.slice_bounds-call_node-end-4
slice_bounds-call_node-end-4 c = prefix _ _ (search rules)
