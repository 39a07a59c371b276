-- `why::question` is safe and ends: the parts of the stores that are lent are there.
use Rattle.lines.specs.Laws.{prefix}
use borrow.Author.Rules.{rules}
use Rattle.why.proofs.question.Goals as goal

pub slice_bounds-why-end : goal.slice_bounds-why-end
slice_bounds-why-end c = prefix _ _ (search rules)

pub slice_bounds-why-end-2 : goal.slice_bounds-why-end-2
slice_bounds-why-end-2 c = prefix _ _ (search rules)
