-- `play::calls::print` is safe and ends: the part that is printed is there.
use Rattle.lines.specs.Laws.{prefix}
use borrow.Author.Rules.{rules}
use Rattle.play.proofs.calls.print.Goals as goal

pub slice_bounds-write_all-end : goal.slice_bounds-write_all-end
slice_bounds-write_all-end c = prefix _ _ (search rules)
