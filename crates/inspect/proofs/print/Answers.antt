-- `inspect::print` is safe: the part that is printed is there.
use Rattle.lines.specs.Laws.{prefix}
use borrow.Author.Rules.{rules}
use Rattle.inspect.proofs.print.Goals as goal

pub slice_bounds-write_all-end : goal.slice_bounds-write_all-end
slice_bounds-write_all-end c = prefix _ _ (search rules)
