-- `caches::cache_part::cache_turn` is safe: the part of the store that is lent is there.
use Rattle.lines.specs.Laws.{prefix}
use borrow.Author.Rules.{rules}
use Rattle.caches.proofs.cache_part.cache_turn.Goals as goal

pub slice_bounds-call-end-then-part : goal.slice_bounds-call-end-then-part
slice_bounds-call-end-then-part c = prefix _ _ (search rules)
