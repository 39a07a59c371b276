-- `why::go_on` is safe and ends: the content is within the buffer.
use Rattle.lines.specs.Laws.{prefix}
use borrow.Author.Rules.{rules}
use Rattle.why.proofs.go_on.Goals as goal

pub slice_bounds-answer-end-then-read_content : goal.slice_bounds-answer-end-then-read_content
slice_bounds-answer-end-then-read_content c = prefix _ _ (search rules)
