-- `text::glyph` meets its contract: a digit below 10, or one from `a` on.
use borrow.Author.Tests.{lt-ltb, le-ltb}
use Rattle.text.proofs.glyph.Goals as goal

pub returns-then-d-lt10 : goal.returns-then-d-lt10
returns-then-d-lt10 c = simp (lt-ltb _ _ c.if-d-lt10.true)

pub returns-else-d-lt10 : goal.returns-else-d-lt10
returns-else-d-lt10 c = simp (le-ltb _ _ c.if-d-lt10.false)
