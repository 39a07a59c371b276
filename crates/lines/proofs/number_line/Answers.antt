-- `lines::number_line` meets its contract: the number, the words, the value and a newline, at the front.
use native.Mathlib.Omega.{arith}
use mathlib.Core.Path.{refl}
use borrow.Author.Tests.{le-leb, lt-leb}
use Rattle.text.specs.Laws.{puts_then, puts_as}
use Rattle.lines.specs.Laws.{wrote_puts, puts_wrote, wrote_short, wrote_nothing, wrote_yes, wrote_no}
use Rattle.lines.specs.Lines.{number_line}
use Rattle.lines.proofs.number_line.Goals as goal

pub returns-then-words-gt32 : goal.returns-then-words-gt32
unfolding number_line
returns-then-words-gt32 c = wrote_no _ _ (lt-leb _ _ c.if-words-gt32.true) (wrote_nothing _ _ _)

pub returns-then-out-lt256 : goal.returns-then-out-lt256
unfolding number_line
returns-then-out-lt256 c = wrote_short 256 0 _ _ c.if-out-lt256.true

pub returns : goal.returns
unfolding number_line
returns c =
    wrote_yes _ _ (le-leb _ _ c.if-words-gt32.false) (puts_wrote (omega arith) (puts_as refl (omega arith)
    (puts_then (wrote_puts (omega arith) c.start_line-i.ensures)
    (puts_then (puts_then (wrote_puts (omega arith) c.put_word-j.ensures)
    (wrote_puts (omega arith) c.put_value-k.ensures))
    (wrote_puts (omega arith) c.end_line.ensures)))))
