-- `lines::bytes_line` meets its contract: the number, the words, the bytes, the further values and a newline, at the front.
use native.Mathlib.Omega.{arith}
use mathlib.Core.Path.{refl}
use borrow.Author.Tests.{le-leb, lt-leb}
use Rattle.text.specs.Laws.{puts_then, puts_as}
use Rattle.lines.specs.Laws.{wrote_puts, puts_wrote, wrote_nothing, wrote_yes, wrote_no}
use Rattle.lines.specs.Lines.{bytes_line}
use Rattle.lines.proofs.bytes_line.Goals as goal

pub returns-then-words-gt32 : goal.returns-then-words-gt32
unfolding bytes_line
returns-then-words-gt32 c = wrote_no _ _ (lt-leb _ _ c.if-words-gt32.true) (wrote_nothing _ _ _)

pub returns-then-made-gt65600 : goal.returns-then-made-gt65600
unfolding bytes_line
returns-then-made-gt65600 c =
    wrote_yes _ _ (le-leb _ _ c.if-words-gt32.false) (wrote_no _ _ (lt-leb _ _ c.if-made-gt65600.true) (wrote_nothing _ _ _))

pub returns : goal.returns
unfolding bytes_line
returns c =
    wrote_yes _ _ (le-leb _ _
    c.if-words-gt32.false) (wrote_yes _ _ (le-leb _ _
    c.if-made-gt65600.false) (puts_wrote (omega arith) (puts_as refl (omega arith) (puts_then (wrote_puts (omega arith)
    c.start_line-i.ensures) (puts_then (puts_then (wrote_puts (omega arith)
    c.put_word-j.ensures)
    (puts_then c.put_shown-k.ensures (rw
    c.further-count.ensures at c.put_values-l.ensures))) (wrote_puts (omega arith)
    c.end_line.ensures))))))
