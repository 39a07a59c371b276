-- `inspect::answer_utf8` meets its contract: the test says what is put.
use Rattle.lines.specs.Laws.{wrote_puts}
use mathlib.Core.Path.{sym, ◌∙◌}
use native.Mathlib.Omega.{arith}
use Rattle.text.specs.Laws.{puts_as}
use Rattle.inspect.proofs.Answering.{utf8_yes, utf8_no}
use Rattle.inspect.proofs.answer_utf8.Goals as goal

pub returns-then-is_utf8 : goal.returns-then-is_utf8
returns-then-is_utf8 c =
    puts_as (utf8_yes _ (sym c.is_utf8.ensures ∙ c.if-is_utf8.true)) (omega arith) (wrote_puts (omega arith) c.put_word.ensures)

pub returns : goal.returns
returns c =
    puts_as (utf8_no _ (sym c.is_utf8.ensures ∙ c.if-is_utf8.false)) (omega arith) (wrote_puts (omega arith) c.put_word-2.ensures)
