-- `inspect::answer_walk` meets its contract: the place is read, then the step is taken and put.
use Rattle.lines.specs.Laws.{wrote_puts}
use native.Mathlib.Omega.{arith}
use Rattle.text.specs.Laws.{puts_none, puts_then, puts_as}
use Rattle.inspect.proofs.Answering.{walk-short, walk_answer_lem}
use Rattle.inspect.proofs.answer_walk.Goals as goal

pub returns-then-content-lt8 : goal.returns-then-content-lt8
returns-then-content-lt8 c = puts_as (walk-short _ _ c.if-content-lt8.true) (omega arith) (puts_none _ _)

pub returns : goal.returns
returns c =
    puts_as (walk_answer_lem _ _ _ _ c.if-content-lt8.false
    c.little_at-place.ensures
    c.step-w.ensures) (omega arith)
    (puts_then (wrote_puts (omega arith) c.put_word-i.ensures) c.put_walk.ensures)
