-- `inspect::answer_spoken` meets its contract: the dialect is read, then the walk is answered in its mode.
use native.Mathlib.Omega.{arith}
use Rattle.text.specs.Laws.{puts_none, puts_as}
use Rattle.inspect.proofs.Answering.{spoken-short, spoken_high, spoken_answer_lem}
use Rattle.inspect.proofs.answer_spoken.Goals as goal

pub returns-then-content-lt1 : goal.returns-then-content-lt1
returns-then-content-lt1 c = puts_as (spoken-short _ (omega arith)) (omega arith) (puts_none _ _)

pub returns-then-number-gt-MAX_DIALECT : goal.returns-then-number-gt-MAX_DIALECT
returns-then-number-gt-MAX_DIALECT c =
    puts_as (spoken_high _ _ c.little_at-number.ensures c.if-number-gt-MAX_DIALECT.true) (omega arith) (puts_none _ _)

pub returns : goal.returns
returns c =
    puts_as (spoken_answer_lem _ _ _ c.little_at-number.ensures
    c.if-number-gt-MAX_DIALECT.false c.dialect_of-dialect.ensures) (omega arith)
    c.answer_walk.ensures
