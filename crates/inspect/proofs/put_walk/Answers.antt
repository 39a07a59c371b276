-- `inspect::put_walk` meets its contract: the case says what is put.
use mathlib.Core.Path.{◌≡◌, sym, ap}
use native.Mathlib.Omega.{arith}
use Rattle.std.specs.Prelude.{Result, Ok, Option}
use Rattle.text.specs.Laws.{puts_then, puts_as}
use Rattle.protobuf.specs.declared.Refusal.{Refusal}
use Rattle.protobuf.specs.declared.Walked.{Walked}
use Rattle.inspect.specs.Answers.{walk}
use Rattle.lines.specs.Laws.{wrote_puts}
use Rattle.inspect.proofs.put_walk.Goals as goal

walk_of : (w : Result (Option Walked) Refusal) {o p : Option Walked} → w ≡ Ok o → o ≡ p → walk (Ok p) ≡ walk w
walk_of w e f = rw (e, f)

pub returns-in-Ok-None : goal.returns-in-Ok-None
unfolding walk
returns-in-Ok-None c =
    puts_as (walk_of _ c.in-Ok-None.is (rw c.in-Ok-None.is at c.in-Ok-None.field-0-is)) (omega arith) (wrote_puts (omega arith) c.put_word.ensures)

pub returns-in-Ok-Some : goal.returns-in-Ok-Some
unfolding walk
returns-in-Ok-Some c =
    puts_as (walk_of _ c.in-Ok-Some.is (rw c.in-Ok-Some.is at c.in-Ok-Some.field-0-is)) (omega arith)
    (puts_then (wrote_puts (omega arith) c.put_value-i.ensures)
    (puts_then (wrote_puts (omega arith) c.put_value-j.ensures)
    (puts_then (wrote_puts (omega arith) c.put_value-k.ensures) (wrote_puts (omega arith) c.put_value.ensures))))

pub returns-in-Err : goal.returns-in-Err
unfolding walk
returns-in-Err c =
    puts_as (ap walk (sym c.in-Err.is)) (omega arith)
    (rw c.told_refusal.ensures at (wrote_puts (omega arith) c.put_refusal.ensures))
