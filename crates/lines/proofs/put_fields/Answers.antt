-- `lines::put_fields` meets its contract: the word and then the numbers, where there are any.
use native.Mathlib.Omega.{arith}
use Rattle.text.specs.Laws.{puts_none, puts_then, puts_as}
use Rattle.lines.specs.Laws.{wrote_puts}
use Rattle.lines.proofs.Spots.{fields-none, fields-some}
use Rattle.lines.proofs.put_fields.Goals as goal

pub returns-then-count-eq0 : goal.returns-then-count-eq0
returns-then-count-eq0 c =
    puts_as (fields-none c.args.spot _ c.depth-count.ensures c.if-count-eq0.true) (omega arith) (puts_none _ _)

pub returns : goal.returns
returns c =
    puts_as (fields-some c.args.spot _ c.depth-count.ensures c.if-count-eq0.false) (omega arith)
    (puts_then (wrote_puts (omega arith) c.put_word-i.ensures) c.put_values.ensures)
