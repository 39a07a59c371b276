-- `inspect::senders::put_rest` meets its contract: the mark, and the hex of what there is.
use native.Mathlib.Omega.{arith}
use Rattle.text.specs.Laws.{puts_as}
use Rattle.lines.specs.Laws.{wrote_puts}
use Rattle.inspect.proofs.Answering.{rest-none, rest_some}
use Rattle.inspect.proofs.senders.put_rest.Goals as goal

pub returns-then-s-start : goal.returns-then-s-start
returns-then-s-start c =
    puts_as (rest-none _ _ c.if-s-start.true) (omega arith) (wrote_puts (omega arith) c.put_word.ensures)

pub returns : goal.returns
returns c = puts_as (rest_some c.args.s.now c.args.start) (omega arith) c.put_bytes.ensures
