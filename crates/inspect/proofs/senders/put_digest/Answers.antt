-- `inspect::senders::put_digest` meets its contract: the word, and then the digest.
use native.Mathlib.Omega.{arith}
use Rattle.text.specs.Laws.{puts_then}
use Rattle.lines.specs.Laws.{wrote_puts}
use Rattle.inspect.proofs.senders.put_digest.Goals as goal

pub returns : goal.returns
returns c = puts_then (wrote_puts (omega arith) c.put_word-i.ensures) c.put_rest.ensures
