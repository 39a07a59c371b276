-- `inspect::records::put_bytes` meets its contract: the mark, and then the hex.
use native.Mathlib.Omega.{arith}
use Rattle.text.specs.Laws.{puts_then, hex_puts}
use Rattle.inspect.specs.Records.{bytes_text}
use Rattle.lines.specs.Laws.{wrote_puts}
use Rattle.inspect.proofs.records.put_bytes.Goals as goal

pub returns : goal.returns
unfolding bytes_text
returns c =
    puts_then (wrote_puts (omega arith) c.put_word-i.ensures) (hex_puts c.args.s.now (omega arith) (c.put_hex.ensures.value, c.put_hex.ensures.out_after))
