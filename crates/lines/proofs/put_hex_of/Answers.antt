-- `lines::put_hex_of` meets its contract: the tests say what is put.
use native.Mathlib.Omega.{arith}
use lib.Seq.{length-take-le}
use Rattle.text.specs.Laws.{puts_none, puts_then, puts_as, hex_puts}
use Rattle.lines.specs.Laws.{prefix, wrote_puts}
use Rattle.lines.proofs.Shown.{shown-none, shown-past, shown-there}
use borrow.Author.Rules.{rules}
use Rattle.lines.proofs.put_hex_of.Goals as goal

pub returns-then-count-eq0 : goal.returns-then-count-eq0
returns-then-count-eq0 c = puts_as (shown-none _ _ c.if-count-eq0.true) (omega arith) (puts_none _ _)

pub returns-then-made-count : goal.returns-then-made-count
returns-then-made-count c = puts_as (shown-past _ _ c.if-count-eq0.false c.if-made-count.true) (omega arith) (puts_none _ _)

pub slice_bounds-put_hex-end : goal.slice_bounds-put_hex-end
slice_bounds-put_hex-end c = prefix _ _ (search rules)

pub returns : goal.returns
returns c =
    let a = c.args in
    let l = length-take-le a.count a.made.now c.if-made-count.false in
    puts_as (shown-there _ _ c.if-count-eq0.false
    c.if-made-count.false) (omega arith) (puts_then (wrote_puts
    (omega arith) c.put_word-i.ensures) (hex_puts _ (omega arith)
    (c.put_hex.ensures.value, c.put_hex.ensures.out_after)))
