-- `inspect::records::decode_line` meets its contract: the number, what was told and a newline; or the refusal.
use mathlib.Core.Path.{refl}
use native.Mathlib.Omega.{arith}
use borrow.Author.Tests.{eq-eqb, ne_eqb}
use Rattle.text.specs.Laws.{puts_then, puts_as}
use Rattle.lines.specs.Laws.{wrote_puts, puts_wrote, wrote_yes, wrote_no}
use Rattle.inspect.specs.Records.{decode_line}
use Rattle.inspect.proofs.records.decode_line.Goals as goal

pub returns-then-t-eq0 : goal.returns-then-t-eq0
unfolding decode_line
returns-then-t-eq0 c =
    wrote_yes _ _ (eq-eqb _ _ c.if-t-eq0.true)
    (puts_wrote (omega arith) (puts_as refl (omega arith) (puts_then (wrote_puts (omega arith) c.start_line-i.ensures)
    (puts_then c.put_decoded-j.ensures (wrote_puts (omega arith) c.end_line.ensures)))))

pub returns : goal.returns
unfolding decode_line
returns c = wrote_no _ _ (ne_eqb _ _ c.if-t-eq0.false) c.refusal_line.ensures
