-- `message::write_own` meets its contract: the test on the kind picks the case, no record or the message's own.
use mathlib.Core.Path.{sym, ◌∙◌}
use Rattle.message.proofs.Turns.{puts_own-none, puts_own}
use Rattle.basis.specs.declared.Mode.TheVariants.{Groups}
use Rattle.message.proofs.write_own.Goals as goal

pub returns-then-own-eq0 : goal.returns-then-own-eq0
returns-then-own-eq0 c =
    let a = c.args in let h = puts_own-none Groups a.kind a.base a.input.now a.table.now a.row (sym c.own.ensures ∙ c.if-own-eq0.true) in record { value = h.0; table_after = h.1 }

pub returns : goal.returns
returns c =
    let a = c.args in let h = puts_own Groups a.kind a.base a.input.now a.table.now _ a.row _
    (λ z. c.if-own-eq0.false (c.own.ensures ∙ z))
    c.slots_of-slots.ensures
    c.put_record.ensures in record { value = h.0; table_after = h.1 }
