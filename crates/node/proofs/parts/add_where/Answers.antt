-- `add_where` meets its contract.
use Rattle.node.proofs.Asking.{add-there, add-not}
use Rattle.node.proofs.parts.add_where.Goals as goal

pub returns-then-there : goal.returns-then-there
returns-then-there c =
    let a = c.args in let h = add-there a.there a.n _ a.table.now _ _ c.if-there.true c.add_part.ensures.value c.add_part.ensures.table_after in record { value = h.0; table_after = h.1 }

pub returns : goal.returns
returns c =
    let a = c.args in let h = add-not a.there a.n a.table.now _ c.if-there.false in record { value = h.0; table_after = h.1 }
