-- `inspect::records::records_in` meets its contract.
use borrow.Author.Tests.{eq-eqb, ne_eqb}
use Rattle.inspect.specs.Records.{records_in}
use Rattle.inspect.proofs.records.records_in.Goals as goal

pub returns-then-t-eq0 : goal.returns-then-t-eq0
unfolding records_in
returns-then-t-eq0 c = simp (eq-eqb _ _ c.if-t-eq0.true)

pub returns-else-t-eq0 : goal.returns-else-t-eq0
unfolding records_in
returns-else-t-eq0 c = simp (ne_eqb _ _ c.if-t-eq0.false)
