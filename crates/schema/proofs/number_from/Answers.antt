-- `schema::number_from` meets its contract: the first word picks the case.
use Rattle.std.proofs.Common.{rules}
use Rattle.schema.specs.Made.{number_from}
use Rattle.schema.proofs.number_from.Goals as goal

pub returns-then-there-eq0 : goal.returns-then-there-eq0
unfolding number_from
returns-then-there-eq0 c = search rules

pub returns : goal.returns
unfolding number_from
returns c = search rules
