-- `schema::take_field` meets its contract: the role picks the case.
use Rattle.std.proofs.Common.{rules}
use Rattle.schema.specs.Slots.{with_field}
use Rattle.schema.proofs.take_field.Goals as goal

pub returns-in-Number : goal.returns-in-Number
unfolding with_field
returns-in-Number c = search rules

pub returns-in-Text : goal.returns-in-Text
unfolding with_field
returns-in-Text c = search rules

pub returns-in_default : goal.returns-in_default
unfolding with_field
returns-in_default c = search rules
