-- `schema::role_of` meets its contract: the wire type, and whether the row is a number's, pick the role.
use Rattle.std.proofs.Common.{rules}
use Rattle.schema.specs.Schema.{role_of}
use Rattle.schema.proofs.role_of.Goals as goal

pub returns-in-Number : goal.returns-in-Number
unfolding role_of
returns-in-Number c = search rules

pub returns-in_default-row_of : goal.returns-in_default-row_of
unfolding role_of
returns-in_default-row_of c = search rules

pub returns-in-Number-row_of : goal.returns-in-Number-row_of
unfolding role_of
returns-in-Number-row_of c = search rules

pub returns-in_default-row_of-2 : goal.returns-in_default-row_of-2
unfolding role_of
returns-in_default-row_of-2 c = search rules

pub returns-in_default : goal.returns-in_default
unfolding role_of
returns-in_default c = search rules
