-- `schema::own` meets its contract: the kind picks the row.
use Rattle.std.proofs.Common.{rules}
use Rattle.schema.specs.Schema.{own_of}
use Rattle.schema.proofs.own.Goals as goal

pub returns-in-Rpc : goal.returns-in-Rpc
unfolding own_of
returns-in-Rpc c = search rules

pub returns-in_default : goal.returns-in_default
unfolding own_of
returns-in_default c = search rules
