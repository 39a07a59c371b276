-- `schema::take_place` meets its contract: the slot picks the case.
use Rattle.std.proofs.Common.{rules}
use Rattle.schema.specs.Slots.{set_place}
use Rattle.schema.proofs.take_place.Goals as goal

pub returns-in-1 : goal.returns-in-1
unfolding set_place
returns-in-1 c = search rules

pub returns-in-2 : goal.returns-in-2
unfolding set_place
returns-in-2 c = search rules

pub returns-in-3 : goal.returns-in-3
unfolding set_place
returns-in-3 c = search rules

pub returns-in-4 : goal.returns-in-4
unfolding set_place
returns-in-4 c = search rules

pub returns-in_default : goal.returns-in_default
unfolding set_place
returns-in_default c = search rules
