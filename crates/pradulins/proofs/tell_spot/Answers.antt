-- `pradulins::tell_spot` meets its contract: the case says what is stored.
use Rattle.pradulins.proofs.Told.{nowhere-stored, spot-stored}
use Rattle.pradulins.proofs.tell_spot.Goals as goal

pub returns-in_default : goal.returns-in_default
returns-in_default c = nowhere-stored _ _ c.in_default.is

pub returns : goal.returns
returns c = spot-stored _ _ _ c.in-Some.is
