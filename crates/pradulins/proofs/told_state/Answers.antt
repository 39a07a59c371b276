-- `pradulins::told_state` meets its contract: the state is tested.
use Rattle.pradulins.proofs.told_state.Goals as goal

pub returns-in-Ok : goal.returns-in-Ok
returns-in-Ok c = rw (← c.in-Ok.ensures) c.three.ensures

pub returns-in-Err : goal.returns-in-Err
returns-in-Err c = rw (← c.in-Err.ensures) c.told.ensures
