-- `pradulins::pradulins_start` meets its contract: the node is stored where the settings are legal.
use mathlib.Core.Path.{sym, ◌∙◌}
use Rattle.pradulins.proofs.Told.{start-refused, start-made}
use Rattle.pradulins.proofs.pradulins_start.Goals as goal

pub returns-in-Ok : goal.returns-in-Ok
returns-in-Ok c =
    start-made _ _ _ _ _ _ (sym c.in-Ok.is ∙ c.start-s.ensures.answer) c.start-s.ensures.node c.store.ensures

pub returns-in-Err : goal.returns-in-Err
returns-in-Err c = start-refused _ _ _ _ _ _ (sym c.in-Err.is ∙ c.start-s.ensures.answer) c.told.ensures
