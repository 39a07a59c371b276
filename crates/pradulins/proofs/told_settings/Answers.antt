-- `pradulins::told_settings` meets its contract: a node is started with them, or it is not.
use mathlib.Core.Path.{sym, ◌∙◌}
use Rattle.pradulins.proofs.Told.{settings-legal, settings-bad}
use Rattle.pradulins.proofs.told_settings.Goals as goal

pub returns-in-Ok : goal.returns-in-Ok
returns-in-Ok c = settings-legal c.args.n (sym c.in-Ok.is ∙ c.start-s.ensures.answer) c.four.ensures

pub returns-in-Err : goal.returns-in-Err
returns-in-Err c = settings-bad c.args.n (sym c.in-Err.is ∙ c.start-s.ensures.answer) c.none.ensures
