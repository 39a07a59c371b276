-- `pradulins::pradulins_settings` meets its contract: what the stored node holds is told, and behind it the flags.
use Rattle.pradulins.specs.Holds.{settings_told}
use Rattle.pradulins.proofs.Told.{told_as, flags-stored, flags-refused}
use Rattle.pradulins.proofs.pradulins_settings.Goals as goal

pub returns-then-number-eq0 : goal.returns-then-number-eq0
returns-then-number-eq0 c =
    let a = c.args in
    let t =
    told_as settings_told a.values.now c.load-n.ensures c.told_settings.ensures
    (c.tell-number.ensures.value, c.tell-number.ensures.values_after) in
    flags-stored a.node.now a.values.now t _ c.load-n.ensures c.if-number-eq0.true

pub returns : goal.returns
returns c =
    let a = c.args in
    let t =
    told_as settings_told a.values.now c.load-n.ensures c.told_settings.ensures
    (c.tell-number.ensures.value, c.tell-number.ensures.values_after) in
    flags-refused a.node.now a.values.now t c.if-number-eq0.false
