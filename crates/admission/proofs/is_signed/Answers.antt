-- `admission::is_signed` meets its contract.
use Rattle.std.proofs.Common.{sym, ap, ◌∙◌}
use Rattle.admission.specs.Admission.{is_signed, is_there}
use Rattle.schema.specs.declared.Slots.{Slots}
use Rattle.admission.proofs.is_signed.Goals as goal

pub returns-in-Present : goal.returns-in-Present
unfolding is_signed
returns-in-Present c =
    sym (ap is_there c.in-Present.is) ∙ ap (λ (s : Slots). is_there s.fourth) c.slots_of-slots.ensures

pub returns-in_default : goal.returns-in_default
unfolding is_signed
returns-in_default c =
    sym (ap is_there c.in_default.is) ∙ ap (λ (s : Slots). is_there s.fourth) c.slots_of-slots.ensures
