-- `ids::id_parts` meets its contract: the id of the places of from and seqno.
use mathlib.Core.Path.{ap, ◌∙◌}
use Rattle.schema.specs.declared.Slots.{Slots}
use Rattle.ids.specs.Ids.{on_from, id_parts}
use Rattle.ids.proofs.id_parts.Goals as goal

pub returns : goal.returns
unfolding id_parts
returns c = c.id_of.ensures ∙ ap (λ (t : Slots). on_from t.first t.third) c.slots_of-from.ensures
