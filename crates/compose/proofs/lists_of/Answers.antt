-- `compose::lists_of` meets its contract: rows that are lent well lie within the bytes.
use Rattle.std.proofs.Common.{sym, ◌∙◌}
use Rattle.compose.specs.Laws.{lent-inside}
use Rattle.compose.proofs.lists_of.Goals as goal

pub texts_fine-requires : goal.texts_fine-requires
texts_fine-requires c = lent-inside _ _ (sym c.lent_well.ensures ∙ c.if-not-lent_well.false)
