-- `text::spell_number` meets its contract: a blank, and then the digits.
use mathlib.Core.Path.{◌∙◌}
use native.Mathlib.Omega.{arith}
use lib.ListN.{length-set}
use Rattle.text.specs.Line.{number}
use Rattle.text.specs.Laws.{puts_cons, puts_length}
use Rattle.text.proofs.spell_number.Goals as goal

pub spell_decimal-requires : goal.spell_decimal-requires
spell_decimal-requires c = simp length-set (omega arith)

pub shape_of-out : goal.shape_of-out
shape_of-out c = puts_length c.spell_decimal.ensures ∙ simp length-set

pub returns : goal.returns
unfolding number
returns c = puts_cons c.spell_decimal.ensures
