-- `text::spell_decimal` meets its contract: the fewest digits, put as a text.
use native.Mathlib.Omega.{arith}
use Rattle.text.specs.Laws.{puts_as}
use Rattle.text.proofs.Digits.{shown}
use Rattle.text.proofs.spell_decimal.Goals as goal

pub spell_text-requires : goal.spell_text-requires
spell_text-requires c = omega (arith, (shown c.args.n _ _ (omega arith) (c.decimal-k.ensures.len, c.decimal-k.ensures.digits)).1)

pub returns : goal.returns
returns c =
    let s = shown c.args.n _ _ (omega arith) (c.decimal-k.ensures.len, c.decimal-k.ensures.digits) in puts_as s.0 s.1 c.spell_text.ensures
