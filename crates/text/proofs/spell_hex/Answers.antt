-- `text::spell_hex` meets its contract: the digits of what is left, put at i, make what all of them at `at` make.
use mathlib.Core.Path.{◌∙◌}
use native.Mathlib.Omega.{arith}
use Rattle.text.specs.Laws.{length-hex}
use Rattle.text.proofs.Hex.{turn, done}
use Rattle.text.proofs.spell_hex.Goals as goal

pub loop-b-preserved : goal.loop-b-preserved
loop-b-preserved c =
    let l = c.loop-b in
    (omega arith, turn _ _ l.i l.b-index _ _ c.loop-b-test.true c.glyph.ensures c.glyph-in-loop-b.ensures ∙ l.invariant.1)

pub returns : goal.returns
returns c =
    let l = c.loop-b in record { small = omega arith; place = omega (arith, length-hex c.args.s.now); bytes = done _ _ l.i l.b-index c.loop-b-test.false ∙ l.invariant.1 }
