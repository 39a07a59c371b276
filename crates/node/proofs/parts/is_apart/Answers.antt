-- `is_apart` meets its contract: the test of each part by its number is that of the part.
use mathlib.Core.Path.{refl, ◌∙◌}
use native.Mathlib.Omega.{arith}
use Rattle.std.proofs.Common.{rules, tests}
use Rattle.std.proofs.lemmas.Iterator.{YieldsList-from_range}
use Rattle.std.proofs.lemmas.Iterator.Search.{all_from_yields_List}
use Rattle.node.proofs.Turns.{is_other, all-others}
use Rattle.node.proofs.parts.is_apart.Goals as goal

pub returns : goal.returns
returns c =
    let a = c.args in
    all_from_yields_List (is_other a.bytes.now a.s.now a.table.now) _ _ c.all.result c.all.ensures.ran
    (YieldsList-from_range 0 a.n a.n refl (omega arith)) (λ x b q k. search (rules, tests))
    ∙ all-others a.bytes.now a.s.now a.table.now a.n
