-- `compose::has_control` meets its contract: the test of each row by its number is that of the row.
use Prim.Native.Nat.{◌-◌, ◌/◌}
use mathlib.Core.Path.{refl, ◌∙◌}
use lib.ListN.{length}
use Rattle.std.proofs.Common.{rules, tests}
use Rattle.std.proofs.lemmas.Iterator.{YieldsList-from_range}
use Rattle.std.proofs.lemmas.Iterator.Search.{any_from_yields_List}
use Rattle.compose.proofs.Parts.{is_control, any_control}
use Rattle.compose.proofs.has_control.Goals as goal

pub returns : goal.returns
returns c =
    let t = c.args.records.now in
    let n = length t / 20 in
    any_from_yields_List (is_control t) _ _ c.any.result c.any.ensures.ran (YieldsList-from_range 0 n (n - 0) refl refl) (λ x b q k. search (rules, tests))
    ∙ any_control t 0 (n - 0)
