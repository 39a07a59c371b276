-- `compose::past` meets its contract: where the sum would pass 2^64 - 1 it stops there.
use Rattle.std.specs.Prelude.{◌+◌, leb}
use Rattle.std.proofs.Common.{sym, ◌∙◌, arith, leb-true, leb-false}
use Rattle.std.proofs.Math.Nat.{min-eq_left, min-eq_right}
use Rattle.basis.specs.Cases.{either}
use Rattle.compose.specs.Puts.{capped_small, capped-most}
use Rattle.compose.proofs.past.Goals as goal

pub returns : goal.returns
returns c =
    let n = c.args.at + c.args.len in
    either (leb n 18446744073709551615)
    (λ t. let h = leb-true n 18446744073709551615 t in c.saturating_add.ensures ∙ min-eq_left h ∙ sym (capped_small n h))
    (λ t.
    let h = leb-false n 18446744073709551615 t in
    c.saturating_add.ensures ∙ min-eq_right (omega arith) ∙ sym (capped-most n (omega arith)))
