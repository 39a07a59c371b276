-- `basis::spell_little` meets its contract: to write the bytes of v that are left is to write those of the value.
use Prim.Native.Nat.{◌+◌}
use mathlib.Core.Path.{sym, ◌∙◌}
use native.Mathlib.Omega.{arith}
use native.Mathlib.Nat.{add-zero, sub-zero}
use Rattle.basis.proofs.Little.{byte-written, all-written}
use Rattle.basis.proofs.spell_little.Goals as goal

pub loop-i-init : goal.loop-i-init
loop-i-init c = rw (add-zero, sub-zero)

pub loop-i-preserved : goal.loop-i-preserved
loop-i-preserved c =
    let l = c.loop-i in
    sym (byte-written l.out c.args.at c.args.n l.i l.v (omega arith)) ∙ l.invariant

pub returns : goal.returns
returns c =
    let l = c.loop-i in
    sym (all-written l.out (c.args.at + l.i) c.args.n l.i l.v (omega arith)) ∙ l.invariant
