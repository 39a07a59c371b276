-- `basis::read_little` meets its contract: `value` is the number in the bytes that were passed, on top of those that are left.
use Prim.Native.Nat.{◌+◌, ◌-◌, ◌<◌}
use mathlib.Core.Path.{◌≡◌}
use native.Mathlib.Omega.{arith}
use lib.ListN.{take, drop, length-take}
use borrow.Author.Rules.{rules}
use Rattle.basis.proofs.Little.{all, one_more, room, none}
use Rattle.basis.proofs.read_little.Goals as goal

pub loop-b-init : goal.loop-b-init
loop-b-init c =
    let a = c.args in
    let k : a.at + a.n - a.at ≡ a.n = omega arith in
    let e : c.into_iter-b-iterator.result.iter.rest.now ≡ take (a.at + a.n - a.at) (drop a.at a.s.now) = search rules in
    rw (e, k) (none _ _ (omega (arith, length-take a.n (drop a.at a.s.now))))

pub overflow_mul-value : goal.overflow_mul-value
overflow_mul-value c = let h = room _ _ c.requires.n_bound c.in-Some.ensures.steps c.loop-b.invariant in omega arith

pub overflow_add-value : goal.overflow_add-value
overflow_add-value c =
    let h = room _ _ c.requires.n_bound c.in-Some.ensures.steps c.loop-b.invariant in
    let b : c.from.result < 256 = search rules in
    omega arith

pub loop-b-preserved : goal.loop-b-preserved
loop-b-preserved c = rw c.from.ensures (one_more _ _ c.in-Some.ensures.steps (search rules) c.loop-b.invariant)

pub returns : goal.returns
returns c = all c.in-None.ensures.steps.0 c.loop-b.invariant
