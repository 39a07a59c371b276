-- `stored::read_halves` meets its contract. The invariant: the first i numbers are there.
use mathlib.Core.Path.{refl}
use borrow.Author.Rules.{rules}
use Rattle.stored.specs.Layout.{gathered}
use Rattle.stored.proofs.Steps.{gathered-turn, gathered-done}
use Rattle.stored.proofs.read_halves.Goals as goal

pub loop-i-init : goal.loop-i-init
unfolding gathered
loop-i-init c = refl

pub loop-i-preserved : goal.loop-i-preserved
loop-i-preserved c =
    let a = c.args in
    let l = c.loop-i in
    gathered-turn 2 a.s.now l.out a.at l.i _ (search rules) l.invariant c.read_half.ensures

pub returns : goal.returns
returns c =
    let a = c.args in
    let l = c.loop-i in
    gathered-done 2 a.s.now l.out a.at l.i _ (search rules) (search rules) (search rules) l.invariant
