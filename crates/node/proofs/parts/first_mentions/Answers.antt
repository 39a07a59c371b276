-- `first_mentions` meets its contract. The outer loop's invariant: the parts kept, and then those from i on that are not among them, are all of the
-- parts once. The inner loop's: a part is among those kept where it is among those from j on.
use native.Mathlib.Omega.{arith}
use Rattle.node.specs.Parts.{part_at}
use Rattle.node.proofs.Turns.{named-all, named-done, named_again as again, named_new, look-more, look-here, look_none}
use Rattle.node.proofs.parts.first_mentions.Goals as goal

pub named-init : goal.named-init
named-init c = let a = c.args in named-all a.body.now a.from.now a.n a.to.now

pub named-preserved-then-same : goal.named-preserved-then-same
named-preserved-then-same c =
    let l = c.loop-j in let m = c.named in let a = c.args in
    again _ _ _ _ _ _ m.invariant c.named-test.true
    (look-here (part_at a.body.now a.from.now m.i) a.body.now m.to m.k l.j l.invariant _ c.loop-j-test.true c.same.ensures c.if-same.true)

pub loop-j-preserved : goal.loop-j-preserved
loop-j-preserved c =
    let l = c.loop-j in let m = c.named in let a = c.args in
    look-more (part_at a.body.now a.from.now m.i) a.body.now m.to m.k l.j l.invariant _ c.loop-j-test.true c.same.ensures c.if-same.false

pub named-preserved : goal.named-preserved
named-preserved c =
    let a = c.args in let m = c.named in let l = c.loop-j in
    named_new _ _ _ _ _ _ m.invariant c.named-test.true
    (look_none (part_at a.body.now a.from.now m.i) a.body.now m.to m.k l.j l.invariant c.loop-j-test.false)
    c.requires.parts (omega (arith, m.invariant.fewer, c.requires.n_in_bounds)) _ _ c.add_part-k.ensures.value c.add_part-k.ensures.table_after

pub returns-clause-result_after : goal.returns-clause-result_after
returns-clause-result_after c = named-done _ _ _ _ _ _ c.named.invariant c.named-test.false
