-- `unseen` meets its contract. The loop's invariant: the ids in `to`, and then those of `from` from i on that are not seen, are all that are not.
use Rattle.node.proofs.Asking.{picked_all, picked_room, picked_turn, picked_done, unseen_none, unseen_turn}
use Rattle.node.proofs.unseen.Goals as goal

pub loop-i-init : goal.loop-i-init
loop-i-init c = picked_all _ _ _ _ _

pub loop-i-preserved : goal.loop-i-preserved
loop-i-preserved c =
    let m = c.loop-i in
    let room = picked_room _ _ _ _ _ _ _ m.invariant _ c.loop-i-test.true c.requires.n_in_bounds m.auto.to in
    picked_turn _ _ _ _ _ _ _ m.invariant c.loop-i-test.true c.requires.parts room c.is_unseen-there.result
    (unseen_turn _ _ _ _ _ c.is_unseen-there.ensures) _ _ c.add_where-k.ensures.value c.add_where-k.ensures.table_after

pub returns-clause-result_after : goal.returns-clause-result_after
returns-clause-result_after c = picked_done _ _ _ _ _ _ _ c.loop-i.invariant (unseen_none _ _) c.loop-i-test.false
