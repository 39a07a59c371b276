-- `cached` meets its contract. The loop's invariant: the messages in `to`, and then those that are cached of the ids in `from` from i on, are all.
use Rattle.node.proofs.Serving.{found_all, found-room, found_turn, found-done}
use Rattle.node.proofs.cached.Goals as goal

pub loop-i-init : goal.loop-i-init
loop-i-init c = found_all _ _ _ _ _ _ _

pub loop-i-preserved : goal.loop-i-preserved
loop-i-preserved c =
    let m = c.loop-i in
    let room = found-room _ _ _ _ _ _ _ _ _ _ m.invariant _ c.loop-i-test.true c.requires.n_in_bounds m.auto.to in
    found_turn _ _ _ _ _ _ _ _ _ _ m.invariant c.loop-i-test.true c.requires.sound c.requires.cap_le_max_messages.2 room _
    c.find_from-row.ensures _ _ (c.add_message-k.ensures.value, c.add_message-k.ensures.to_after)

pub returns-clause-by_index : goal.returns-clause-by_index
returns-clause-by_index c = found-done _ _ _ _ _ _ _ _ _ _ c.loop-i.invariant c.loop-i-test.false
