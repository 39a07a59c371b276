use Rattle.mcache.proofs.Answers.{id-room, id_wrote}
use Rattle.mcache.proofs.MessageCache.id_at.Goals as goal

pub returns-then-out-id : goal.returns-then-out-id
returns-then-out-id c = let a = c.args in id-room a.self a.row a.out.now _ c.id_at-id.ensures c.if-out-id.true

pub returns : goal.returns
returns c =
    let a = c.args in
    id_wrote a.self a.row a.out.now _ c.id_at-id.ensures
    c.if-out-id.false _ c.put_bytes.ensures.lent
