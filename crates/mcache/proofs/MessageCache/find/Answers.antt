use Rattle.mcache.proofs.Steps.{index_is}
use Rattle.mcache.proofs.MessageCache.find.Goals as goal

pub returns : goal.returns
returns c =
    index_is c.args.self c.args.id.now c.find_from.result (rw c.ring-ring.ensures at c.find_from.ensures)
