use Rattle.mcache.proofs.Steps.{dropped-is}
use Rattle.mcache.proofs.MessageCache.without.Goals as goal

pub returns : goal.returns
returns c = dropped-is c.args.k c.place-start.result c.args.self (rw c.ring.ensures at c.place-start.ensures)
