use Rattle.std.proofs.Common.{refl}
use Rattle.mcache.specs.State.{fresh}
use Rattle.mcache.proofs.MessageCache.empty.Goals as goal

pub returns : goal.returns
unfolding fresh
returns c = refl
