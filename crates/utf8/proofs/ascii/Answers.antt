-- `utf8::ascii` meets its contract: the joined bits are at least each byte.
use Rattle.utf8.proofs.Leave.{joined}
use Rattle.utf8.proofs.ascii.Goals as goal

pub loop-b-preserved : goal.loop-b-preserved
loop-b-preserved c = joined _ _ _ c.loop-b.invariant
