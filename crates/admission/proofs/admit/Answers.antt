-- `admission::admit` meets its contract: the topics are found in the mode of the flags, and then it is weighed.
use Rattle.admission.proofs.admit.Goals as goal

pub weigh-requires : goal.weigh-requires
weigh-requires c = (rw c.mode_of.ensures at c.topics_of-t.ensures).topics
