-- `protobuf::read_value` meets its contract: a part that was read ends behind its start.
use Rattle.protobuf.specs.Laws.{part-fits}
use Rattle.protobuf.proofs.read_value.Goals as goal

pub overflow_sub-value : goal.overflow_sub-value
overflow_sub-value c = (part-fits c.args.input.now c.args.tag_end _ _ c.in_ok-start-in-2.ensures).1
