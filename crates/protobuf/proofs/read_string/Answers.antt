-- `protobuf::read_string` meets its contract: the part lies within the input.
use Rattle.protobuf.specs.Laws.{part-fits}
use Rattle.protobuf.proofs.read_string.Goals as goal

pub slice_bounds-is_utf8-count : goal.slice_bounds-is_utf8-count
slice_bounds-is_utf8-count c = (part-fits c.args.input.now c.args.idx _ _ c.in_ok-start.ensures).1

pub slice_bounds-is_utf8-start : goal.slice_bounds-is_utf8-start
slice_bounds-is_utf8-start c = (part-fits c.args.input.now c.args.idx _ _ c.in_ok-start.ensures).1

pub slice_bounds-is_utf8-end : goal.slice_bounds-is_utf8-end
slice_bounds-is_utf8-end c = (part-fits c.args.input.now c.args.idx _ _ c.in_ok-start.ensures).2
