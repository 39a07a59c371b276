-- `why::gateway::given` meets its contract: too few bytes for the seen store, or what the node says of both.
use Rattle.lines.specs.Laws.{prefix}
use Rattle.why.proofs.Giving.{short, enough}
use borrow.Author.Rules.{rules}
use Rattle.why.proofs.gateway.given.Goals as goal

pub returns-then-rest-node : goal.returns-then-rest-node
returns-then-rest-node c = short _ _ c.if-rest-node.true

pub slice_bounds-lent-end : goal.slice_bounds-lent-end
slice_bounds-lent-end c = prefix _ _ (search rules)

pub returns : goal.returns
returns c = enough _ _ _ c.if-rest-node.false c.lent.ensures
