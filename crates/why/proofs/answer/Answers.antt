-- `why::answer` is safe and ends: a gateway has a node's bytes.
use mathlib.Core.Path.{sym, ◌∙◌}
use Rattle.why.proofs.Ending.{has-node}
use Rattle.why.proofs.answer.Goals as goal

pub take_gateway-requires : goal.take_gateway-requires
take_gateway-requires c = has-node _ _ _ (sym c.ends_run.ensures ∙ c.if-ends_run.false) c.if-kind-eq13.true
