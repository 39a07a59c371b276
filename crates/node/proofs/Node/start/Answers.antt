-- `node::Node::start` meets its contract: the message cache's settings are tested by its own start.
use mathlib.Core.Path.{sym, ◌∙◌}
use Rattle.node.proofs.Answers.{no-error, start-refused, start-many, start_fits}
use Rattle.node.proofs.Node.start.Goals.{then-is_err-via-then-is_err, then-is_err-via-else-is_err+then-max_seen-gt-MAX_IDS}
use Rattle.node.proofs.Node.start.Goals as goal

pub returns-then-is_err : goal.returns-then-is_err
returns-then-is_err c =
    let a = c.args in
    elim c.then-is_err.branch [
      | then-is_err-via-then-is_err w ↦
          start-refused a.ttl a.max_seen a.history_len a.max_messages a.flags _ c.new-begun.ensures.answer
          (sym c.is_err.ensures.value ∙ w.if-is_err.true) (c.refused.ensures.answer_value, c.refused.ensures.node_value)
      | then-is_err-via-else-is_err+then-max_seen-gt-MAX_IDS w ↦
          start-many a.ttl a.max_seen a.history_len a.max_messages a.flags w.if-max_seen-gt-MAX_IDS.true
          (c.refused.ensures.answer_value, c.refused.ensures.node_value)
    ]

pub returns : goal.returns
returns c =
    let a = c.args in
    start_fits a.ttl a.max_seen a.history_len a.max_messages a.flags
    (no-error _ (sym c.is_err.ensures.value ∙ c.if-is_err.false) ∙ c.new-begun.ensures.answer) c.if-max_seen-gt-MAX_IDS.false
    _ _ c.new.ensures c.new-begun.ensures.cache
