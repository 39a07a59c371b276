-- `node::Node::refused` meets its contract: a node that keeps nothing.
use mathlib.Core.Path.{refl, ◌∙◌}
use Rattle.node.proofs.Answers.{fresh-is, default_cache}
use Rattle.node.proofs.Node.refused.Goals as goal

pub returns : goal.returns
returns c =
    record {
      answer_value = refl;
      node_value = fresh-is 0 0 1 0 0 _ _ c.new.ensures (c.new-begun.ensures.cache ∙ default_cache);
    }
