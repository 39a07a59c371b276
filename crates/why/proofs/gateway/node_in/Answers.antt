-- `why::gateway::node_in` meets its contract: the bytes are copied.
use Rattle.lines.specs.Laws.{prefix}
use Rattle.stored.specs.Layout.{node_size}
use Rattle.why.proofs.Giving.{node_copied}
use borrow.Author.Rules.{rules}
use Rattle.why.proofs.gateway.node_in.Goals as goal

pub slice_bounds-put_bytes-end-2 : goal.slice_bounds-put_bytes-end-2
slice_bounds-put_bytes-end-2 c = prefix node_size c.args.content.now c.requires

pub returns : goal.returns
returns c =
    node_copied c.args.content.now _ _ _ c.requires (search rules)
    c.put_bytes.ensures.lent c.load.ensures
