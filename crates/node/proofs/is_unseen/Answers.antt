-- `node::is_unseen` meets its contract: the form of a signed message is looked for, and that of an unsigned one where it counts.
use Rattle.node.proofs.Steps.{signed-seen, unsigned-counts, unsigned-not}
use Rattle.node.proofs.is_unseen.Goals as goal

pub returns-then-is_seen : goal.returns-then-is_seen
returns-then-is_seen c = signed-seen _ _ c.args.id.now _ c.is_seen.ensures c.if-is_seen.true

pub returns-then-allows_unsigned : goal.returns-then-allows_unsigned
returns-then-allows_unsigned c =
    unsigned-counts _ _ c.args.id.now _ c.is_seen.ensures _ c.allows_unsigned.ensures c.if-is_seen.false
    c.if-allows_unsigned.true _ c.is_seen-then-allows_unsigned.ensures

pub returns : goal.returns
returns c =
    unsigned-not _ _ c.args.id.now _ c.is_seen.ensures _ c.allows_unsigned.ensures c.if-is_seen.false
    c.if-allows_unsigned.false
