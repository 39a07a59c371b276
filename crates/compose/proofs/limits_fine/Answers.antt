-- `compose::limits_fine` meets its contract: the size, where the topics pass.
use Rattle.compose.proofs.Parts.{measured}
use Rattle.compose.proofs.Tests.{limits-large, limits-fit}
use Rattle.compose.proofs.limits_fine.Goals as goal

pub returns-then-len-gt-MAX_MESSAGE_SIZE : goal.returns-then-len-gt-MAX_MESSAGE_SIZE
returns-then-len-gt-MAX_MESSAGE_SIZE c =
    limits-large _ _ c.topics_from-t.ensures c.if-t-eq0.false c.if-t-gt-MAX_TOPICS.false c.if-t-ne0.false _
    (measured _ _ _ _ c.emit_message-len.ensures) c.if-len-gt-MAX_MESSAGE_SIZE.true

pub returns : goal.returns
returns c =
    limits-fit _ _ c.topics_from-t.ensures c.if-t-eq0.false c.if-t-gt-MAX_TOPICS.false c.if-t-ne0.false _
    (measured _ _ _ _ c.emit_message-len.ensures) c.if-len-gt-MAX_MESSAGE_SIZE.false
