-- `admission::limits` meets its contract.
use Rattle.admission.proofs.Turns.{counts, longs, limit_count, limit_long, limit_size, limit_fit}
use Rattle.admission.proofs.limits.Goals as goal

pub returns-then-t-eq0 : goal.returns-then-t-eq0
returns-then-t-eq0 c =
    let a = c.args in
    let pre = c.requires in
    limit_count a.mode _ _ _ _ (counts a.mode _ pre) (longs a.mode _ pre) c.then-t-eq0.either

pub returns-then-t-ne0 : goal.returns-then-t-ne0
returns-then-t-ne0 c =
    let a = c.args in
    let pre = c.requires in
    limit_long a.mode _ _ _ _ (counts a.mode _ pre) (longs a.mode _ pre) c.if-t-eq0.false
    c.if-t-gt-MAX_TOPICS.false c.if-t-ne0.true

pub returns-then-part-gt-MAX_MESSAGE_SIZE : goal.returns-then-part-gt-MAX_MESSAGE_SIZE
returns-then-part-gt-MAX_MESSAGE_SIZE c =
    let a = c.args in
    let pre = c.requires in
    limit_size a.mode _ _ _ _ (counts a.mode _ pre) (longs a.mode _ pre) c.if-t-eq0.false
    c.if-t-gt-MAX_TOPICS.false c.if-t-ne0.false c.if-part-gt-MAX_MESSAGE_SIZE.true

pub returns : goal.returns
returns c =
    let a = c.args in
    let pre = c.requires in
    limit_fit a.mode _ _ _ _ (counts a.mode _ pre) (longs a.mode _ pre) c.if-t-eq0.false
    c.if-t-gt-MAX_TOPICS.false c.if-t-ne0.false c.if-part-gt-MAX_MESSAGE_SIZE.false
