-- `inspect::lists::read_lists` meets its contract: each test says that the content is bad, or the rows do.
use mathlib.Core.Path.{sym, ◌∙◌}
use Rattle.inspect.proofs.Rows.{lists-bad, lists-short, lists-roomy, lists-many, lists-cut, lists-there}
use Rattle.inspect.proofs.lists.read_lists.Goals as goal

pub returns-then-s-lt6 : goal.returns-then-s-lt6
returns-then-s-lt6 c = lists-bad _ _ (lists-short _ c.if-s-lt6.true)

pub returns-then-room-gt65600 : goal.returns-then-room-gt65600
returns-then-room-gt65600 c = lists-bad _ _ (lists-roomy _ _ c.if-s-lt6.false c.little_at-room.ensures c.if-room-gt65600.true)

pub returns-then-count-gt640 : goal.returns-then-count-gt640
returns-then-count-gt640 c =
    lists-bad _ _ (lists-many _ _ _ c.if-s-lt6.false c.little_at-room.ensures c.if-room-gt65600.false c.little_at-count.ensures c.if-count-gt640.true)

pub returns-in_err-start : goal.returns-in_err-start
returns-in_err-start c =
    rw c.from_residual.ensures
    (lists-bad _ _
    (lists-cut _ _ _ c.if-s-lt6.false c.little_at-room.ensures c.if-room-gt65600.false
    c.little_at-count.ensures c.if-count-gt640.false (sym c.in_err-start.was ∙ c.put_rows.ensures.answer)))

pub returns : goal.returns
returns c =
    lists-there _ _ _ _ _ c.if-s-lt6.false c.little_at-room.ensures c.if-room-gt65600.false
    c.little_at-count.ensures c.if-count-gt640.false (rw c.in_ok-start.was at c.put_rows.ensures)
