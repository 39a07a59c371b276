-- `inspect::lists::put_row` meets its contract: each test says that the row is bad, or that it ends where its words do.
use Prim.Native.Nat.{◌+◌}
use native.Mathlib.Omega.{arith}
use lib.ListN.{length}
use borrow.Author.Rules.{rules}
use Rattle.inspect.proofs.Rows.{room-there, room-short, row-bad, row_cut, row_masked, row-past, row-there}
use Rattle.inspect.proofs.lists.put_row.Goals as goal

pub overflow_add-at : goal.overflow_add-at
overflow_add-at c =
    let a = c.args in
    let h = room-there _ (a.at + 18) (length a.s.now) c.has_room.ensures c.if-not-has_room.false in
    omega (arith, h)

pub returns-then-mask-gt63 : goal.returns-then-mask-gt63
returns-then-mask-gt63 c =
    row-bad _ _ _ _ _ (row_masked _ _ _ (room-there _ _ _ c.has_room.ensures c.if-not-has_room.false) c.little_at-mask.ensures c.if-mask-gt63.true)

pub put_words-end-requires : goal.put_words-end-requires
put_words-end-requires c =
    let a = c.args in
    let h = room-there _ (a.at + 18) (length a.s.now) c.has_room.ensures c.if-not-has_room.false in
    (omega (arith, h), search rules)

pub returns-then-s-end : goal.returns-then-s-end
returns-then-s-end c =
    row-bad _ _ _ _ _
    (row-past _ _ _ _ (room-there _ _ _ c.has_room.ensures c.if-not-has_room.false) c.little_at-mask.ensures c.if-mask-gt63.false
    c.put_words-end.ensures.value c.if-s-end.true)

pub returns : goal.returns
returns c =
    let m = c.little_at-mask.ensures in
    record {
      answer =
          row-there _ _ _ _ (room-there _ _ _ c.has_room.ensures c.if-not-has_room.false) m c.if-mask-gt63.false c.put_words-end.ensures.value c.if-s-end.false;
      words = λ p k. rw (← m) c.put_words-end.ensures.table_after;
    }

pub returns-then-not-has_room : goal.returns-then-not-has_room
returns-then-not-has_room c = row-bad _ _ _ _ _ (row_cut _ _ (room-short _ _ _ c.has_room.ensures c.if-not-has_room.true))
