-- `text::read_header` meets its contract: the tests in their order.
use mathlib.Core.Path.{sym}
use borrow.Author.Tests.{lt-ltb, le-ltb}
use Rattle.text.specs.Record.{header_of}
use Rattle.text.proofs.read_header.Goals as goal

pub returns-then-is_empty : goal.returns-then-is_empty
unfolding header_of
returns-then-is_empty c = simp (sym c.is_empty.ensures, c.if-is_empty.true)

pub returns-then-s-lt4 : goal.returns-then-s-lt4
unfolding header_of
returns-then-s-lt4 c = simp (sym c.is_empty.ensures, c.if-is_empty.false, lt-ltb _ _ c.if-s-lt4.true)

pub returns-then-most-len : goal.returns-then-most-len
unfolding header_of
returns-then-most-len c =
    simp (sym c.is_empty.ensures, c.if-is_empty.false, le-ltb _ _ c.if-s-lt4.false, sym c.little_at-len.ensures, lt-ltb _ _ c.if-most-len.true)

pub returns-then-s-lt6 : goal.returns-then-s-lt6
unfolding header_of
returns-then-s-lt6 c =
    simp (sym c.is_empty.ensures, c.if-is_empty.false, le-ltb _ _ c.if-s-lt4.false, sym c.little_at-len.ensures, le-ltb _ _ c.if-most-len.false, lt-ltb _ _ c.if-s-lt6.true)

pub returns : goal.returns
unfolding header_of
returns c =
    simp (sym c.is_empty.ensures, c.if-is_empty.false, le-ltb _ _ c.if-s-lt4.false, sym c.little_at-len.ensures, le-ltb _ _ c.if-most-len.false, le-ltb _ _ c.if-s-lt6.false, sym c.little_at-kind.ensures)
