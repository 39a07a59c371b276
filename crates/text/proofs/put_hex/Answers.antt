-- `text::put_hex` meets its contract: where it has the room, it is spelt there.
use Prim.Native.Nat.{◌+◌}
use mathlib.Core.Path.{sym, ◌∙◌}
use native.Mathlib.Omega.{arith}
use lib.ListN.{length}
use borrow.Author.Tests.{leb-true}
use Rattle.text.proofs.Room.{fits, short, twice, not-once, not-twice}
use Rattle.text.proofs.put_hex.Goals as goal

pub overflow_add-at : goal.overflow_add-at
overflow_add-at c =
    let a = c.args in omega (arith, leb-true (a.at + length a.s.now) (length a.out.now) (sym c.has_room.ensures ∙ c.if-has_room.true))

pub spell_hex-requires : goal.spell_hex-requires
spell_hex-requires c =
    leb-true _ _ (twice c.args.at (length c.args.s.now) _ (sym c.has_room-then-has_room.ensures ∙ c.if-has_room-2.true))

pub returns-then-has_room-2 : goal.returns-then-has_room-2
returns-then-has_room-2 c =
    let h = fits (twice c.args.at (length c.args.s.now) _ (sym c.has_room-then-has_room.ensures ∙ c.if-has_room-2.true)) c.spell_hex.ensures in record { value = h.0; out_after = h.1 }

pub returns-else-has_room-2 : goal.returns-else-has_room-2
returns-else-has_room-2 c =
    let h = short _ _ _ _ (not-twice c.args.at (length c.args.s.now) _ (sym c.has_room-then-has_room.ensures ∙ c.if-has_room-2.false)) in record { value = h.0; out_after = h.1 }

pub returns-else-has_room : goal.returns-else-has_room
returns-else-has_room c =
    let h = short _ _ _ _ (not-once c.args.at (length c.args.s.now) _ (sym c.has_room.ensures ∙ c.if-has_room.false)) in record { value = h.0; out_after = h.1 }
