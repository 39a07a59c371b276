-- `text::put_numbers` meets its contract: where it has the room, it is spelt there.
use mathlib.Core.Path.{sym, ◌∙◌}
use borrow.Author.Tests.{leb-true}
use Rattle.text.proofs.Room.{fits, short}
use Rattle.text.proofs.put_numbers.Goals as goal

pub spell_numbers-requires : goal.spell_numbers-requires
spell_numbers-requires c = leb-true _ _ (sym c.has_room.ensures ∙ c.if-has_room.true)

pub returns-then-has_room : goal.returns-then-has_room
returns-then-has_room c =
    let h = fits (sym c.has_room.ensures ∙ c.if-has_room.true) c.spell_numbers.ensures in record { value = h.0; out_after = h.1 }

pub returns : goal.returns
returns c =
    let h = short _ _ _ _ (sym c.has_room.ensures ∙ c.if-has_room.false) in record { value = h.0; out_after = h.1 }
