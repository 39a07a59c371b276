-- `peer_id::told::told_varint` meets its contract: in each arm the answer is the one that was matched.
use mathlib.Core.Path.{sym, ap, ◌∙◌}
use Rattle.peer_id.specs.Told.{varint_told}
use Rattle.peer_id.proofs.told.told_varint.Goals as goal

pub returns-in-BufferTooShort : goal.returns-in-BufferTooShort
returns-in-BufferTooShort c = c.none.ensures ∙ ap varint_told (sym c.in-BufferTooShort.is)

pub returns-in-Overflow : goal.returns-in-Overflow
returns-in-Overflow c = c.none-in-Overflow.ensures ∙ ap varint_told (sym c.in-Overflow.is)

pub returns-in-NonCanonical : goal.returns-in-NonCanonical
returns-in-NonCanonical c = c.none-in-NonCanonical.ensures ∙ ap varint_told (sym c.in-NonCanonical.is)
