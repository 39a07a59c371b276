-- `basis::put_little` meets its contract: where it has the room, the bytes are written there.
use mathlib.Core.Path.{sym, ◌∙◌}
use native.Mathlib.Omega.{arith}
use borrow.Author.Tests.{leb-true}
use Rattle.basis.specs.Lists.{end_short, set-short}
use Rattle.basis.proofs.Little.{little-put}
use Rattle.basis.proofs.put_little.Goals as goal

pub spell_little-requires : goal.spell_little-requires
spell_little-requires c = leb-true _ _ (sym c.has_room.ensures ∙ c.if-not-has_room.false)

pub overflow_add-result : goal.overflow_add-result
overflow_add-result c = let l = leb-true _ _ (sym c.has_room.ensures ∙ c.if-not-has_room.false) in omega arith

pub returns-then-not-has_room : goal.returns-then-not-has_room
returns-then-not-has_room c =
    let t = sym c.has_room.ensures ∙ c.if-not-has_room.true in record { answer = sym (end_short _ _ _ _ t); lent = sym (set-short _ _ _ _ t) }

pub returns : goal.returns
returns c = little-put _ _ _ _ _ (sym c.has_room.ensures ∙ c.if-not-has_room.false) c.spell_little.ensures
