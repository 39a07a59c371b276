-- `lines::put_refusal` meets its contract: where there is room, the refusal and its place.
use Prim.Native.Nat.{◌+◌, ◌≤◌}
use mathlib.Core.Path.{refl, sym, ◌∙◌}
use native.Mathlib.Omega.{arith}
use lib.ListN.{length}
use borrow.Author.Tests.{leb-true, leb-false}
use Rattle.text.specs.Laws.{puts_then, puts_as}
use Rattle.lines.specs.Laws.{wrote_puts, puts_wrote, wrote_short}
use Rattle.lines.proofs.put_refusal.Goals as goal

pub put_spot-requires : goal.put_spot-requires
put_spot-requires c =
    let a = c.args in
    let h : a.at + 182 ≤ length a.out.now = leb-true _ _ (sym c.has_room.ensures ∙ c.if-has_room.true) in
    omega (arith, h)

pub returns-then-has_room : goal.returns-then-has_room
returns-then-has_room c =
    let a = c.args in
    let h : a.at + 182 ≤ length a.out.now = leb-true _ _ (sym c.has_room.ensures ∙ c.if-has_room.true) in
    puts_wrote h
    (puts_as refl (omega arith)
    (puts_then (wrote_puts (omega (arith, h)) c.put_refused-i.ensures) c.put_spot.ensures))

pub returns : goal.returns
returns c = wrote_short 182 _ _ _ (leb-false _ _ (sym c.has_room.ensures ∙ c.if-has_room.false))
