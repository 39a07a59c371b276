-- The public writers: where there is room, what was spelt there; else nothing.
use Prim.Native.Nat.{ℕ, ◌+◌, ◌*◌}
use mathlib.Core.Path.{◌≡◌, sym, ◌∙◌}
use mathlib.Core.List.{List}
use mathlib.Core.Bool.{true, false}
use native.Mathlib.Omega.{arith}
use lib.ListN.{length}
use lib.Dec.{leb}
use borrow.Author.Tests.{leb-true, leb-false, le-leb, lt-leb}
use Rattle.basis.specs.Writing.{end_in, set_in}
use Rattle.basis.specs.Lists.{end_fits, set-fits, end_short, set-short}
use Rattle.text.specs.Line.{Puts}

pub fits : {room at end : ℕ} {xs b a : List ℕ} → leb (at + room) (length b) ≡ true → Puts room xs b at a end → (end ≡ end_in room at xs b) × (a ≡ set_in room at xs b)
fits {room} {at} {xs = xs} {b = b} t p = let h = leb-true (at + room) (length b) t in (p.place ∙ sym (end_fits room at xs b h), p.bytes ∙ sym (set-fits room at xs b h))

pub short : (room at : ℕ) (xs b : List ℕ) → leb (at + room) (length b) ≡ false → (at ≡ end_in room at xs b) × (b ≡ set_in room at xs b)
short room at xs b t = (sym (end_short room at xs b t), sym (set-short room at xs b t))

-- twice n bytes, in two steps
pub twice : (at n l : ℕ) → leb (at + n + n) l ≡ true → leb (at + 2 * n) l ≡ true
twice at n l t = le-leb (at + 2 * n) l (omega (arith, leb-true (at + n + n) l t))

pub not-once : (at n l : ℕ) → leb (at + n) l ≡ false → leb (at + 2 * n) l ≡ false
not-once at n l t = lt-leb (at + 2 * n) l (omega (arith, leb-false (at + n) l t))

pub not-twice : (at n l : ℕ) → leb (at + n + n) l ≡ false → leb (at + 2 * n) l ≡ false
not-twice at n l t = lt-leb (at + 2 * n) l (omega (arith, leb-false (at + n + n) l t))
