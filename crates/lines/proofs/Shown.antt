-- What the pieces of a line that shows bytes make together.
use Prim.Native.Nat.{ℕ, ◌≤◌, ◌<◌}
use mathlib.Core.Path.{◌≡◌}
use mathlib.Core.List.{List, [], ◌∷◌, ◌++◌}
use mathlib.Core.Logic.{◌≢◌}
use lib.ListN.{length, take}
use borrow.Author.Tests.{lt-ltb, le-ltb, eq-eqb, ne_eqb}
use Rattle.text.specs.Line.{hex}
use Rattle.lines.specs.Lines.{shown_text}

pub shown-none : (s : List ℕ) (n : ℕ) → n ≡ 0 → [] ≡ shown_text s n
unfolding shown_text
shown-none s n e = simp (eq-eqb _ _ e)

pub shown-past : (s : List ℕ) (n : ℕ) → n ≢ 0 → length s < n → [] ≡ shown_text s n
unfolding shown_text
shown-past s n e h = simp (ne_eqb _ _ e, lt-ltb _ _ h)

pub shown-there : (s : List ℕ) (n : ℕ) → n ≢ 0 → n ≤ length s → (32 ∷ []) ++ hex (take n s) ≡ shown_text s n
unfolding shown_text
shown-there s n e h = simp (ne_eqb _ _ e, le-ltb _ _ h)
