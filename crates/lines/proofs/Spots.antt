-- What the pieces of a place make together.
use Prim.Native.Nat.{ℕ}
use mathlib.Core.Path.{◌≡◌, refl, sym, ◌∙◌}
use mathlib.Core.List.{List, [], ◌∷◌, ◌++◌}
use mathlib.Core.Bool.{Bool, true, false, cond}
use mathlib.Core.Logic.{◌≢◌}
use native.Mathlib.Omega.{arith}
use lib.ListN.{length, take}
use lib.Dec.{eqb}
use Rattle.std.specs.Prelude.{Option, Some, None}
use Rattle.basis.specs.declared.Spot.{Spot}
use Rattle.basis.specs.Spot.{fields_of}
use Rattle.text.specs.Line.{number, numbers}
use Rattle.lines.specs.Lines.{fields_text, spot_text}

-- ---- their numbers: that many of three
kept : (p q r : Bool) (a b c : ℕ)
    → take (length (cond p [] (a ∷ cond q [] (b ∷ cond r [] (c ∷ []))))) (a ∷ b ∷ c ∷ [])
    ≡ cond p [] (a ∷ cond q [] (b ∷ cond r [] (c ∷ [])))
kept true q r a b c = refl
kept false true r a b c = refl
kept false false true a b c = refl
kept false false false a b c = refl

counted : (s : Spot) → take (length (fields_of (Some s))) (s.outer ∷ s.middle ∷ s.inner ∷ []) ≡ fields_of (Some s)
counted s = kept (eqb s.outer 0) (eqb s.middle 0) (eqb s.inner 0) s.outer s.middle s.inner

none : (ns : List ℕ) → length ns ≡ 0 → [] ≡ fields_text ns
unfolding fields_text
none [] e = refl
none (n ∷ ns) e = absurd (omega arith)

some : (ns : List ℕ) → length ns ≢ 0 → (32 ∷ 105 ∷ 110 ∷ []) ++ numbers ns ≡ fields_text ns
unfolding fields_text
some [] h = absurd (h refl)
some (n ∷ ns) h = refl

module _ (s : Spot) (n : ℕ) (e : n ≡ length (fields_of (Some s))) where
  pub fields-none : n ≡ 0 → [] ≡ fields_text (fields_of (Some s))
  fields-none z = none (fields_of (Some s)) (sym e ∙ z)

  pub fields-some : n ≢ 0
      → (32 ∷ 105 ∷ 110 ∷ []) ++ numbers (take n (s.outer ∷ s.middle ∷ s.inner ∷ [])) ≡ fields_text (fields_of (Some s))
  fields-some h = rw (e, counted s) (some (fields_of (Some s)) (λ z. h (e ∙ z)))

-- ---- the place
pub nowhere : (spot : Option Spot) → spot ≡ None → [] ≡ spot_text spot
unfolding spot_text
nowhere spot e = rw e

pub somewhere : (spot : Option Spot) (s : Spot) → spot ≡ Some s
    → (32 ∷ 97 ∷ 116 ∷ []) ++ (number s.offset ++ fields_text (fields_of (Some s))) ≡ spot_text spot
unfolding spot_text
somewhere spot s e = rw e

-- ---- either way of a test
pub in_full : (t : Bool) (xs ys : List ℕ) → t ≡ true → xs ≡ cond t xs ys
in_full t xs ys e = rw e

pub in_short : (t : Bool) (xs ys : List ℕ) → t ≡ false → ys ≡ cond t xs ys
in_short t xs ys e = rw e
