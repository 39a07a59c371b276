-- UTF-8 as a test that goes from byte to byte; specs/Laws.antt joins it to the grammar of the RFC.
use Rattle.std.specs.Prelude.{Option, Some, None, ℕ, ◌-◌, List, [], ◌∷◌, Bool, false, cond, ltb, leb, eqb}
use Rattle.utf8.specs.declared.Want.{Want}

-- n more bytes of this character, the first of them from lo to hi; or, where n is 0, the first byte of a character
abbrev pub wanting : ℕ → ℕ → ℕ → Option Want
wanting n lo hi = Some (record { tails = n; low = lo; high = hi })

-- after the first byte of a character
abbrev pub lead_of : ℕ → Option Want
lead_of a =
    cond (leb a 0x7f) (wanting 0 0x80 0xbf)
    (cond (ltb a 0xc2) None
    (cond (leb a 0xdf) (wanting 1 0x80 0xbf)
    (cond (eqb a 0xe0) (wanting 2 0xa0 0xbf)
    (cond (eqb a 0xed) (wanting 2 0x80 0x9f)
    (cond (leb a 0xef) (wanting 2 0x80 0xbf)
    (cond (eqb a 0xf0) (wanting 3 0x90 0xbf)
    (cond (leb a 0xf3) (wanting 3 0x80 0xbf)
    (cond (eqb a 0xf4) (wanting 3 0x80 0x8f) None))))))))

abbrev pub step_of : Option Want → ℕ → Option Want
step_of (Some w) b =
    cond (eqb w.tails 0) (lead_of b)
    (cond (ltb b w.low) None (cond (ltb w.high b) None (wanting (w.tails - 1) 0x80 0xbf)))
step_of None b = None

abbrev pub whole : Option Want → Bool
whole (Some w) = eqb w.tails 0
whole None = false

unfoldable pub run : Option Want → List ℕ → Bool
run w [] = whole w
run w (b ∷ s) = run (step_of w b) s

unfoldable pub is_utf8 : List ℕ → Bool
is_utf8 s = run (wanting 0 0x80 0xbf) s
