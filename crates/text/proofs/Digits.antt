-- spell_decimal: what io::decimal leaves is the decimal text, of at most 20 bytes.
use Prim.Native.Nat.{ℕ, ◌^◌, ◌≤◌, ◌<◌}
use mathlib.Core.Path.{◌≡◌, ap, ◌∙◌}
use mathlib.Core.List.{List}
use native.Mathlib.Omega.{arith}
use lib.ListN.{length, take}
use Rattle.io.specs.Digits.{last_digits, IsDigitCount}
use Rattle.text.specs.Line.{decimal}
use Rattle.text.specs.Laws.{fewest_decimal, decimal_twenty}

pub shown : (n k : ℕ) (text : List ℕ) → n < 2 ^ 64 → (IsDigitCount 10 1 n k) × (take k text ≡ last_digits 10 k n) → (take k text ≡ decimal n) × (length (take k text) ≤ 20)
shown n k text h p = let e = p.1 ∙ fewest_decimal n k p.0 in (e, omega (arith, ap length e, decimal_twenty n h))
