-- The loop of spell_hex: two digits more.
use Prim.Native.Nat.{ℕ, suc, ◌+◌, ◌/◌, ◌%◌, ◌≤◌, ◌<◌}
use mathlib.Core.Path.{◌≡◌}
use mathlib.Core.List.{List}
use native.Mathlib.Numerals.{add-one}
use native.Mathlib.Omega.{arith}
use lib.ListN.{length, drop, get_or, set, drop_of_length-le}
use lib.Seq.{drop-cons, sets}
use Rattle.io.specs.Digits.{hex_digit_ascii}
use Rattle.text.specs.Line.{hex}

pub turn : (out s : List ℕ) (i j x y : ℕ) → j < length s → x ≡ hex_digit_ascii (get_or s j 0 / 16) → y ≡ hex_digit_ascii (get_or s j 0 % 16) → sets (set (set out i x) (i + 1) y) (i + 2) (hex (drop (j + 1) s)) ≡ sets out i (hex (drop j s))
unfolding hex
turn out s i j x y h p q = let e : i + 2 ≡ suc (suc i) = omega arith in rw (drop-cons s j 0 h, add-one j, add-one i, e, p, q)

pub done : (out s : List ℕ) (i j : ℕ) → length s ≤ j → out ≡ sets out i (hex (drop j s))
unfolding hex
done out s i j h = rw (drop_of_length-le s h)
