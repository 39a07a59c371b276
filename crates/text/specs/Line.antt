-- What a line is made of, in ASCII.
use Rattle.std.specs.Prelude.{ℕ, zero, suc, ◌+◌, ◌/◌, ◌%◌, ◌≤◌, ◌≡◌, List, [], ◌∷◌, ◌++◌, cond, length, ltb}
use Rattle.std.proofs.lemmas.List.Edits.{sets}
use Rattle.io.specs.Digits.{hex_digit_ascii, last_digits}

-- xs, of at most `room` bytes, was put at `at`, nothing else was written, and `end` is the place after xs
pub record Puts (room : ℕ) (xs before : List ℕ) (at : ℕ) (after : List ℕ) (end : ℕ) : Type 0 where
  pub bytes : after ≡ sets before at xs
  pub place : end ≡ at + length xs
  pub small : end ≤ at + room

-- how many decimal digits n has; the first number only bounds the recursion, and n itself is always enough
unfoldable pub width : ℕ → ℕ → ℕ
width zero n = 1
width (suc f) n = let r = width f (n / 10) in cond (ltb n 10) 1 (suc r)

-- n in decimal, with no zeros in front
unfoldable pub decimal : ℕ → List ℕ
decimal n = last_digits 10 (width n n) n

-- a blank and a number
unfoldable pub number : ℕ → List ℕ
number n = 32 ∷ decimal n

unfoldable pub numbers : List ℕ → List ℕ
numbers [] = []
numbers (n ∷ ns) = number n ++ numbers ns

-- ` refused`, the refusal's number and its values
unfoldable pub refused : ℕ → List ℕ → List ℕ
refused n values = 32 ∷ 114 ∷ 101 ∷ 102 ∷ 117 ∷ 115 ∷ 101 ∷ 100 ∷ (number n ++ numbers values)

-- two lower-case digits for each byte
unfoldable pub hex : List ℕ → List ℕ
hex [] = []
hex (b ∷ s) = hex_digit_ascii (b / 16) ∷ hex_digit_ascii (b % 16) ∷ hex s
