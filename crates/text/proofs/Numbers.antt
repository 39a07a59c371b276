-- spell_numbers: the texts that are put, for each count.
use Prim.Native.Nat.{ℕ, ◌≤◌}
use mathlib.Core.Path.{◌≡◌, sym}
use mathlib.Core.List.{[], ◌∷◌, ◌++◌, append-nil, append_assoc}
use lib.ListN.{take}
use lib.Seq.{take_all}
use Rattle.text.specs.Line.{number, numbers}

pub none : (n a b c : ℕ) → n ≡ 0 → [] ≡ numbers (take n (a ∷ b ∷ c ∷ []))
unfolding numbers
none n a b c e = rw e

pub one : (n a b c : ℕ) → n ≡ 1 → number a ≡ numbers (take n (a ∷ b ∷ c ∷ []))
unfolding numbers
one n a b c e = rw e (sym (append-nil (number a)))

pub two : (n a b c : ℕ) → n ≡ 2 → number a ++ number b ≡ numbers (take n (a ∷ b ∷ c ∷ []))
unfolding numbers
two n a b c e = rw (e, append-nil (number b))

pub three : (n a b c : ℕ) → 3 ≤ n → (number a ++ number b) ++ number c ≡ numbers (take n (a ∷ b ∷ c ∷ []))
unfolding numbers
three n a b c h = rw (take_all n (a ∷ b ∷ c ∷ []) h, append-nil (number c)) (append_assoc (number a) (number b) (number c))
