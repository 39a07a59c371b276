-- The contract of a call that answers and leaves one lent part, as a record of what it says of both; and that it leaves
-- no choice: two results that meet it are the same.
use Rattle.std.specs.Prelude.{ℕ, ◌≡◌, List}
use Rattle.std.proofs.Common.{sym, ◌∙◌}

-- it answers r, which is to be a, and leaves l, which is to be b
pub record Leaves {A : Type 0} (a : A) (b : List ℕ) (r : A) (l : List ℕ) : Type 0 where
  pub answer : r ≡ a
  pub lent : l ≡ b

pub one_left : {A : Type 0} {a : A} {b : List ℕ} {r s : A} {l m : List ℕ} → Leaves a b r l → Leaves a b s m → (r ≡ s)
    × (l ≡ m)
one_left p q = (p.answer ∙ sym q.answer, p.lent ∙ sym q.lent)
