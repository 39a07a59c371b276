-- Laws of lists: what a run of stores puts, and what it leaves as it was.
use Rattle.std.specs.Prelude.{ℕ, zero, suc, ◌+◌, ◌-◌, ◌≤◌, ◌≡◌, refl, List, [], ◌∷◌, ◌++◌, map, length, take, drop, set}
use Rattle.std.proofs.Common.{ap, ◌∙◌, append_assoc, arith, take_at, drop_at, length-take-le, drop-set-lt}
use Rattle.std.proofs.lemmas.List.Edits.{sets, sets-eq}
use Rattle.std.proofs.lemmas.List.{drop-set-add, take-set-le}

module _ {A : Type 0} where
  -- what lies after it
  pub drop-sets : (l : List A) (i : ℕ) (vs : List A) (a : ℕ) → i + length vs ≤ a → drop a (sets l i vs) ≡ drop a l
  drop-sets l i [] a h = refl
  drop-sets l i (v ∷ vs) a h = drop-sets (set l i v) (suc i) vs a (omega arith) ∙ drop-set-lt a l i v (omega arith)

  -- n from a on, in front of it
  part-set : (l : List A) (i : ℕ) (v : A) (n a : ℕ) → a + n ≤ i → take n (drop a (set l i v)) ≡ take n (drop a l)
  part-set l i v n a h =
      let e : i ≡ a + (i - a) = omega arith in
      ap (λ (j : ℕ). take n (drop a (set l j v))) e ∙ ap (take n) (drop-set-add a l (i - a) v)
      ∙ take-set-le n (drop a l) (i - a) v (omega arith)

  pub part-sets : (l : List A) (i : ℕ) (vs : List A) (n a : ℕ) → a + n ≤ i
      → take n (drop a (sets l i vs)) ≡ take n (drop a l)
  part-sets l i [] n a h = refl
  part-sets l i (v ∷ vs) n a h = part-sets (set l i v) (suc i) vs n a (omega arith) ∙ part-set l i v n a h

  -- and what it puts
  pub put-sets : (l : List A) (i : ℕ) (vs : List A) → i + length vs ≤ length l
      → take (length vs) (drop i (sets l i vs)) ≡ vs
  put-sets l i vs h =
      let t : length (take i l) ≡ i = length-take-le i l (omega arith) in
      rw (sets-eq vs l i h, append_assoc, drop_at (take i l) (vs ++ drop (i + length vs) l) i t)
      (take_at vs (drop (i + length vs) l) (length vs) refl)

pub map-drop : {A B : Type 0} (f : A → B) (k : ℕ) (l : List A) → map f (drop k l) ≡ drop k (map f l)
map-drop f zero l = refl
map-drop f (suc k) [] = refl
map-drop f (suc k) (x ∷ l) = map-drop f k l

pub map-take : {A B : Type 0} (f : A → B) (k : ℕ) (l : List A) → map f (take k l) ≡ take k (map f l)
map-take f zero l = refl
map-take f (suc k) [] = refl
map-take {B = B} f (suc k) (x ∷ l) = ap (λ (m : List B). f x ∷ m) (map-take f k l)
