-- The loops of read_little and spell_little, and what little_at reads where bytes are missing.
use Prim.Native.Nat.{ℕ, suc, ◌+◌, ◌*◌, ◌-◌, ◌/◌, ◌%◌, ◌^◌, ◌≤◌, ◌<◌, min}
use mathlib.Core.Path.{◌≡◌, sym, ap, ◌∙◌}
use mathlib.Core.List.{List, [], ◌∷◌, ◌++◌}
use mathlib.Core.Bool.{true}
use native.Mathlib.Omega.{arith}
use native.Mathlib.Nat.{pow-suc, pow-le-pow_right}
use lib.ListN.{length, take, drop, set, length-drop, drop_of_length-le}
use lib.Seq.{sets, take_all, take-nil}
use lib.Dec.{leb}
use borrow.Author.Tests.{leb-true, leb-false}
use Rattle.std.proofs.lemmas.List.{length_push, nil_from_length}
use Rattle.basis.specs.Cases.{either}
use Rattle.basis.specs.Writing.{end_in, set_in}
use Rattle.basis.specs.Lists.{end_fits, set-fits}
use Rattle.basis.specs.Little.{little, bytes_of, bytes_length_lem}
use Rattle.basis.specs.Unique.{Leaves}

-- ---- reading: the number in all bytes, where some are left and v is the number in those after them, m at most
pub record Read (all n : ℕ) (rest : List ℕ) (v : ℕ) : Type 0 where
  pub whole : all ≡ little rest + 256 ^ length rest * v
  pub within : length rest ≤ n
  pub below : v < 256 ^ (n - length rest)

pub none : (s : List ℕ) (n : ℕ) → length s ≤ n → Read (little s) n s 0
none s n h =
    let z : 0 ≤ n - length s = omega arith in
    let q : 256 ^ 0 ≤ 256 ^ (n - length s) = pow-le-pow_right (omega arith) z in
    record { whole = omega arith; within = h; below = omega arith }

little-push : (s : List ℕ) (b : ℕ) → little (s ++ b ∷ []) ≡ little s + 256 ^ length s * b
unfolding little
little-push [] b = omega arith
little-push (x ∷ s) b = let p = pow-suc 256 (length s) in rw (little-push s b, p) (omega arith)

module _ {a n v : ℕ} {r : List ℕ} where
  -- fewer than 8 bytes leave room for one more
  pub room : (s : List ℕ) (b : ℕ) → n ≤ 8 → r ≡ s ++ b ∷ [] → Read a n r v → v < 2 ^ 56
  room s b h e p =
      let l = ap length e ∙ length_push s b in
      let m : n - length r ≤ 7 = omega (arith, p.within) in
      let q : 256 ^ (n - length r) ≤ 256 ^ 7 = pow-le-pow_right (omega arith) m in
      omega (arith, p.below)

  pub one_more : (s : List ℕ) (b : ℕ) → r ≡ s ++ b ∷ [] → b < 256 → Read a n r v → Read a n s (v * 256 + b)
  one_more s b e h p =
      let l : length r ≡ suc (length s) = omega (arith, ap length e, length_push s b) in
      let q : 256 ^ length r ≡ 256 ^ length s * 256 = rw l (pow-suc 256 (length s)) in
      let d : n - length s ≡ suc (n - length r) = omega (arith, p.within) in
      record {
        whole = omega (arith, rw (q, ap little e ∙ little-push s b) at p.whole);
        within = omega (arith, p.within);
        below = rw d (omega (arith, pow-suc 256 (n - length r), p.below));
      }

  pub all : length r ≡ 0 → Read a n r v → v ≡ a
  unfolding little
  all e p = sym (p.whole ∙ rw (nil_from_length r e) (omega arith))

pub past : (s : List ℕ) (at n : ℕ) → length s < at → 0 ≡ little (take n (drop at s))
unfolding little
past s at n h = let l : length s ≤ at = omega arith in rw (drop_of_length-le s l, take-nil n)

pub there : (s : List ℕ) (at n m : ℕ) → at ≤ length s → m ≡ min n (length s - at) → little (take m (drop at s)) ≡ little (take n (drop at s))
there s at n m h e =
    either (leb n (length s - at)) (λ t. let q = leb-true n (length s - at) t in let k : m ≡ n = omega arith in rw k)
    (λ t.
    let q = leb-false n (length s - at) t in
    let a : length (drop at s) ≤ n = rw (length-drop at s) (omega arith) in
    let b : length (drop at s) ≤ m = rw (length-drop at s) (omega arith) in
    rw (take_all n (drop at s) a, take_all m (drop at s) b))

-- ---- writing: one byte more
pub byte-written : (l : List ℕ) (at n i v : ℕ) → i < n → sets l (at + i) (bytes_of (n - i) v) ≡ sets (set l (at + i) (v % 256)) (at + (i + 1)) (bytes_of (n - (i + 1)) (v / 256))
unfolding bytes_of
byte-written l at n i v h =
    let a : n - i ≡ suc (n - (i + 1)) = omega arith in
    let b : at + (i + 1) ≡ suc (at + i) = omega arith in
    rw (a, b)

pub all-written : (l : List ℕ) (k n i v : ℕ) → n ≤ i → sets l k (bytes_of (n - i) v) ≡ l
unfolding bytes_of
all-written l k n i v h =
    let e : n - i ≡ 0 = omega arith in
    rw e

-- where there is room
pub little-put : (n at v : ℕ) (b a : List ℕ) → leb (at + n) (length b) ≡ true → a ≡ sets b at (bytes_of n v)
    → Leaves (end_in n at (bytes_of n v) b) (set_in n at (bytes_of n v) b) (at + n) a
little-put n at v b a t e =
    let h = leb-true (at + n) (length b) t in
    record {
      answer = ap (λ (k : ℕ). at + k) (sym (bytes_length_lem n v)) ∙ sym (end_fits n at (bytes_of n v) b h);
      lent = e ∙ sym (set-fits n at (bytes_of n v) b h);
    }
