-- ASCII bytes, where a character may begin, change nothing.
use Prim.Native.Nat.{ℕ, zero, suc, ◌+◌, ◌≤◌, ◌<◌}
use mathlib.Core.Path.{◌≡◌, sym, ◌∙◌}
use mathlib.Core.List.{List, [], ◌∷◌}
use native.Mathlib.Omega.{arith}
use native.Mathlib.Numerals.{add-one}
use native.Mathlib.Nat.{add-zero}
use borrow.Author.Count.{below_more}
use Rattle.std.proofs.Common.{get_or-take, get_or-drop}
use lib.Bits.{bit_or, or_add_and, and_le_l, and_le_r}
use lib.ListN.{length, take, drop, get_or, length-take, length-drop}
use lib.Seq.{drop-cons}
use borrow.Author.Tests.{le-leb}
use Rattle.std.specs.Prelude.{Some}
use Rattle.utf8.specs.declared.Want.{Want}
use Rattle.utf8.specs.Utf8.{run, is_utf8}

-- where no tail is wanted, the range of the next does not matter
start : (w : Want) (s : List ℕ) → w.tails ≡ 0 → run (Some w) s ≡ is_utf8 s
unfolding run is_utf8
start w [] e = rw e
start w (b ∷ s) e = rw e

-- one byte
byte : (b : ℕ) (s : List ℕ) → b < 128 → is_utf8 (b ∷ s) ≡ is_utf8 s
unfolding run is_utf8
byte b s l = rw (le-leb b 127 (omega arith))

one : (s : List ℕ) (i : ℕ) → i < length s → get_or s i 0 < 128 → is_utf8 (drop i s) ≡ is_utf8 (drop (i + 1) s)
one s i h l = rw (drop-cons s i 0 h, add-one i) (byte (get_or s i 0) (drop (suc i) s) l)

-- the bits of several bytes, joined, are at least the bits of each
pub joined : (s : List ℕ) (i bits : ℕ) → ((k : ℕ) → k < i → get_or s k 0 ≤ bits) → (k : ℕ) → k < i + 1
    → get_or s k 0 ≤ bit_or bits (get_or s i 0)
joined s i bits f =
    let b = get_or s i 0 in
    let e = or_add_and bits b in
    let p = and_le_l bits b in
    let q = and_le_r bits b in
    below_more _ _ (λ k h. omega (arith, f k h, e, q)) (omega (arith, e, p))

-- a block
several : (s : List ℕ) (i n : ℕ) → i + n ≤ length s → ((k : ℕ) → k < n → get_or s (i + k) 0 < 128)
    → is_utf8 (drop i s) ≡ is_utf8 (drop (i + n) s)
several s i zero h f = rw (add-zero i)
several s i (suc n) h f =
    let e : i + suc n ≡ i + n + 1 = omega arith in
    rw e (several s i n (omega arith) (λ k l. f k (omega arith)) ∙ one s (i + n) (omega arith) (f n (omega arith)))

pub block : (s t : List ℕ) (i n : ℕ) → i + n ≤ length s → t ≡ take n (drop i s)
    → ((k : ℕ) → k < length t → get_or t k 0 < 128) → is_utf8 (drop i s) ≡ is_utf8 (drop (i + n) s)
block s t i n h e f =
    several s i n h (λ k l.
    let q : get_or t k 0 ≡ get_or s (i + k) 0 = rw (e, get_or-take n (drop i s) k 0 l) (get_or-drop i s k 0) in
    let m : length t ≡ n = rw (e, length-take n (drop i s), length-drop i s) (omega arith) in
    omega (arith, q, f k (omega arith)))

-- where no tail is wanted, and the bytes from one place on are as good as from the other
pub leave : (s : List ℕ) (w : Want) (i j : ℕ) → w.tails ≡ 0 → is_utf8 (drop i s) ≡ is_utf8 (drop j s)
    → run (Some w) (drop i s) ≡ run (Some w) (drop j s)
leave s w i j z f = start w (drop i s) z ∙ f ∙ sym (start w (drop j s) z)
