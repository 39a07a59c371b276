-- One turn of each loop of the crate, over plain lists and numbers.
use Prim.Native.Nat.{ℕ, zero, suc, ◌+◌, ◌*◌, ◌<◌, ◌≤◌}
use mathlib.Core.Path.{◌≡◌, sym, ap, ◌∙◌}
use mathlib.Core.List.{List, [], ◌∷◌, ◌++◌}
use native.Mathlib.Omega.{arith}
use native.Mathlib.Numerals.{add-one}
use native.Mathlib.Nat.{add_comm, suc-mul}
use lib.ListN.{length, get_or, set, take, drop, drop_of_length-le}
use lib.Seq.{sets, drop-cons, drop-drop, take-suc-set, take_all}
use Rattle.basis.specs.Lists.{sets-append, set-fits}
use Rattle.basis.specs.Little.{little, bytes_of, bytes_length_lem}
use Rattle.basis.specs.Writing.{set_in}
use Rattle.stored.specs.Layout.{spread, gathered}

-- ---- reading
-- a number of two bytes
pub half_read : (s : List ℕ) (p : ℕ) → p + 2 ≤ length s → get_or s p 0 + get_or s (p + 1) 0 * 256 ≡ little (take 2 (drop p s))
unfolding little
half_read s p h = rw (add-one p, drop-cons s p 0 (omega arith), drop-cons s (suc p) 0 (omega arith)) (omega arith)

-- one number more
pub gathered_snoc : (w n : ℕ) (s : List ℕ) → gathered w (suc n) s ≡ gathered w n s ++ (little (take w (drop (n * w) s)) ∷ [])
unfolding gathered
gathered_snoc w zero s = ap (λ (k : ℕ). little (take w (drop k s)) ∷ []) {x = 0} {y = zero * w} (omega arith)
gathered_snoc w (suc n) s =
    let e : w + n * w ≡ suc n * w = add_comm w (n * w) ∙ sym (suc-mul n w) in
    ap (λ (r : List ℕ). little (take w s) ∷ r) (gathered_snoc w n (drop w s) ∙ rw (drop-drop (n * w) w s, e))

pub gathered-turn : (w : ℕ) (s out : List ℕ) (at i v : ℕ) → i < length out → take i out ≡ gathered w i (drop at s) → v ≡ little (take w (drop (at + i * w) s)) → take (i + 1) (set out i v) ≡ gathered w (i + 1) (drop at s)
gathered-turn w s out at i v h e z =
    rw (add-one i, take-suc-set out i v h, gathered_snoc w i (drop at s), drop-drop (i * w) at s, e, z)

pub gathered-done : (w : ℕ) (s out : List ℕ) (at i n : ℕ) → n ≤ i → i ≤ n → length out ≡ n → take i out ≡ gathered w i (drop at s) → out ≡ gathered w n (drop at s)
gathered-done w s out at i n h k l e =
    let q : i ≡ n = omega arith in
    sym (take_all i out (omega arith)) ∙ e ∙ ap (λ (j : ℕ). gathered w j (drop at s)) q

-- ---- writing
-- one number of several, each of w bytes
pub spread-turn : (w : ℕ) (whole l after vs : List ℕ) (at i : ℕ) → i < length vs → sets l (at + i * w) (spread w (drop i vs)) ≡ whole → at + i * w + w ≤ length l → after ≡ set_in w (at + i * w) (bytes_of w (get_or vs i 0)) l → sets after (at + (i + 1) * w) (spread w (drop (i + 1) vs)) ≡ whole
unfolding spread
spread-turn w whole l after vs at i h e room z =
    let y : after ≡ sets l (at + i * w) (bytes_of w (get_or vs i 0)) = z ∙ set-fits w (at + i * w) (bytes_of w (get_or vs i 0)) l room in
    let p : at + i * w + w ≡ at + suc i * w = rw suc-mul (omega arith) in
    let x : sets l (at + i * w) (spread w (drop i vs)) ≡ sets (sets l (at + i * w) (bytes_of w (get_or vs i 0))) (at + suc i * w) (spread w (drop (suc i) vs)) = rw (drop-cons vs i 0 h, sets-append l (at + i * w) (bytes_of w (get_or vs i 0)) (spread w (drop (suc i) vs)), bytes_length_lem w (get_or vs i 0), p) in
    rw (y, add-one i) (sym x ∙ e)

pub spread-done : (w : ℕ) (whole l vs : List ℕ) (k i : ℕ) → length vs ≤ i → sets l k (spread w (drop i vs)) ≡ whole → l ≡ whole
unfolding spread
spread-done w whole l vs k i h e =
    let x : sets l k (spread w (drop i vs)) ≡ l = rw (drop_of_length-le vs h) in
    sym x ∙ e
