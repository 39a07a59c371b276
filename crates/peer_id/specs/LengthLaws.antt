-- The length from the bits is the length by the loop, and both are the length of the encoding.
use Rattle.std.specs.Prelude.{ℕ, zero, suc, ◌+◌, ◌-◌, ◌*◌, ◌/◌, ◌^◌, ◌≤◌, ◌<◌, max, ◌≡◌, refl, ltb, length}
use Rattle.std.proofs.Common.{ap, ◌∙◌, arith, pow_mono, pow-add, ltb-true, ltb-false}
use Rattle.std.specs.Int.Count.{count_leading_zeros}
use Rattle.std.proofs.lemmas.Nat.{leading_length}
use Rattle.basis.specs.Cases.{either}
use Rattle.peer_id.specs.Uvarint.{bytes_of, uvarint}
use Rattle.peer_id.specs.Laws.{uvarint-small, uvarint_big}
use Rattle.peer_id.specs.Length.{bits_of, by_bits, turns_of, by_loop}

-- ---- the loop is the length of the encoding
turns_bytes : (f v : ℕ) → turns_of f v ≡ length (bytes_of f v)
unfolding turns_of bytes_of
turns_bytes zero v = refl
turns_bytes (suc f) v = either (ltb v 128) (λ e. rw e) (λ e. rw e (omega (arith, turns_bytes f (v / 128))))

pub loop_uvarint : (v : ℕ) → by_loop v ≡ length (uvarint v)
unfolding by_loop uvarint
loop_uvarint v = turns_bytes v v

pub loop_small : (v : ℕ) → v < 128 → by_loop v ≡ 1
loop_small v h = omega (arith, loop_uvarint v, ap length (uvarint-small v h))

pub loop_big : (v : ℕ) → 128 ≤ v → by_loop v ≡ 1 + by_loop (v / 128)
loop_big v h = omega (arith, loop_uvarint v, loop_uvarint (v / 128), ap length (uvarint_big v h))

-- ---- the form is the loop
-- m bits, and no fewer: at most seven of them is a value below 128
few_bits : (m v : ℕ) → m < 8 → v < 2 ^ m → v < 128
few_bits m v h l = let p : 2 ^ m ≤ 2 ^ 7 = pow_mono {j = 7} (omega arith) in omega arith

-- more of them are a value of at least 128, and the value without its low group needs seven fewer
form_loop : (f m v : ℕ) → m ≤ f → v < 2 ^ m → 2 ^ m ≤ 2 * v + 1 → (max m 1 + 6) / 7 ≡ by_loop v
form_loop zero m v h l g = rw (loop_small v (few_bits m v (omega arith) l)) (omega arith)
form_loop (suc f) m v h l g =
    either (ltb m 8)
    (λ e. let s : m < 8 = ltb-true m 8 e in rw (loop_small v (few_bits m v s l)) (omega arith))
    (λ e. let s : 8 ≤ m = ltb-false m 8 e in
    let p : 2 ^ 8 ≤ 2 ^ m = pow_mono {i = 8} s in
    let b : 128 ≤ v = omega arith in
    let a : 2 ^ m ≡ 128 * 2 ^ (m - 7) = ap (λ (x : ℕ). 2 ^ x) (omega arith) ∙ pow-add 2 7 (m - 7) in
    let i = form_loop f (m - 7) (v / 128) (omega arith) (omega arith) (omega arith) in
    rw (loop_big v b, ← i) (omega arith))

pub bits_loop : (v : ℕ) → v < 2 ^ 64 → by_bits v ≡ by_loop v
unfolding by_bits bits_of
bits_loop v h =
    let s = leading_length 64 v h in
    let e : 64 - count_leading_zeros 64 v ≡ s.0 = omega (arith, s.1) in
    rw e (form_loop s.0 s.0 v (omega arith) s.2 s.3)

pub bits-uvarint : (v : ℕ) → v < 2 ^ 64 → by_bits v ≡ length (uvarint v)
bits-uvarint v h = bits_loop v h ∙ loop_uvarint v

-- ---- the values about which the length changes: the form, the loop and the encoding's length
abbrev pub LengthAt : ℕ → ℕ → Type 0
LengthAt v n = (by_bits v ≡ n) × (by_loop v ≡ n) × (length (uvarint v) ≡ n)

pub length-rows :
    LengthAt 0 1
    × LengthAt 1 1
    × LengthAt 127 1
    × LengthAt 128 2
    × LengthAt 16383 2
    × LengthAt 16384 3
    × LengthAt (2 ^ 21 - 1) 3
    × LengthAt (2 ^ 21) 4
    × LengthAt (2 ^ 28) 5
    × LengthAt (2 ^ 32 - 1) 5
    × LengthAt (2 ^ 35) 6
    × LengthAt (2 ^ 42) 7
    × LengthAt (2 ^ 49) 8
    × LengthAt (2 ^ 56 - 1) 8
    × LengthAt (2 ^ 56) 9
    × LengthAt (2 ^ 63 - 1) 9
    × LengthAt (2 ^ 63) 10
    × LengthAt (2 ^ 64 - 1) 10
unfolding by_bits bits_of count_leading_zeros by_loop turns_of uvarint bytes_of
length-rows = (
  (refl, refl, refl),
  (refl, refl, refl),
  (refl, refl, refl),
  (refl, refl, refl),
  (refl, refl, refl),
  (refl, refl, refl),
  (refl, refl, refl),
  (refl, refl, refl),
  (refl, refl, refl),
  (refl, refl, refl),
  (refl, refl, refl),
  (refl, refl, refl),
  (refl, refl, refl),
  (refl, refl, refl),
  (refl, refl, refl),
  (refl, refl, refl),
  (refl, refl, refl),
  (refl, refl, refl),
)
