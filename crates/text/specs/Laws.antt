-- Laws of records and lines.
use Rattle.std.specs.Prelude.{ℕ, zero, suc, ◌+◌, ◌*◌, ◌-◌, ◌/◌, ◌%◌, ◌^◌, ◌≤◌, ◌<◌, ◌≡◌, refl, List, [], ◌∷◌, ◌++◌, Bool, true, false, cond, length, take, drop, set, ltb, eqb, Some, None, Ok, Err}
use Rattle.std.proofs.Common.{sym, ap, ◌∙◌, arith, pow-suc, add-one, length-append, ltb-true, ltb-false, lt-ltb}
use Rattle.std.proofs.Math.Nat.{one-le-pow}
use Rattle.std.proofs.Math.Seq.{length-sets, take-nil}
use Rattle.basis.specs.Cases.{either}
use Rattle.basis.specs.Writing.{end_in, set_in}
use Rattle.basis.specs.Little.{little}
use Rattle.basis.specs.Lists.{sets-append, end_fits, set-fits}
use Rattle.io.specs.Digits.{hex_digit_ascii, last_digits, IsDigitCount}
use Rattle.text.specs.declared.HeaderError.TheVariants.{Bad, Long}
use Rattle.text.specs.Record.{header_of, content_length}
use Rattle.text.specs.Line.{Puts, width, decimal, number, numbers, refused, hex}

-- ---- putting
pub puts_none : (b : List ℕ) (at : ℕ) → Puts 0 [] b at b at
puts_none b at = record { bytes = refl; place = omega arith; small = omega arith }

-- what a public writer did, where it had the room
pub puts_in : {room at end : ℕ} {xs b a : List ℕ} → at + room ≤ length b → length xs ≤ room → (end ≡ end_in room at xs b)
    × (a ≡ set_in room at xs b) → Puts room xs b at a end
puts_in {room} {at} {end} {xs} {b} {a} h l e =
    record {
      bytes = e.1 ∙ set-fits room at xs b h;
      place = e.0 ∙ end_fits room at xs b h;
      small = omega (arith, e.0 ∙ end_fits room at xs b h);
    }

-- one text after another is one text
pub puts_then : {p q : ℕ} {xs ys b m a : List ℕ} {at i end : ℕ} → Puts p xs b at m i → Puts q ys m i a end
    → Puts (p + q) (xs ++ ys) b at a end
puts_then {p} {q} {xs} {ys} {b} {m} {a} {at} {i} {end} f g =
    record {
      bytes = g.bytes ∙ rw (f.bytes, f.place) (sym (sets-append b at xs ys));
      place = omega (arith, length-append xs ys);
      small = omega arith;
    }

-- one byte, and then a text
pub puts_cons : {p x : ℕ} {xs b a : List ℕ} {at end : ℕ} → Puts p xs (set b at x) (at + 1) a end
    → Puts (1 + p) (x ∷ xs) b at a end
puts_cons {at = at} f = record { bytes = f.bytes ∙ rw (add-one at); place = omega arith; small = omega arith }

-- the same text, and more room
pub puts_as : {p q : ℕ} {xs ys b a : List ℕ} {at end : ℕ} → xs ≡ ys → p ≤ q → Puts p xs b at a end
    → Puts q ys b at a end
puts_as {at = at} e h f =
    record { bytes = rw (← e) f.bytes; place = omega (arith, ap length e); small = omega arith }

pub puts_length : {p : ℕ} {xs b a : List ℕ} {at end : ℕ} → Puts p xs b at a end → length a ≡ length b
puts_length {xs = xs} {b = b} {at = at} f = ap length f.bytes ∙ length-sets b at xs

-- ---- decimal numbers
length_digits : (b k n : ℕ) → length (last_digits b k n) ≡ k
length_digits b zero n = refl
length_digits b (suc k) n =
    omega (arith, length-append (last_digits b k (n / b)) (hex_digit_ascii (n % b) ∷ []), length_digits b k (n / b))

fewest_small : (n k : ℕ) → n < 10 → IsDigitCount 10 1 n k → k ≡ 1
fewest_small n zero h p = absurd (omega arith)
fewest_small n (suc zero) h p = refl
fewest_small n (suc (suc j)) h p =
    let q : 10 ^ (suc (suc j) - 1) ≤ n = p.2 (omega arith) in
    let e : 10 ^ (suc (suc j) - 1) ≡ 10 ^ suc j = ap (λ (i : ℕ). 10 ^ i) (omega arith) in
    absurd (omega (arith, pow-suc 10 j, one-le-pow j 10 (omega arith)))

fewest_below : (n k : ℕ) → 10 ≤ n → IsDigitCount 10 1 n (suc k) → IsDigitCount 10 1 (n / 10) k
fewest_below n zero h p = let q : n < 10 ^ 1 = p.1 in absurd (omega arith)
fewest_below n (suc j) h p =
    let q : 10 ^ (suc (suc j) - 1) ≤ n = p.2 (omega arith) in
    let e : 10 ^ (suc (suc j) - 1) ≡ 10 ^ suc j = ap (λ (i : ℕ). 10 ^ i) (omega arith) in
    let e2 : 10 ^ (suc j - 1) ≡ 10 ^ j = ap (λ (i : ℕ). 10 ^ i) (omega arith) in
    (omega arith, omega (arith, pow-suc 10 (suc j), p.1), λ t. omega (arith, pow-suc 10 j))

fewest_from : (f n k : ℕ) → n ≤ f → IsDigitCount 10 1 n k → k ≡ width f n
unfolding width
fewest_from zero n k h p = fewest_small n k (omega arith) p
fewest_from (suc f) n zero h p = absurd (omega arith)
fewest_from (suc f) n (suc k) h p =
    either (ltb n 10) (λ e. rw e (fewest_small n (suc k) (ltb-true n 10 e) p))
    (λ e. let l : 10 ≤ n = ltb-false n 10 e in
    rw e (ap suc (fewest_from f (n / 10) k (omega arith) (fewest_below n k l p))))

-- the fewest digits of n are its decimal text
pub fewest_decimal : (n k : ℕ) → IsDigitCount 10 1 n k → last_digits 10 k n ≡ decimal n
unfolding decimal
fewest_decimal n k p = ap (λ (i : ℕ). last_digits 10 i n) (fewest_from n n k (omega arith) p)

width-from : (f m n : ℕ) → n < 10 ^ suc m → width f n ≤ suc m
unfolding width
width-from zero m n h = omega arith
width-from (suc f) zero n h = rw (lt-ltb n 10 h) (omega arith)
width-from (suc f) (suc m) n h =
    either (ltb n 10) (λ e. rw e (omega arith))
    (λ e. rw e (let l = width-from f m (n / 10) (omega (arith, pow-suc 10 (suc m))) in omega arith))

-- a u64 has at most 20 digits
pub decimal_twenty : (n : ℕ) → n < 2 ^ 64 → length (decimal n) ≤ 20
unfolding decimal
decimal_twenty n h = rw (length_digits 10 (width n n) n) (width-from n 19 n (omega arith))

pub length-number : (n : ℕ) → n < 2 ^ 64 → length (number n) ≤ 21
unfolding number
length-number n h = omega (arith, decimal_twenty n h)

pub length-hex : (s : List ℕ) → length (hex s) ≡ 2 * length s
unfolding hex
length-hex [] = refl
length-hex (b ∷ s) = omega (arith, length-hex s)

length-numbers : (n a b c : ℕ) → a < 2 ^ 64 → b < 2 ^ 64 → c < 2 ^ 64 → length (numbers (take n (a ∷ b ∷ c ∷ []))) ≤ 63
unfolding numbers
length-numbers zero a b c p q r = omega arith
length-numbers (suc zero) a b c p q r = rw (length-append (number a) []) (omega (arith, length-number a p))
length-numbers (suc (suc zero)) a b c p q r = simp length-append (omega (arith, length-number a p, length-number b q))
length-numbers (suc (suc (suc n))) a b c p q r =
    rw (take-nil n) (simp length-append (omega (arith, length-number a p, length-number b q, length-number c r)))

pub length-refused : (m n a b c : ℕ) → m < 2 ^ 64 → a < 2 ^ 64 → b < 2 ^ 64 → c < 2 ^ 64
    → length (refused m (take n (a ∷ b ∷ c ∷ []))) ≤ 92
unfolding refused
length-refused m n a b c h p q r = simp length-append (omega (arith, length-number m h, length-numbers n a b c p q r))

-- ---- what each public writer did
pub numbers_puts : (n p q r : ℕ) {at end : ℕ} {b a : List ℕ} → p < 2 ^ 64 → q < 2 ^ 64 → r < 2 ^ 64 → at + 63 ≤ length b
    → (end ≡ end_in 63 at (numbers (take n (p ∷ q ∷ r ∷ []))) b)
    × (a ≡ set_in 63 at (numbers (take n (p ∷ q ∷ r ∷ []))) b)
    → Puts 63 (numbers (take n (p ∷ q ∷ r ∷ []))) b at a end
numbers_puts n p q r j k l h e = puts_in h (length-numbers n p q r j k l) e

pub hex_puts : (s : List ℕ) {at end : ℕ} {b a : List ℕ} → at + 2 * length s ≤ length b
    → (end ≡ end_in (2 * length s) at (hex s) b) × (a ≡ set_in (2 * length s) at (hex s) b)
    → Puts (2 * length s) (hex s) b at a end
hex_puts s h e = puts_in h (omega (arith, length-hex s)) e

-- ---- a header
tests : (a b c d : Bool) (k l most : ℕ) → (c ≡ false → l ≤ most)
    → content_length (cond a (Ok None) (cond b (Err Bad) (cond c (Err Long) (cond d (Err Bad) (Ok (Some (record { kind = k; len = l }))))))) ≤ most
tests true b c d k l most h = omega arith
tests false true c d k l most h = omega arith
tests false false true d k l most h = omega arith
tests false false false true k l most h = omega arith
tests false false false false k l most h = h refl

-- a record's content has at most `most` bytes
pub header_within : (most : ℕ) (s : List ℕ) → content_length (header_of most s) ≤ most
unfolding header_of
header_within most s = tests (eqb (length s) 0) (ltb (length s) 4) (ltb most (little (take 4 (drop 0 s))))
    (ltb (length s) 6) _ _ most (ltb-false most _)
