-- The test is the grammar's: bytes pass exactly where the grammar has them.
use Rattle.std.specs.Prelude.{Option, None, ℕ, zero, suc, ◌-◌, ◌≤◌, ◌≡◌, refl, List, [], ◌∷◌, true, false, ◌≢◌, ◌↔◌, ltb, leb, eqb}
use Rattle.std.proofs.Common.{sym, ◌∙◌, arith, le-ltb, le-leb, ne_eqb, ltb-true, ltb-false, leb-true, leb-false, eqb-true}
use Rattle.std.proofs.lemmas.Bool.{false≢true, lt-leb, eqb-false}
use Rattle.basis.specs.Cases.{either}
use Rattle.utf8.specs.declared.Want.{Want}
use Rattle.utf8.specs.Utf8.{wanting, lead_of, step_of, run, is_utf8}
use Rattle.utf8.specs.Grammar.{In, Utf8, none, utf8_1, utf8_2, utf8_3a, utf8_3b, utf8_3c, utf8_3d, utf8_4a}
use Rattle.utf8.specs.Grammar.{utf8_4b, utf8_4c}

-- ---- the rows of the grammar, as the first byte picks them
data Lead (a : ℕ) : Option Want → Type 0 where
  l1 : In 0x00 0x7f a → Lead a (wanting 0 0x80 0xbf)
  l2 : In 0xc2 0xdf a → Lead a (wanting 1 0x80 0xbf)
  l3a : In 0xe0 0xe0 a → Lead a (wanting 2 0xa0 0xbf)
  l3b : In 0xe1 0xec a → Lead a (wanting 2 0x80 0xbf)
  l3c : In 0xed 0xed a → Lead a (wanting 2 0x80 0x9f)
  l3d : In 0xee 0xef a → Lead a (wanting 2 0x80 0xbf)
  l4a : In 0xf0 0xf0 a → Lead a (wanting 3 0x90 0xbf)
  l4b : In 0xf1 0xf3 a → Lead a (wanting 3 0x80 0xbf)
  l4c : In 0xf4 0xf4 a → Lead a (wanting 3 0x80 0x8f)
  bad : Lead a None

lead_is : (a : ℕ) → Lead a (lead_of a)
lead_is a =
    either (leb a 0x7f) (λ p1. let h1 = leb-true a 0x7f p1 in simp p1 (l1 (omega arith)))
    (λ p1. either (ltb a 0xc2) (λ p2. simp (p1, p2) bad)
    (λ p2. let h2 = ltb-false a 0xc2 p2 in either (leb a 0xdf)
    (λ p3. let h3 = leb-true a 0xdf p3 in simp (p1, p2, p3) (l2 (omega arith)))
    (λ p3. let h3 = leb-false a 0xdf p3 in either (eqb a 0xe0)
    (λ p4. let h4 = eqb-true a 0xe0 p4 in simp (p1, p2, p3, p4) (l3a (omega arith)))
    (λ p4. let h4 : a ≢ 0xe0 = eqb-false a 0xe0 p4 in either (eqb a 0xed)
    (λ p5. let h5 = eqb-true a 0xed p5 in simp (p1, p2, p3, p4, p5) (l3c (omega arith)))
    (λ p5. let h5 : a ≢ 0xed = eqb-false a 0xed p5 in either (leb a 0xef)
    (λ p6. let h6 = leb-true a 0xef p6 in simp (p1, p2, p3, p4, p5, p6)
    (either (ltb a 0xed) (λ q. let g = ltb-true a 0xed q in l3b (omega arith))
    (λ q. let g = ltb-false a 0xed q in l3d (omega arith))))
    (λ p6. let h6 = leb-false a 0xef p6 in either (eqb a 0xf0)
    (λ p7. let h7 = eqb-true a 0xf0 p7 in simp (p1, p2, p3, p4, p5, p6, p7) (l4a (omega arith)))
    (λ p7. let h7 : a ≢ 0xf0 = eqb-false a 0xf0 p7 in either (leb a 0xf3)
    (λ p8. let h8 = leb-true a 0xf3 p8 in simp (p1, p2, p3, p4, p5, p6, p7, p8) (l4b (omega arith)))
    (λ p8. either (eqb a 0xf4) (λ p9. let h9 = eqb-true a 0xf4 p9 in simp (p1, p2, p3, p4, p5, p6, p7, p8, p9)
    (l4c (omega arith)))
    (λ p9. simp (p1, p2, p3, p4, p5, p6, p7, p8, p9) bad)))))))))

-- the row that a first byte picks
eq_of : (n a : ℕ) → In n n a → a ≡ n
eq_of n a i = omega arith

row2 : (a : ℕ) → In 0xc2 0xdf a → lead_of a ≡ wanting 1 0x80 0xbf
row2 a i = simp (lt-leb a 0x7f (omega arith), le-ltb a 0xc2 (omega arith), le-leb a 0xdf (omega arith))

row3a : (a : ℕ) → In 0xe0 0xe0 a → lead_of a ≡ wanting 2 0xa0 0xbf
row3a a i = rw (eq_of 0xe0 a i)

row3b : (a : ℕ) → 0xe1 ≤ a → a ≤ 0xef → a ≢ 0xed → lead_of a ≡ wanting 2 0x80 0xbf
row3b a p q n =
    simp (
      lt-leb a 0x7f (omega arith),
      le-ltb a 0xc2 (omega arith),
      lt-leb a 0xdf (omega arith),
      ne_eqb a 0xe0 (omega arith),
      ne_eqb a 0xed n,
      le-leb a 0xef q,
    )

row3c : (a : ℕ) → In 0xed 0xed a → lead_of a ≡ wanting 2 0x80 0x9f
row3c a i = rw (eq_of 0xed a i)

row4a : (a : ℕ) → In 0xf0 0xf0 a → lead_of a ≡ wanting 3 0x90 0xbf
row4a a i = rw (eq_of 0xf0 a i)

row4b : (a : ℕ) → In 0xf1 0xf3 a → lead_of a ≡ wanting 3 0x80 0xbf
row4b a i = simp (
  lt-leb a 0x7f (omega arith),
  le-ltb a 0xc2 (omega arith),
  lt-leb a 0xdf (omega arith),
  ne_eqb a 0xe0 (omega arith),
  ne_eqb a 0xed (omega arith),
  lt-leb a 0xef (omega arith),
  ne_eqb a 0xf0 (omega arith),
  le-leb a 0xf3 (omega arith),
)

row4c : (a : ℕ) → In 0xf4 0xf4 a → lead_of a ≡ wanting 3 0x80 0x8f
row4c a i = rw (eq_of 0xf4 a i)

pred_of : (n : ℕ) → suc n - 1 ≡ n
pred_of n = omega arith

-- ---- from the test to the grammar
-- n tails, the first from lo to hi, and then UTF-8
abbrev Rest : ℕ → ℕ → ℕ → List ℕ → Type 0
Rest zero lo hi s = Utf8 s
Rest (suc n) lo hi [] = ⊥
Rest (suc n) lo hi (b ∷ s) = In lo hi b × Rest n 0x80 0xbf s

tails1 : (P : List ℕ → Type 0) (lo hi : ℕ) (s : List ℕ) → Rest 1 lo hi s
    → ((b : ℕ) (t : List ℕ) → In lo hi b → Utf8 t → P (b ∷ t)) → P s
tails1 P lo hi [] r f = absurd r
tails1 P lo hi (b ∷ t) r f = f b t r.0 r.1

tails2 : (P : List ℕ → Type 0) (lo hi : ℕ) (s : List ℕ) → Rest 2 lo hi s
    → ((b c : ℕ) (t : List ℕ) → In lo hi b → In 0x80 0xbf c → Utf8 t → P (b ∷ c ∷ t)) → P s
tails2 P lo hi [] r f = absurd r
tails2 P lo hi (b ∷ t) r f = tails1 (λ t. P (b ∷ t)) 0x80 0xbf t r.1 (λ c t x. f b c t r.0 x)

tails3 : (P : List ℕ → Type 0) (lo hi : ℕ) (s : List ℕ) → Rest 3 lo hi s
    → ((b c d : ℕ) (t : List ℕ) → In lo hi b → In 0x80 0xbf c → In 0x80 0xbf d → Utf8 t → P (b ∷ c ∷ d ∷ t)) → P s
tails3 P lo hi [] r f = absurd r
tails3 P lo hi (b ∷ t) r f = tails2 (λ t. P (b ∷ t)) 0x80 0xbf t r.1 (λ c d t x y. f b c d t r.0 x y)

never : (s : List ℕ) → run None s ≡ false
unfolding run
never [] = refl
never (b ∷ s) = never s

from_lead : (a : ℕ) (s : List ℕ) (st : Option Want) → Lead a st → run st s ≡ true
    → ((n lo hi : ℕ) → run (wanting n lo hi) s ≡ true → Rest n lo hi s) → Utf8 (a ∷ s)
from_lead a s _ (l1 i) h ih = utf8_1 i (ih 0 0x80 0xbf h)
from_lead a s _ (l2 i) h ih = tails1 (λ t. Utf8 (a ∷ t)) 0x80 0xbf s (ih 1 0x80 0xbf h) (λ b t x u. utf8_2 i x u)
from_lead a s _ (l3a i) h ih = tails2 (λ t. Utf8 (a ∷ t)) 0xa0 0xbf s (ih 2 0xa0 0xbf h)
    (λ b c t x y u. utf8_3a i x y u)
from_lead a s _ (l3b i) h ih = tails2 (λ t. Utf8 (a ∷ t)) 0x80 0xbf s (ih 2 0x80 0xbf h)
    (λ b c t x y u. utf8_3b i x y u)
from_lead a s _ (l3c i) h ih = tails2 (λ t. Utf8 (a ∷ t)) 0x80 0x9f s (ih 2 0x80 0x9f h)
    (λ b c t x y u. utf8_3c i x y u)
from_lead a s _ (l3d i) h ih = tails2 (λ t. Utf8 (a ∷ t)) 0x80 0xbf s (ih 2 0x80 0xbf h)
    (λ b c t x y u. utf8_3d i x y u)
from_lead a s _ (l4a i) h ih = tails3 (λ t. Utf8 (a ∷ t)) 0x90 0xbf s (ih 3 0x90 0xbf h)
    (λ b c d t x y z u. utf8_4a i x y z u)
from_lead a s _ (l4b i) h ih = tails3 (λ t. Utf8 (a ∷ t)) 0x80 0xbf s (ih 3 0x80 0xbf h)
    (λ b c d t x y z u. utf8_4b i x y z u)
from_lead a s _ (l4c i) h ih = tails3 (λ t. Utf8 (a ∷ t)) 0x80 0x8f s (ih 3 0x80 0x8f h)
    (λ b c d t x y z u. utf8_4c i x y z u)
from_lead a s _ bad h ih = absurd (false≢true (sym (never s) ∙ h))

-- a byte within the range goes on, and another does not
tail_in : (n lo hi b : ℕ) → In lo hi b → step_of (wanting (suc n) lo hi) b ≡ wanting n 0x80 0xbf
tail_in n lo hi b i = simp (ne_eqb (suc n) 0 (omega arith), le-ltb b lo i.least, le-ltb hi b i.most, pred_of n)

on_tail : (n lo hi b : ℕ) (s : List ℕ) → run (step_of (wanting (suc n) lo hi) b) s ≡ true → In lo hi b
on_tail n lo hi b s h =
    let z : suc n ≢ 0 = omega arith in
    either (ltb b lo) (λ p. absurd (false≢true (sym (never s) ∙ (simp (ne_eqb (suc n) 0 z, p) at h))))
    (λ p. either (ltb hi b) (λ q. absurd (false≢true (sym (never s) ∙ (simp (ne_eqb (suc n) 0 z, p, q) at h))))
    (λ q. record { least = ltb-false b lo p; most = ltb-false hi b q }))

sound : (s : List ℕ) (n lo hi : ℕ) → run (wanting n lo hi) s ≡ true → Rest n lo hi s
unfolding run
sound [] zero lo hi h = none
sound [] (suc n) lo hi h = let e = eqb-true (suc n) 0 h in absurd (omega arith)
sound (a ∷ s) zero lo hi h = from_lead a s (lead_of a) (lead_is a) h (sound s)
sound (b ∷ s) (suc n) lo hi h =
    let i = on_tail n lo hi b s h in
    (i, sound s n 0x80 0xbf (rw tail_in at h))

-- ---- from the grammar to the test
complete : {s : List ℕ} → Utf8 s → run (wanting 0 0x80 0xbf) s ≡ true
unfolding run
complete none = refl
complete (utf8_1 {a = a} i u) = rw (le-leb a 0x7f i.most) (complete u)
complete (utf8_2 {a = a} {b = b} i x u) = simp (row2 a i, tail_in 0 0x80 0xbf b x) (complete u)
complete (utf8_3a {a = a} {b = b} {c = c} i x y u) =
    simp (row3a a i, tail_in 1 0xa0 0xbf b x, tail_in 0 0x80 0xbf c y) (complete u)
complete (utf8_3b {a = a} {b = b} {c = c} i x y u) =
    simp (
      row3b a i.least (omega arith) (omega arith),
      tail_in 1 0x80 0xbf b x,
      tail_in 0 0x80 0xbf c y,
    ) (complete u)
complete (utf8_3c {a = a} {b = b} {c = c} i x y u) =
    simp (row3c a i, tail_in 1 0x80 0x9f b x, tail_in 0 0x80 0xbf c y) (complete u)
complete (utf8_3d {a = a} {b = b} {c = c} i x y u) =
    simp (
      row3b a (omega arith) i.most (omega arith),
      tail_in 1 0x80 0xbf b x,
      tail_in 0 0x80 0xbf c y,
    ) (complete u)
complete (utf8_4a {a = a} {b = b} {c = c} {d = d} i x y z u) =
    simp (
      row4a a i,
      tail_in 2 0x90 0xbf b x,
      tail_in 1 0x80 0xbf c y,
      tail_in 0 0x80 0xbf d z,
    ) (complete u)
complete (utf8_4b {a = a} {b = b} {c = c} {d = d} i x y z u) =
    simp (
      row4b a i,
      tail_in 2 0x80 0xbf b x,
      tail_in 1 0x80 0xbf c y,
      tail_in 0 0x80 0xbf d z,
    ) (complete u)
complete (utf8_4c {a = a} {b = b} {c = c} {d = d} i x y z u) =
    simp (
      row4c a i,
      tail_in 2 0x80 0x8f b x,
      tail_in 1 0x80 0xbf c y,
      tail_in 0 0x80 0xbf d z,
    ) (complete u)

pub exactly : (s : List ℕ) → (is_utf8 s ≡ true) ↔ Utf8 s
unfolding is_utf8
exactly s = (sound s 0 0x80 0xbf, complete)
