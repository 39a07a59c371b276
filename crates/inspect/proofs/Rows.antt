-- What reading the rows of lists makes, step by step.
use Prim.Native.Nat.{ℕ, zero, suc, ◌+◌, ◌*◌, ◌/◌, ◌%◌, ◌≤◌, ◌<◌}
use mathlib.Core.Path.{◌≡◌, refl, sym, ◌∙◌}
use mathlib.Core.Logic.{◌≢◌}
use mathlib.Core.List.{List, [], ◌∷◌, ◌++◌, append_assoc, append-nil}
use native.Mathlib.Omega.{arith}
use native.Mathlib.Numerals.{add-one}
use lib.ListN.{length, set, take, drop, length-append}
use lib.Seq.{sets, sets-eq, length-take-le, take_at}
use lib.Dec.{ltb, leb}
use borrow.Author.Tests.{lt-ltb, le-ltb, ltb-false, leb-true, leb-false, eq-eqb, ne_eqb}
use mathlib.Core.Bool.{Bool, true, false}
use Rattle.basis.specs.Cases.{either, clash}
use Rattle.basis.specs.Lists.{sets-append}
use Rattle.std.specs.Prelude.{Option, Some, None}
use Rattle.inspect.specs.Lists.{number_at, word_if, fields_words, fields_end, words_by, words_end, mask_at, row_words, row_end, end_from, rows_end, rows_words, lists_in, RowRead, RowsRead, ListsRead}

-- ---- a word
pub word_unset : (bit : ℕ) (s : List ℕ) (at : ℕ) → bit ≡ 0 → 0 ≡ word_if bit s at
unfolding word_if
word_unset bit s at h = simp (eq-eqb _ _ h)

pub word_set : (bit : ℕ) (s : List ℕ) (at r : ℕ) → bit ≢ 0 → r ≡ number_at 8 s at → r ≡ word_if bit s at
unfolding word_if
word_set bit s at r h e = simp (ne_eqb _ _ h) e

-- ---- one field more: n are left with it, k behind it
pub fields-turn : (n k m : ℕ) (s : List ℕ) (p a b w w₂ : ℕ) (t t₂ : List ℕ) → n ≡ suc k → w₂ ≡ w + 3 → a ≡ word_if (m % 2) s p → b ≡ word_if (m % 2) s (p + 8)
    → t₂ ≡ sets t w (m % 2 ∷ a ∷ b ∷ [])
    → (sets t₂ w₂ (fields_words k (m / 2) s (p + 16 * (m % 2))) ≡ sets t w (fields_words n m s p)) × (fields_end k (m / 2) (p + 16 * (m % 2)) ≡ fields_end n m p)
unfolding fields_words fields_end
fields-turn n k m s p a b w w₂ t t₂ h g ea eb e =
    let r = fields_words k (m / 2) s (p + 16 * (m % 2)) in
    (rw (h, g, e, ea, eb) (sym (sets-append t w (m % 2 ∷ word_if (m % 2) s p ∷ word_if (m % 2) s (p + 8) ∷ []) r)), rw h)

pub fields-none : (n m : ℕ) (s : List ℕ) (p w : ℕ) (t : List ℕ) → n ≤ 0 → (t ≡ sets t w (fields_words n m s p)) × (p ≡ fields_end n m p)
unfolding fields_words fields_end
fields-none zero m s p w t h = (refl, refl)
fields-none (suc n) m s p w t h = absurd (omega arith)

-- ---- a row
pub words-put : (m : ℕ) (s : List ℕ) (at i j k a e n first end : ℕ) (t t₁ t₂ : List ℕ) → k ≡ number_at 1 s at → a ≡ number_at 8 s (at + 2) → e ≡ number_at 8 s (at + 10)
    → (j ≡ i + 3) × (t₁ ≡ sets t i (k ∷ a ∷ e ∷ [])) → n ≡ word_if (m % 2) s (at + 18) → first ≡ at + 18 + 8 * (m % 2)
    → (end ≡ fields_end 5 (m / 2) first) × (t₂ ≡ sets (set (set t₁ j (m % 2)) (j + 1) n) (j + 2) (fields_words 5 (m / 2) s first))
    → (end ≡ words_end m at) × (t₂ ≡ sets t i (words_by m s at))
unfolding words_by words_end
words-put m s at i j k a e n first end t t₁ t₂ ek ea ee p en ef q =
    let x = k ∷ a ∷ e ∷ [] in
    let y = m % 2 ∷ n ∷ [] in
    let f = fields_words 5 (m / 2) s first in
    let g : sets (set (set t₁ j (m % 2)) (j + 1) n) (j + 2) f ≡ sets t i (x ++ (y ++ f)) = rw (p.1, p.0, add-one (i + 3)) (sym (sets-append t i x (y ++ f) ∙ sets-append (sets t i x) (i + 3) y f)) in
    (rw (← ef) q.0, rw (← ek, ← ea, ← ee, ← en, ← ef) (q.1 ∙ g))

pub row-bad : (s : List ℕ) (at : ℕ) (t : List ℕ) (i : ℕ) (after : List ℕ) → None ≡ row_end s at → RowRead s at t i after None
row-bad s at t i after e = record { answer = e; words = λ p h. clash (cc) }

pub room-there : (r : Bool) (a b : ℕ) → r ≡ leb a b → r ≡ true → a ≤ b
room-there r a b e t = leb-true a b (sym e ∙ t)

pub room-short : (r : Bool) (a b : ℕ) → r ≡ leb a b → r ≡ false → b < a
room-short r a b e t = leb-false a b (sym e ∙ t)

pub row_cut : (s : List ℕ) (at : ℕ) → length s < at + 18 → None ≡ row_end s at
unfolding row_end
row_cut s at h = simp (lt-ltb (length s) (at + 18) h)

pub row_masked : (s : List ℕ) (at m : ℕ) → at + 18 ≤ length s → m ≡ mask_at s at → 63 < m → None ≡ row_end s at
unfolding row_end
row_masked s at m h e l = simp (le-ltb (length s) (at + 18) h, ← e, lt-ltb 63 m l)

pub row-past : (s : List ℕ) (at m end : ℕ) → at + 18 ≤ length s → m ≡ mask_at s at → m ≤ 63 → end ≡ words_end m at → length s < end → None ≡ row_end s at
unfolding row_end
row-past s at m end h e l f g = simp (le-ltb (length s) (at + 18) h, ← e, le-ltb 63 m l, ← f, lt-ltb (length s) end g)

pub row-there : (s : List ℕ) (at m end : ℕ) → at + 18 ≤ length s → m ≡ mask_at s at → m ≤ 63 → end ≡ words_end m at → end ≤ length s → Some end ≡ row_end s at
unfolding row_end
row-there s at m end h e l f g = simp (le-ltb (length s) (at + 18) h, ← e, le-ltb 63 m l, ← f, le-ltb (length s) end g)

-- ---- one row more: n are left with it, k behind it
length-words : (m : ℕ) (s : List ℕ) (at : ℕ) → length (words_by m s at) ≡ 20
unfolding words_by fields_words
length-words m s at = refl

take-sets : (t xs : List ℕ) (w n : ℕ) → length xs ≡ n → w + n ≤ length t → take (w + n) (sets t w xs) ≡ take w t ++ xs
take-sets t xs w n e h =
    let l : w + length xs ≤ length t = omega arith in
    let k : length (take w t ++ xs) ≡ w + n = rw (length-append (take w t) xs, length-take-le w t (omega arith), e) in
    rw (sets-eq xs t w l) (take_at (take w t ++ xs) (drop (w + length xs) t) (w + n) k)

pub rows-turn : (n k : ℕ) (s : List ℕ) (p next w w₂ : ℕ) (t t₂ : List ℕ) → n ≡ suc k → w₂ ≡ w + 20 → row_end s p ≡ Some next → t₂ ≡ sets t w (row_words s p) → w + 20 ≤ length t
    → (rows_end k s next ≡ rows_end n s p) × (take w₂ t₂ ++ rows_words k s next ≡ take w t ++ rows_words n s p)
unfolding rows_end rows_words
rows-turn n k s p next w w₂ t t₂ h g e f l =
    (rw (h, e), rw (h, g, e, f, take-sets t (row_words s p) w 20 (length-words (mask_at s p) s p) l) (append_assoc (take w t) (row_words s p) (rows_words k s next)))

pub rows-bad : (n k : ℕ) (s : List ℕ) (p : ℕ) → n ≡ suc k → row_end s p ≡ None → None ≡ rows_end n s p
unfolding rows_end
rows-bad n k s p h e = rw (h, e)

pub rows-refused : (n : ℕ) (s : List ℕ) (at : ℕ) (after : List ℕ) → None ≡ rows_end n s at → RowsRead n s at after None
rows-refused n s at after e = record { answer = e; words = λ p h. clash (cc) }

pub rows-done : (n : ℕ) (s : List ℕ) (p w : ℕ) (t : List ℕ) → n ≤ 0 → (Some p ≡ rows_end n s p) × (take w t ≡ take w t ++ rows_words n s p)
unfolding rows_end rows_words
rows-done zero s p w t h = (refl, sym (append-nil (take w t)))
rows-done (suc n) s p w t h = absurd (omega arith)

-- ---- where rows end
row_within : (s : List ℕ) (at p : ℕ) → row_end s at ≡ Some p → p ≤ length s
unfolding row_end
row_within s at p e =
    either (ltb (length s) (at + 18)) (λ t. clash (let k = simp t at e in cc))
    (λ t. either (ltb 63 (mask_at s at)) (λ u. clash (let k = simp (t, u) at e in cc))
    (λ u. either (ltb (length s) (words_end (mask_at s at) at)) (λ v. clash (let k = simp (t, u, v) at e in cc))
    (λ v. let k : Some (words_end (mask_at s at) at) ≡ Some p = simp (t, u, v) at e in
    let l : words_end (mask_at s at) at ≡ p = cc in
    rw (← l) (ltb-false (length s) (words_end (mask_at s at) at) v))))

from-within : (f : ℕ → Option ℕ) (m p : ℕ) (r : Option ℕ) → ((q : ℕ) → r ≡ Some q → q ≤ m) → ((q : ℕ) → q ≤ m → f q ≡ Some p → p ≤ m) → end_from f r ≡ Some p → p ≤ m
from-within f m p None g h e = clash (cc)
from-within f m p (Some q) g h e = h q (g q refl) e

pub rows-within : (n : ℕ) (s : List ℕ) (at p : ℕ) → at ≤ length s → rows_end n s at ≡ Some p → p ≤ length s
unfolding rows_end
rows-within zero s at p h e = let l : at ≡ p = cc in rw (← l) h
rows-within (suc n) s at p h e = from-within (rows_end n s) (length s) p (row_end s at) (row_within s at) (λ q. rows-within n s q p) e

-- ---- lists
pub lists-bad : (s after : List ℕ) → None ≡ lists_in s → ListsRead s after None
lists-bad s after e = record { says = e; fits = λ l h. clash (cc) }

pub lists-short : (s : List ℕ) → length s < 6 → None ≡ lists_in s
unfolding lists_in
lists-short s h = simp (lt-ltb (length s) 6 h)

pub lists-roomy : (s : List ℕ) (room : ℕ) → 6 ≤ length s → room ≡ number_at 4 s 0 → 65600 < room → None ≡ lists_in s
unfolding lists_in
lists-roomy s room h e l = simp (le-ltb (length s) 6 h, ← e, lt-ltb 65600 room l)

pub lists-many : (s : List ℕ) (room count : ℕ) → 6 ≤ length s → room ≡ number_at 4 s 0 → room ≤ 65600 → count ≡ number_at 2 s 4 → 640 < count → None ≡ lists_in s
unfolding lists_in
lists-many s room count h e l f g = simp (le-ltb (length s) 6 h, ← e, le-ltb 65600 room l, ← f, lt-ltb 640 count g)

pub lists-cut : (s : List ℕ) (room count : ℕ) → 6 ≤ length s → room ≡ number_at 4 s 0 → room ≤ 65600 → count ≡ number_at 2 s 4 → count ≤ 640
    → None ≡ rows_end count s 6 → None ≡ lists_in s
unfolding lists_in
lists-cut s room count h e l f g b = simp (le-ltb (length s) 6 h, ← e, le-ltb 65600 room l, ← f, le-ltb 640 count g, ← b)

pub lists-there : (s after : List ℕ) (room count start : ℕ) → 6 ≤ length s → room ≡ number_at 4 s 0 → room ≤ 65600 → count ≡ number_at 2 s 4 → count ≤ 640
    → RowsRead count s 6 after (Some start) → ListsRead s after (Some (record { room = room; words = 20 * count; start = start }))
unfolding lists_in
lists-there s after room count start h e l f g b =
    record {
      says = simp (le-ltb (length s) 6 h, ← e, le-ltb 65600 room l, ← f, le-ltb 640 count g, ← b.answer, b.words start (sym b.answer));
      fits = λ r k. let q : (room ≡ r.room) × (20 * count ≡ r.words) × (start ≡ r.start) = (cc, cc, cc) in
          (omega arith, omega arith, rw (← q.2) (rows-within count s 6 start h (sym b.answer)));
    }
