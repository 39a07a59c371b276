-- Words written to the table one after the other: a record's places, and a record.
use Prim.Native.Nat.{ℕ, ◌+◌}
use mathlib.Core.Path.{◌≡◌, refl}
use mathlib.Core.List.{List, [], ◌∷◌, ◌++◌}
use native.Mathlib.Omega.{arith}
use lib.ListN.{length}
use lib.Seq.{sets}
use Rattle.protobuf.specs.EncodeLaws.{Put, put-append}
use Rattle.schema.specs.declared.Slots.{Slots}
use Rattle.schema.specs.Slots.{no_slots}
use Rattle.message.specs.declared.Record.{Record}
use Rattle.message.specs.Rows.{kind_code, number_words, place_words, places_words, words_of}
use Rattle.message.specs.RowsLaws.{number-length, place-length}

-- so many words, of a length that is known
sized : (t u : List ℕ) (i e n : ℕ) (xs : List ℕ) → length xs ≡ n → (e ≡ i + n) × (u ≡ sets t i xs) → Put t i xs u e
sized t u i e n xs l p = (omega arith, p.1)

pub slots_put : (t₀ t₁ t₂ t₃ t₄ t₅ : List ℕ) (i a b c d e : ℕ) (s : Slots) → (a ≡ i + 3) × (t₁ ≡ sets t₀ i (place_words s.first)) → (b ≡ a + 3)
    × (t₂ ≡ sets t₁ a (place_words s.second)) → (c ≡ b + 3) × (t₃ ≡ sets t₂ b (place_words s.third)) → (d ≡ c + 3)
    × (t₄ ≡ sets t₃ c (place_words s.fourth)) → (e ≡ d + 3) × (t₅ ≡ sets t₄ d (place_words s.fifth)) → (e ≡ i + 15) × (t₅ ≡ sets t₀ i (places_words s))
unfolding places_words
slots_put t₀ t₁ t₂ t₃ t₄ t₅ i a b c d e s p q r v w =
    let x = place_words s.first in
    let y = place_words s.second in
    let z = place_words s.third in
    let m = place_words s.fourth in
    let n = place_words s.fifth in (
      omega arith,
      (put-append t₀ t₁ t₅ i a e x (y ++ (z ++ (m ++ n))) (sized t₀ t₁ i a 3 x (place-length s.first) p)
          (put-append t₁ t₂ t₅ a b e y (z ++ (m ++ n)) (sized t₁ t₂ a b 3 y (place-length s.second) q)
          (put-append t₂ t₃ t₅ b c e z (m ++ n) (sized t₂ t₃ b c 3 z (place-length s.third) r)
          (put-append t₃ t₄ t₅ c d e m n (sized t₃ t₄ c d 3 m (place-length s.fourth) v) (sized t₄ t₅ d e 3 n (place-length s.fifth) w))))).1,
    )

pub record_put : (t₀ t₁ t₂ t₃ : List ℕ) (i a b k : ℕ) (r : Record) → k ≡ kind_code r.kind → (a ≡ i + 3) × (t₁ ≡ sets t₀ i (k ∷ r.start ∷ r.end ∷ [])) → (b ≡ a + 2) × (t₂ ≡ sets t₁ a (number_words r.slots.number)) → t₃ ≡ sets t₂ b (places_words r.slots) → t₃ ≡ sets t₀ i (words_of r)
unfolding words_of
record_put t₀ t₁ t₂ t₃ i a b k r e p q h =
    let x = number_words r.slots.number in
    let y = places_words r.slots in
    rw (← e)
    (put-append t₀ t₁ t₃ i a (b + length y) (k ∷ r.start ∷ r.end ∷ []) (x ++ y) p
    (put-append t₁ t₂ t₃ a b (b + length y) x y (sized t₁ t₂ a b 2 x (number-length r.slots.number) q) (refl, h))).1

-- a record of no slots
pub none-put : (t₀ t₁ t₂ t₃ t₄ t₅ t₆ : List ℕ) (i a b c d e f : ℕ) → (a ≡ i + 2) × (t₁ ≡ sets t₀ i (0 ∷ 0 ∷ [])) → (b ≡ a + 3) × (t₂ ≡ sets t₁ a (0 ∷ 0 ∷ 0 ∷ [])) → (c ≡ b + 3) × (t₃ ≡ sets t₂ b (0 ∷ 0 ∷ 0 ∷ []))
    → (d ≡ c + 3) × (t₄ ≡ sets t₃ c (0 ∷ 0 ∷ 0 ∷ [])) → (e ≡ d + 3) × (t₅ ≡ sets t₄ d (0 ∷ 0 ∷ 0 ∷ [])) → (f ≡ e + 3) × (t₆ ≡ sets t₅ e (0 ∷ 0 ∷ 0 ∷ []))
    → t₆ ≡ sets t₀ i (number_words no_slots.number ++ places_words no_slots)
unfolding number_words place_words
none-put t₀ t₁ t₂ t₃ t₄ t₅ t₆ i a b c d e f n p q r v w =
    let x = number_words no_slots.number in
    let y = places_words no_slots in
    let s = slots_put t₁ t₂ t₃ t₄ t₅ t₆ a b c d e f no_slots p q r v w in
    (put-append t₀ t₁ t₆ i a (a + length y) x y (sized t₀ t₁ i a 2 x refl n) (refl, s.1)).1

pub leaf-put : (t₀ t₁ t₂ : List ℕ) (i a k : ℕ) (r : Record) → k ≡ kind_code r.kind → (a ≡ i + 3) × (t₁ ≡ sets t₀ i (k ∷ r.start ∷ r.end ∷ []))
    → t₂ ≡ sets t₁ a (number_words r.slots.number ++ places_words r.slots) → t₂ ≡ sets t₀ i (words_of r)
unfolding words_of
leaf-put t₀ t₁ t₂ i a k r e p h =
    let x = number_words r.slots.number ++ places_words r.slots in
    rw (← e) (put-append t₀ t₁ t₂ i a (a + length x) (k ∷ r.start ∷ r.end ∷ []) x p (refl, h)).1
