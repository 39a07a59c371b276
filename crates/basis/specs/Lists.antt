-- Laws of lists and of writing that several crates cite.
use Rattle.std.specs.Prelude.{Result, Ok, Err, ℕ, zero, suc, ◌+◌, ◌-◌, ◌≤◌, ◌<◌, ◌≡◌, refl, List, [], ◌∷◌, ◌++◌, length, get_or, set, take, drop, replicate, false, ltb, leb}
use Rattle.std.proofs.Common.{sym, ap, ◌∙◌, arith, add-zero, zero-add, length-take, get_or-drop, get_or-take, le-leb, ltb-true, ltb-false}
use Rattle.std.proofs.Math.Nat.{sub-zero, zero-sub, suc-sub-suc}
use Rattle.std.proofs.Math.ListN.{get_or-eq_default}
use Rattle.std.proofs.lemmas.List.Edits.{sets, sets-eq}
use Rattle.std.proofs.Math.Seq.{take-nil}
use Rattle.std.proofs.lemmas.Bool.{lt-leb}
use Rattle.basis.specs.Cases.{either}
use Rattle.basis.specs.Bytes.{Bytes}
use Rattle.basis.specs.Writing.{no_room, answer, written, end_in, set_in}
use Rattle.basis.specs.declared.ShortRoom.{ShortRoom}

-- one write after another is one write
pub sets-append : {A : Type 0} (l : List A) (i : ℕ) (xs ys : List A)
    → sets l i (xs ++ ys) ≡ sets (sets l i xs) (i + length xs) ys
sets-append l i [] ys = rw (add-zero i)
sets-append l i (x ∷ xs) ys = sets-append (set l i x) (suc i) xs ys
    ∙ ap (λ (k : ℕ). sets (sets (set l i x) (suc i) xs) k ys) {x = suc i + length xs} {y = i + suc (length xs)}
    (omega arith)

-- a writer that has the room
pub answer-fits : (xs out : List ℕ) → length xs ≤ length out → answer xs out ≡ Ok (length xs)
unfolding answer
answer-fits xs out h = simp (le-leb _ _ h)

pub written-fits : (xs out : List ℕ) → length xs ≤ length out → written xs out ≡ sets out 0 xs
unfolding written
written-fits xs out h = simp (le-leb _ _ h) (sym (simp zero-add at (sets-eq xs out 0 (omega arith))))

-- a writer that has not
pub answer-short : (xs out : List ℕ) → length out < length xs → answer xs out ≡ Err (no_room (length xs))
unfolding answer
answer-short xs out h = simp (lt-leb _ _ h)

pub written-short : (xs out : List ℕ) → length out < length xs → written xs out ≡ out
unfolding written
written-short xs out h = simp (lt-leb _ _ h)

-- by a number that is 0 where bytes were written: where it is not 0, nothing was
pub refused_write : (xs out : List ℕ) (number : Result ℕ ShortRoom → ℕ) → ((n : ℕ) → number (Ok n) ≡ 0)
    → (number (answer xs out) ≡ 0 → ⊥) → written xs out ≡ out
unfolding answer written
refused_write xs out number z h =
    either (leb (length xs) (length out)) (λ t. absurd (h (simp t (z (length xs))))) (λ t. simp t)

-- the same within a line or a body
pub end_fits : (room at : ℕ) (xs out : List ℕ) → at + room ≤ length out → end_in room at xs out ≡ at + length xs
unfolding end_in
end_fits room at xs out h = simp (le-leb _ _ h)

pub set-fits : (room at : ℕ) (xs out : List ℕ) → at + room ≤ length out → set_in room at xs out ≡ sets out at xs
unfolding set_in
set-fits room at xs out h = simp (le-leb _ _ h)

pub end_short : (room at : ℕ) (xs out : List ℕ) → leb (at + room) (length out) ≡ false → end_in room at xs out ≡ at
unfolding end_in
end_short room at xs out h = simp h

pub set-short : (room at : ℕ) (xs out : List ℕ) → leb (at + room) (length out) ≡ false → set_in room at xs out ≡ out
unfolding set_in
set-short room at xs out h = simp h

-- parts of bytes are bytes
pub drop-bytes : (n : ℕ) (s : List ℕ) → Bytes s → Bytes (drop n s)
drop-bytes n s b i = rw (get_or-drop n s i 0) (b (n + i))

pub take-bytes : (n : ℕ) (s : List ℕ) → Bytes s → Bytes (take n s)
take-bytes n s b i =
    either (ltb i n) (λ t. rw (get_or-take n s i 0 (ltb-true i n t)) (b i))
    (λ t. let h : n ≤ i = ltb-false i n t in
    let l : length (take n s) ≤ i = rw (length-take n s) (omega arith) in
    rw (get_or-eq_default (take n s) 0 l) (omega arith))

-- and so are bytes with bytes stored in them, and zeros
set-bytes : (st : List ℕ) (k b : ℕ) → Bytes st → b < 256 → Bytes (set st k b)
set-bytes [] k b h l i = h i
set-bytes (x ∷ st) zero b h l zero = l
set-bytes (x ∷ st) zero b h l (suc i) = h (suc i)
set-bytes (x ∷ st) (suc k) b h l zero = h 0
set-bytes (x ∷ st) (suc k) b h l (suc i) = set-bytes st k b (λ j. h (suc j)) l i

pub sets-bytes : (st : List ℕ) (k : ℕ) (m : List ℕ) → Bytes st → Bytes m → Bytes (sets st k m)
sets-bytes st k [] h g = h
sets-bytes st k (b ∷ m) h g = sets-bytes (set st k b) (suc k) m (set-bytes st k b h (g 0)) (λ i. g (suc i))

-- zeros, and past them, are below every number that is above 0
pub zeros-below : (n m i : ℕ) → 0 < m → get_or (replicate n 0) i 0 < m
zeros-below zero m i h = h
zeros-below (suc n) m zero h = h
zeros-below (suc n) m (suc i) h = zeros-below n m i h

pub zeros-bytes : (n : ℕ) → Bytes (replicate n 0)
zeros-bytes n i = zeros-below n 256 i (omega arith)

-- what is left of a front
pub drop-take : {A : Type 0} (n m : ℕ) (l : List A) → drop m (take n l) ≡ take (n - m) (drop m l)
drop-take zero zero l = refl
drop-take zero (suc m) [] = rw (zero-sub (suc m))
drop-take zero (suc m) (x ∷ l) = rw (zero-sub (suc m))
drop-take (suc n) zero l = rw (sub-zero (suc n))
drop-take (suc n) (suc m) [] = sym (take-nil (suc n - suc m))
drop-take (suc n) (suc m) (x ∷ l) = rw (suc-sub-suc n m) (drop-take n m l)
