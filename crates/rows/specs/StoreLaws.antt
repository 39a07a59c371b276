-- Laws of ids in a store: where a row lies, one step of each walk over the rows, what the tests say of each row, and
-- what a row more or some rows less leave.
use Rattle.std.specs.Prelude.{ℕ, zero, suc, ◌+◌, ◌-◌, ◌*◌, ◌≤◌, ◌<◌, min, ◌≡◌, true, false, length, take, set, leb, ltb}
use Rattle.std.proofs.Math.Path.{refl, ap}
use Rattle.std.proofs.Common.{sym, ◌∙◌, mul-le-mul, mul-le-mul_right, suc-mul, zero-lt-suc, length-drop, length-set, drop_of_length-le, get_or-set_same, get_or-set_other, take_all}
use mathlib.Core.List.{List, [], ◌∷◌}
use native.Mathlib.Omega.{arith}
use Rattle.std.proofs.Math.ListN.{drop, get_or, get_or-eq_default}
use Rattle.std.proofs.lemmas.List.Edits.{sets}
use Rattle.std.proofs.Math.Seq.{length-sets, take-nil}
use borrow.Author.Count.{below_more}
use borrow.Author.Tests.{le-leb, leb-true, leb-false, ltb-true, ltb-false, lt-ltb, le-ltb}
use Rattle.basis.specs.Cases.{either, clash}
use Rattle.rows.specs.declared.Ring.{Ring}
use Rattle.rows.specs.Rows.{tab, place_of, rows_in, without, one_more}
use Rattle.rows.specs.Ids.{same_bytes, among, distinct, index_of}
use Rattle.rows.specs.IdsLaws.{distinct_more, distinct-twice, distinct-each, each-distinct}
use Rattle.rows.specs.ListLaws.{drop-sets, part-sets, put-sets}
use Rattle.rows.specs.RowsLaws.{length-tab, get_d_tab, length_ring, ring_from, ring_end, place-lt, place-le}
use Rattle.rows.specs.RowsLaws.{place-place, place_differs}
use Rattle.rows.specs.Store.{id_at, ids_in, in_use, all_up_to, InStore, Sound}

-- ---- places
pub place_in : {ring : Ring} {l : List ℕ} → InStore ring l → (i p : ℕ) → i < ring.cap → p ≡ place_of ring i
    → (p < ring.cap) × (p < length l)
place_in {ring} r i p h at =
    let b : p < ring.cap = rw at (place-lt ring i r.starts h) in
    (b, omega (arith, r.size))

-- a row lies within the store
pub row_fits : (size cap p n m : ℕ) → p < cap → n ≤ size → cap * size ≤ m → p * size + n ≤ m
row_fits size cap p n m h k r =
    let a : suc p * size ≤ cap * size = mul-le-mul_right size h in
    let b : suc p * size ≡ p * size + size = suc-mul p size in
    omega arith

-- where a place begins: the product of two numbers below 2^32 fits a word
pub product-fits : (p size : ℕ) → p < 4294967296 → size < 4294967296 → p * size ≤ 4294967295 * 4294967295
product-fits p size h k =
    let a : p ≤ 4294967295 = omega arith in
    let b : size ≤ 4294967295 = omega arith in
    mul-le-mul a b

-- a part from b on, cut at the store's end
pub part_cut : (st : List ℕ) (b n k m : ℕ) → k ≡ min b (length st) → m ≡ min n (length st - k)
    → take ((k + m) - k) (drop k st) ≡ take n (drop b st)
part_cut st b n k m ek em =
    let g : (k + m) - k ≡ m = omega arith in
    rw g
    (either (leb b (length st))
    (λ t. let h = leb-true b (length st) t in
    let e : k ≡ b = omega arith in
    rw (← e)
    (either (leb n (length st - k))
    (λ u. let g = leb-true n (length st - k) u in
    let f : m ≡ n = omega arith in
    rw f)
    (λ u. let g = leb-false n (length st - k) u in
    let l : length (drop k st) ≡ length st - k = length-drop k st in
    take_all m (drop k st) (omega arith) ∙ sym (take_all n (drop k st) (omega arith)))))
    (λ t. let h = leb-false b (length st) t in
    let x : drop k st ≡ [] = drop_of_length-le st {i = k} (omega arith) in
    let y : drop b st ≡ [] = drop_of_length-le st {i = b} (omega arith) in
    rw (x, y, take-nil m, take-nil n)))

-- what finding a place in a store takes
pub ruleset placed = (product-fits, part_cut, get_or-eq_default)

-- ---- finding an id
-- an id is among others exactly where it has a place before their end
pub index-among : (i : List ℕ) (l : List (List ℕ)) → among i l ≡ ltb (index_of i l) (length l)
unfolding among index_of
index-among i [] = refl
index-among i (j ∷ js) =
    either (same_bytes j i) (λ t. simp t (sym (lt-ltb 0 (suc (length js)) (omega arith))))
    (λ t. simp t (index-among i js ∙ below (index_of i js) (length js)))
  where
    below : (m n : ℕ) → ltb m n ≡ ltb (suc m) (suc n)
    below m n = either (ltb m n) (λ t. t ∙ sym (lt-ltb (suc m) (suc n) (let h = ltb-true m n t in omega arith)))
        (λ t. t ∙ sym (le-ltb (suc m) (suc n) (let h = ltb-false m n t in omega arith)))

-- ---- what is found says whether an id is among those from the k-th on
shifted : (a b r count k : ℕ) → r ≡ k + a → b ≡ count - k → ltb a b ≡ ltb r count
shifted a b r count k e f =
    either (ltb a b) (λ t. let l = ltb-true a b t in t ∙ sym (lt-ltb r count (omega arith)))
    (λ t. let l = ltb-false a b t in t ∙ sym (le-ltb r count (omega arith)))

pub find_among : (size : ℕ) (ring : Ring) (lens st id : List ℕ) (k r : ℕ)
    → r ≡ k + index_of id (drop k (ids_in size ring lens st))
    → among id (drop k (ids_in size ring lens st)) ≡ ltb r ring.count
unfolding ids_in
find_among size ring lens st id k r e =
    let ids : List (List ℕ) = rows_in (id_at size lens st) ring in
    let l : length (drop k ids) ≡ ring.count - k =
    length-drop k ids ∙ ap (λ (n : ℕ). n - k) (length_ring (id_at size lens st) ring) in
    index-among id (drop k ids) ∙ shifted (index_of id (drop k ids)) (length (drop k ids)) r ring.count k e l

-- ---- ids that differ, from the newest to the oldest: the row before the i-th
module _ (size : ℕ) (ring : Ring) (lens st : List ℕ) (i p : ℕ) (h : 0 < i) (k : i ≤ ring.count)
    (e : p ≡ place_of ring (i - 1)) (id : List ℕ) (f : id ≡ id_at size lens st p) where
  abbrev ids : List (List ℕ)
  ids = ids_in size ring lens st

  pub row_before : drop (i - 1) ids ≡ id ∷ drop i ids
  unfolding ids_in
  row_before =
      let n : (i - 1) + 1 ≡ i = omega arith in
      ring_from (id_at size lens st) ring (i - 1) (omega arith)
      ∙ ap (λ (x : List ℕ). x ∷ drop ((i - 1) + 1) ids) (sym (f ∙ ap (id_at size lens st) e))
      ∙ ap (λ (m : ℕ). id ∷ drop m ids) n

  pub differ-more : among id (drop i ids) ≡ false → distinct (drop i ids) ≡ true → distinct (drop (i - 1) ids) ≡ true
  differ-more n d = distinct_more id (drop i ids) row_before n d

  pub differ-not : among id (drop i ids) ≡ true → false ≡ distinct ids
  differ-not t = distinct-twice (i - 1) ids row_before t

-- after the newest, and at the oldest
pub ids-end : (size : ℕ) (ring : Ring) (lens st : List ℕ) → drop ring.count (ids_in size ring lens st) ≡ []
unfolding ids_in
ids-end size ring lens st = ring_end (id_at size lens st) ring ring.count (omega arith)

pub differ-none : (l : List (List ℕ)) → l ≡ [] → distinct l ≡ true
unfolding distinct
differ-none l e = rw e

pub differ-all : (i : ℕ) (l : List (List ℕ)) → i ≤ 0 → distinct (drop i l) ≡ true → true ≡ distinct l
differ-all i l h d = let z : i ≡ 0 = omega arith in sym (rw z at d)

-- ---- what the tests on the numbers and on the ids say of each row
number-within : (most : ℕ) (l : List ℕ) (i : ℕ) → all_up_to most l ≡ true → i < length l → get_or l i 0 ≤ most
unfolding all_up_to
number-within most [] i h k = absurd (omega arith)
number-within most (n ∷ l) zero h k =
    either (leb n most) (λ t. leb-true n most t) (λ t. clash (let z = simp t at h in cc))
number-within most (n ∷ l) (suc i) h k = either (leb n most) (λ t. number-within most l i (simp t at h) (omega arith))
    (λ t. clash (let z = simp t at h in cc))

pub short_in : (most : ℕ) (lens : List ℕ) (ring : Ring) → all_up_to most (in_use ring lens) ≡ true → (i : ℕ)
    → i < ring.count → get_or lens (place_of ring i) 0 ≤ most
unfolding in_use rows_in
short_in most lens ring h i k =
    let f : ℕ → ℕ = λ (j : ℕ). get_or lens (place_of ring j) 0 in
    let l : i < length (tab f ring.count) = rw (length-tab f ring.count) k in
    let e : get_or (tab f ring.count) i 0 ≤ most = number-within most (tab f ring.count) i h l in
    rw (get_d_tab f ring.count i 0 k) at e

numbers-within : (most : ℕ) (l : List ℕ) → ((i : ℕ) → i < length l → get_or l i 0 ≤ most) → all_up_to most l ≡ true
unfolding all_up_to
numbers-within most [] h = refl
numbers-within most (n ∷ l) h =
    simp (le-leb n most (h 0 (zero-lt-suc (length l)))) (numbers-within most l (λ i k. h (suc i) (omega arith)))

pub short-all : (most : ℕ) (lens : List ℕ) (ring : Ring)
    → ((i : ℕ) → i < ring.count → get_or lens (place_of ring i) 0 ≤ most) → all_up_to most (in_use ring lens) ≡ true
unfolding in_use rows_in
short-all most lens ring h =
    let f : ℕ → ℕ = λ (j : ℕ). get_or lens (place_of ring j) 0 in
    numbers-within most (tab f ring.count) (λ i k. let l : i < ring.count = rw (length-tab f ring.count) at k in
    rw (get_d_tab f ring.count i 0 l) (h i l))

-- no id stands in two rows
pub once_in : (size : ℕ) (lens st : List ℕ) (ring : Ring) → distinct (ids_in size ring lens st) ≡ true → (i j : ℕ)
    → i < j → j < ring.count
    → id_at size lens st (place_of ring i) ≡ id_at size lens st (place_of ring j) → ⊥
unfolding ids_in rows_in
once_in size lens st ring d i j a b e =
    let f : ℕ → List ℕ = λ (k : ℕ). id_at size lens st (place_of ring k) in
    let l : j < length (tab f ring.count) = rw (length-tab f ring.count) b in
    distinct-each (tab f ring.count) i j d a l (get_d_tab f ring.count i [] (omega arith) ∙ e
    ∙ sym (get_d_tab f ring.count j [] b))

pub all_once : (size : ℕ) (lens st : List ℕ) (ring : Ring)
    → ((i j : ℕ) → i < j → j < ring.count → id_at size lens st (place_of ring i) ≡ id_at size lens st (place_of ring j)
    → ⊥)
    → distinct (ids_in size ring lens st) ≡ true
unfolding ids_in rows_in
all_once size lens st ring h =
    let f : ℕ → List ℕ = λ (k : ℕ). id_at size lens st (place_of ring k) in
    each-distinct (tab f ring.count)
    (λ i j a b e. let l : j < ring.count = rw (length-tab f ring.count) at b in
    h i j a l (sym (get_d_tab f ring.count i [] (omega arith)) ∙ e ∙ get_d_tab f ring.count j [] l))

-- ---- without the k oldest
pub sound_less : (size : ℕ) (ring : Ring) (k : ℕ) (lens st : List ℕ) → Sound size ring lens st → k ≤ ring.count
    → Sound size (without k ring) lens st
sound_less size ring k lens st s h =
    let r = s.rows in
    record {
      rows = record { starts = place-le ring k r.starts (omega arith); within = omega arith; size = r.size };
      room = s.room;
      short = λ i j. rw (place-place ring k i r.starts (omega arith)) (s.short (k + i) (omega arith));
    }

-- ---- an id put into place q
module _ (size : ℕ) (lens st id : List ℕ) (q : ℕ) where
  -- another place holds what it held
  pub id-kept : length id ≤ size → (p : ℕ) → (p ≡ q → ⊥) → get_or lens p 0 ≤ size
      → id_at size (set lens q (length id)) (sets st (q * size) id) p ≡ id_at size lens st p
  unfolding id_at
  id-kept k p other n =
      rw (get_or-set_other lens q p (length id) 0 other)
      (either (ltb p q)
      (λ t. part-sets st (q * size) id (get_or lens p 0) (p * size)
      (row_fits size q p (get_or lens p 0) (q * size) (ltb-true p q t) n (omega arith)))
      (λ t. let l : q < p = let g = ltb-false p q t in omega (arith, other) in
      ap (take (get_or lens p 0))
      (drop-sets st (q * size) id (p * size) (row_fits size p q (length id) (p * size) l k (omega arith)))))

  pub id-put : q < length lens → q * size + length id ≤ length st
      → id_at size (set lens q (length id)) (sets st (q * size) id) q ≡ id
  unfolding id_at
  id-put h r = rw (get_or-set_same lens q (length id) 0 h) (put-sets st (q * size) id r)

-- ---- with a row more
module _ (size : ℕ) (ring : Ring) (lens st : List ℕ) (s : Sound size ring lens st) (h : ring.count < ring.cap) where
  -- its place has a length, and lies within the store
  pub free-within : (n p : ℕ) → n ≤ size → p ≡ place_of ring ring.count → (p < length lens)
      × (p * size + n ≤ length st)
  free-within n p k e =
      let b = place_in s.rows ring.count p h e in
      (b.1, row_fits size ring.cap p n (length st) b.0 k s.room)

  pub sound_more : (id : List ℕ) → length id ≤ size
      → Sound size (one_more ring) (set lens (place_of ring ring.count) (length id))
      (sets st (place_of ring ring.count * size) id)
  unfolding place_of
  sound_more id k =
      let r = s.rows in
      let q = place_of ring ring.count in
      record {
        rows = record { starts = r.starts; within = omega arith; size = rw (length-set lens q (length id)) r.size };
        room = rw (length-sets st (q * size) id) s.room;
        short =
            below_more _ ring.count
            (λ i j. rw (get_or-set_other lens q (place_of ring i) (length id) 0
            (place_differs ring i ring.count r.starts j h)) (s.short i j))
            (rw (get_or-set_same lens q (length id) 0 (place_in r ring.count q h refl).1) k);
      }
