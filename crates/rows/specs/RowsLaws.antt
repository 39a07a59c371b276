-- Laws of rings: which places are in use, and what a row more or some rows less do to what stands in them.
use Prim.Native.Nat.{ℕ, zero, suc, ◌+◌, ◌-◌, ◌≤◌, ◌<◌}
use Rattle.std.specs.Prelude.{◌≡◌, refl, List, [], ◌∷◌, ◌++◌, map, ◌⊎◌, drop, get_or, ltb}
use Rattle.std.proofs.Math.Path.{sym, ap}
use Rattle.std.proofs.Common.{◌∙◌, inl, inr, ⊎_elim, arith, le_of_suc-le-suc, not-suc-le-zero, zero-lt-suc, zero-add, suc-add, add-one, length-append, drop_of_length-le, ltb-true, ltb-false}
use Rattle.std.proofs.Math.Nat.{sub-zero}
use Rattle.std.proofs.Math.ListN.{length}
use Rattle.std.proofs.Math.Seq.{drop-cons}
use Rattle.std.proofs.lemmas.List.{drop-append-le}
use Rattle.basis.specs.Cases.{either}
use Rattle.rows.specs.declared.Ring.{Ring}
use Rattle.rows.specs.Rows.{tab, place_of, rows_in, without, one_more, newest}

-- ---- tables
module _ {A : Type 0} where
  pub length-tab : (f : ℕ → A) (n : ℕ) → length (tab f n) ≡ n
  length-tab f zero = refl
  length-tab f (suc n) = ap suc (length-tab (λ (i : ℕ). f (suc i)) n)

  pub get_d_tab : (f : ℕ → A) (n i : ℕ) (d : A) → i < n → get_or (tab f n) i d ≡ f i
  get_d_tab f zero i d h = absurd (not-suc-le-zero h)
  get_d_tab f (suc n) zero d h = refl
  get_d_tab f (suc n) (suc i) d h = get_d_tab (λ (k : ℕ). f (suc k)) n i d (le_of_suc-le-suc h)

  -- two tables that agree below n
  pub tab_ext : (f g : ℕ → A) (n : ℕ) → ((i : ℕ) → i < n → f i ≡ g i) → tab f n ≡ tab g n
  tab_ext f g zero h = refl
  tab_ext f g (suc n) h =
      cc (h 0 (zero-lt-suc n), tab_ext (λ (i : ℕ). f (suc i)) (λ (i : ℕ). g (suc i)) n (λ i k. h (suc i) (omega arith)))

  pub tab_snoc : (f : ℕ → A) (n : ℕ) → tab f (suc n) ≡ tab f n ++ (f n ∷ [])
  tab_snoc f zero = refl
  tab_snoc f (suc n) = ap (λ (l : List A). f 0 ∷ l) (tab_snoc (λ (i : ℕ). f (suc i)) n)

  pub drop-tab : (f : ℕ → A) (k n : ℕ) → drop k (tab f n) ≡ tab (λ (i : ℕ). f (k + i)) (n - k)
  drop-tab f zero n = rw sub-zero (tab_ext f (λ (i : ℕ). f (0 + i)) n (λ i h. ap f (sym (zero-add i))))
  drop-tab f (suc k) zero =
      let e : 0 - suc k ≡ 0 = omega arith in
      rw e
  drop-tab f (suc k) (suc n) =
      let e : suc n - suc k ≡ n - k = omega arith in
      rw e (drop-tab (λ (i : ℕ). f (suc i)) k n ∙ tab_ext (λ (i : ℕ). f (suc (k + i))) (λ (i : ℕ). f (suc k + i))
      (n - k) (λ i h. ap f (sym (suc-add k i))))

pub map-tab : {A B : Type 0} (g : A → B) (f : ℕ → A) (n : ℕ) → map g (tab f n) ≡ tab (λ (i : ℕ). g (f i)) n
map-tab g f zero = refl
map-tab g f (suc n) = ap (λ l. g (f 0) ∷ l) (map-tab g (λ (i : ℕ). f (suc i)) n)

-- ---- places
pub place_is : (ring : Ring) (i : ℕ) → ring.start ≤ ring.cap
    → ((ring.start + i < ring.cap) × (place_of ring i ≡ ring.start + i)) ⊎ ((ring.cap ≤ ring.start + i)
    × (place_of ring i + ring.cap ≡ ring.start + i))
unfolding place_of
place_is ring i a =
    either (ltb i (ring.cap - ring.start))
    (λ t. let h = ltb-true i (ring.cap - ring.start) t in inl (omega arith, simp t))
    (λ t. let h = ltb-false i (ring.cap - ring.start) t in
    let e : place_of ring i ≡ i - (ring.cap - ring.start) = simp t in
    inr (omega arith, omega (arith, e)))

pub place-lt : (ring : Ring) (i : ℕ) → ring.start ≤ ring.cap → i < ring.cap → place_of ring i < ring.cap
place-lt ring i a b = ⊎_elim (λ w. omega arith) (λ w. omega arith) (place_is ring i a)

pub place-le : (ring : Ring) (i : ℕ) → ring.start ≤ ring.cap → i ≤ ring.cap → place_of ring i ≤ ring.cap
place-le ring i a b = ⊎_elim (λ w. omega arith) (λ w. omega arith) (place_is ring i a)

-- from the k-th on
pub place-place : (ring : Ring) (k i : ℕ) → ring.start ≤ ring.cap → k + i < ring.cap
    → place_of (without k ring) i ≡ place_of ring (k + i)
place-place ring k i a b =
    let c = place-le ring k a (omega arith) in
    ⊎_elim (λ u. ⊎_elim (λ v. ⊎_elim (λ w. omega arith) (λ w. omega arith) (place_is ring (k + i) a))
    (λ v. ⊎_elim (λ w. omega arith) (λ w. omega arith) (place_is ring (k + i) a))
    (place_is (without k ring) i c))
    (λ u. ⊎_elim (λ v. ⊎_elim (λ w. omega arith) (λ w. omega arith) (place_is ring (k + i) a))
    (λ v. ⊎_elim (λ w. omega arith) (λ w. omega arith) (place_is ring (k + i) a))
    (place_is (without k ring) i c)) (place_is ring k a)

pub place_differs : (ring : Ring) (i j : ℕ) → ring.start ≤ ring.cap → i < j → j < ring.cap
    → place_of ring i ≡ place_of ring j → ⊥
place_differs ring i j a b c e =
    ⊎_elim (λ u. ⊎_elim (λ v. omega arith) (λ v. omega arith) (place_is ring j a))
    (λ u. ⊎_elim (λ v. omega arith) (λ v. omega arith) (place_is ring j a)) (place_is ring i a)

-- ---- rings
module _ {A : Type 0} (f : ℕ → A) (ring : Ring) where
  pub length_ring : length (rows_in f ring) ≡ ring.count
  unfolding rows_in
  length_ring = length-tab (λ (i : ℕ). f (place_of ring i)) ring.count

  -- the i-th, and those after it
  pub ring_from : (i : ℕ) → i < ring.count → drop i (rows_in f ring) ≡ f (place_of ring i) ∷ drop (i + 1) (rows_in f ring)
  unfolding rows_in
  ring_from i h =
      let g : ℕ → A = λ (j : ℕ). f (place_of ring j) in
      let l : i < length (tab g ring.count) = rw (length-tab g ring.count) h in
      rw (add-one i, drop-cons (tab g ring.count) i (g i) l, get_d_tab g ring.count i (g i) h)

  pub ring_end : (i : ℕ) → ring.count ≤ i → drop i (rows_in f ring) ≡ []
  ring_end i h = drop_of_length-le (rows_in f ring) {i = i} (rw length_ring h)

  -- without the k oldest
  pub ring_drop : (k : ℕ) → ring.start ≤ ring.cap → ring.count ≤ ring.cap → k ≤ ring.count
      → rows_in f (without k ring) ≡ drop k (rows_in f ring)
  unfolding rows_in
  ring_drop k a b h =
      tab_ext (λ (i : ℕ). f (place_of (without k ring) i)) (λ (i : ℕ). f (place_of ring (k + i))) (ring.count - k)
      (λ i j. ap f (place-place ring k i a (omega arith)))
      ∙ sym (drop-tab (λ (i : ℕ). f (place_of ring i)) k ring.count)

  -- the same where f and g agree on the places in use
  pub ring_ext : (g : ℕ → A) → ((i : ℕ) → i < ring.count → g (place_of ring i) ≡ f (place_of ring i))
      → rows_in g ring ≡ rows_in f ring
  unfolding rows_in
  ring_ext g same = tab_ext (λ (i : ℕ). g (place_of ring i)) (λ (i : ℕ). f (place_of ring i)) ring.count same

  -- with a row more: g is what stands in the places afterwards, and the rows in use are as they were
  pub ring_more : (g : ℕ → A) → ((i : ℕ) → i < ring.count → g (place_of ring i) ≡ f (place_of ring i))
      → rows_in g (one_more ring) ≡ rows_in f ring ++ (g (place_of ring ring.count) ∷ [])
  unfolding rows_in place_of
  ring_more g same =
      rw (add-one ring.count)
      (tab_snoc (λ (i : ℕ). g (place_of ring i)) ring.count
      ∙ ap (λ l. l ++ (g (place_of ring ring.count) ∷ [])) (tab_ext (λ (i : ℕ). g (place_of ring i))
      (λ (i : ℕ). f (place_of ring i)) ring.count same))

-- what a walk over the rows, the oldest first, takes
pub ruleset walked = (ring_from, ring_end, length_ring)

pub map_ring : {A B : Type 0} (g : A → B) (f : ℕ → A) (ring : Ring)
    → map g (rows_in f ring) ≡ rows_in (λ (p : ℕ). g (f p)) ring
unfolding rows_in
map_ring g f ring = map-tab g (λ (i : ℕ). f (place_of ring i)) ring.count

-- ---- one more: the oldest leave where there is no room
pub newest-more : {A : Type 0} (max : ℕ) (l : List A) (x : A) → (max ≡ 0 → ⊥)
    → newest max (l ++ (x ∷ [])) ≡ drop ((length l + 1) - max) l ++ (x ∷ [])
unfolding newest
newest-more max l x some =
    rw (length-append l (x ∷ [])) (drop-append-le ((length l + 1) - max) l (x ∷ []) (omega (arith, some)))
