-- Laws of ids: the test for equal bytes is exact, the order is a strict total order, and one step of each walk over ids.
use Rattle.std.specs.Prelude.{ℕ, zero, suc, ◌≤◌, ◌<◌, ◌≡◌, refl, List, [], ◌∷◌, ◌++◌, Bool, true, false, cond, not, ◌&&◌, ◌||◌, length, min, take, drop, get_or, eqb, ltb}
use Rattle.std.proofs.Common.{sym, ap, ap₂, subst, ◌∙◌, arith, zero-lt-suc, eqb-true, eq-eqb, ne_eqb, lt-ltb, le-ltb, ltb-true, ltb-false}
use Rattle.std.proofs.Math.Bool.{or-true, or_assoc, and-false}
use Rattle.std.proofs.Math.ListN.{drop_of_length-le}
use Rattle.std.proofs.Math.Seq.{drop-cons}
use Rattle.std.proofs.lemmas.Bool.{eqb-false}
use Rattle.basis.specs.Cases.{either, clash}
use Rattle.rows.specs.Ids.{same_bytes, precedes_bytes, among, distinct}

-- ---- equal bytes
pub same_self : (a : List ℕ) → same_bytes a a ≡ true
unfolding same_bytes
same_self [] = refl
same_self (x ∷ xs) = simp (eq-eqb x x refl) (same_self xs)

pub same_equal : (a b : List ℕ) → same_bytes a b ≡ true → a ≡ b
unfolding same_bytes
same_equal [] [] h = refl
same_equal [] (y ∷ ys) h = clash (cc)
same_equal (x ∷ xs) [] h = clash (cc)
same_equal (x ∷ xs) (y ∷ ys) h =
    either (eqb x y) (λ t. let k = simp t at h in ap₂ (λ (u : ℕ) (v : List ℕ). u ∷ v) (eqb-true x y t)
    (same_equal xs ys k))
    (λ t. clash (let k = simp t at h in cc))

pub same_length : (a b : List ℕ) → (length a ≡ length b → ⊥) → same_bytes a b ≡ false
unfolding same_bytes
same_length [] [] h = absurd (h refl)
same_length [] (y ∷ ys) h = refl
same_length (x ∷ xs) [] h = refl
same_length (x ∷ xs) (y ∷ ys) h = rw (same_length xs ys (λ e. h (ap suc e))) (and-false (eqb x y))

-- a byte differs
pub same_not : (a b : List ℕ) (i : ℕ) → (get_or a i 0 ≡ get_or b i 0 → ⊥) → false ≡ same_bytes a b
same_not a b i n =
    either (same_bytes a b) (λ t. absurd (n (ap (λ (l : List ℕ). get_or l i 0) (same_equal a b t)))) (λ t. sym t)

-- ---- byte order
precedes_nil : (a : List ℕ) → precedes_bytes a [] ≡ false
unfolding precedes_bytes
precedes_nil [] = refl
precedes_nil (x ∷ xs) = refl

-- where one has ended, their lengths decide
pub order_end : (a b : List ℕ) (i : ℕ) → precedes_bytes (drop i a) (drop i b) ≡ precedes_bytes a b
    → i ≡ min (length a) (length b) → ltb (length a) (length b) ≡ precedes_bytes a b
unfolding precedes_bytes
order_end a b i inv e =
    either (ltb (length a) (length b))
    (λ t. let h = ltb-true (length a) (length b) t in
    let k : i < length b = omega arith in
    t ∙ (rw (drop_of_length-le a {i = i} (omega arith), drop-cons b i 0 k) at inv))
    (λ t. let h = ltb-false (length a) (length b) t in
    t ∙ sym (precedes_nil (drop i a)) ∙ (rw (drop_of_length-le b {i = i} (omega arith)) at inv))

pub order_irreflexive : (a : List ℕ) → precedes_bytes a a ≡ false
unfolding precedes_bytes
order_irreflexive [] = refl
order_irreflexive (x ∷ xs) = simp (eq-eqb x x refl) (order_irreflexive xs)

-- of two ids that differ one comes first
pub order-total : (a b : List ℕ) → same_bytes a b ≡ false → precedes_bytes a b ≡ not (precedes_bytes b a)
unfolding precedes_bytes same_bytes
order-total [] [] h = clash (cc)
order-total [] (y ∷ ys) h = refl
order-total (x ∷ xs) [] h = refl
order-total (x ∷ xs) (y ∷ ys) h =
    either (eqb x y) (λ t. let e = eqb-true x y t in simp (t, eq-eqb y x (sym e)) (order-total xs ys (simp t at h)))
    (λ t. let n = eqb-false x y t in
    either (ltb x y) (λ u. let l = ltb-true x y u in simp (t, ne_eqb y x (λ e. n (sym e)), u, le-ltb y x (omega arith)))
    (λ u. let l = ltb-false x y u in simp (t, ne_eqb y x (λ e. n (sym e)), u, lt-ltb y x (omega (arith, n)))))

pub order_trans : (a b c : List ℕ) → precedes_bytes a b ≡ true → precedes_bytes b c ≡ true → precedes_bytes a c ≡ true
unfolding precedes_bytes
order_trans [] [] c h k = clash (cc)
order_trans [] (y ∷ ys) [] h k = clash (cc)
order_trans [] (y ∷ ys) (z ∷ zs) h k = refl
order_trans (x ∷ xs) [] c h k = clash (cc)
order_trans (x ∷ xs) (y ∷ ys) [] h k = clash (cc)
order_trans (x ∷ xs) (y ∷ ys) (z ∷ zs) h k =
    either (eqb x y)
    (λ t. let e = eqb-true x y t in
    either (eqb y z)
    (λ u. let g = eqb-true y z u in simp (eq-eqb x z (e ∙ g)) (order_trans xs ys zs (simp t at h) (simp u at k)))
    (λ u. let n = eqb-false y z u in let l = ltb-true y z (simp u at k) in simp (ne_eqb x z (λ g. n (sym e ∙ g)))
    (lt-ltb x z (omega arith))))
    (λ t. let m = ltb-true x y (simp t at h) in
    either (eqb y z)
    (λ u. let g = eqb-true y z u in simp (ne_eqb x z (λ p. absurd (omega arith))) (lt-ltb x z (omega arith)))
    (λ u. let l = ltb-true y z (simp u at k) in simp (ne_eqb x z (λ p. absurd (omega arith)))
    (lt-ltb x z (omega arith))))

-- ---- an id among others, one further
module _ (i : List ℕ) {j : List ℕ} {l js : List (List ℕ)} (w : Bool) (at_row : l ≡ j ∷ js) (inv : among i l ≡ w) where
  pub among-more : same_bytes j i ≡ false → among i js ≡ w
  unfolding among
  among-more e = simp e at (rw at_row at inv)

  pub among-here : same_bytes j i ≡ true → true ≡ w
  unfolding among
  among-here e = simp e at (rw at_row at inv)

pub among_none : (i : List ℕ) (l : List (List ℕ)) (w : Bool) → l ≡ [] → among i l ≡ w → false ≡ w
unfolding among
among_none i l w e inv = rw e at inv

-- ---- ids one after the other
pub among-append : (i : List ℕ) (l r : List (List ℕ)) → among i (l ++ r) ≡ (among i l || among i r)
unfolding among
among-append i [] r = refl
among-append i (j ∷ l) r = rw (among-append i l r) (sym (or_assoc (same_bytes j i) (among i l) (among i r)))

pub among-drop : (i : List ℕ) (k : ℕ) (l : List (List ℕ)) → among i l ≡ false → among i (drop k l) ≡ false
unfolding among
among-drop i k [] h = rw (drop_of_length-le {A = List ℕ} [] {i = k} (omega arith))
among-drop i zero (j ∷ l) h = h
among-drop i (suc k) (j ∷ l) h = either (same_bytes j i) (λ t. clash (let z = simp t at h in cc))
    (λ t. among-drop i k l (simp t at h))

-- the oldest leave, and the others still differ
pub distinct-drop : (k : ℕ) (l : List (List ℕ)) → distinct l ≡ true → distinct (drop k l) ≡ true
unfolding distinct
distinct-drop k [] h = rw (drop_of_length-le {A = List ℕ} [] {i = k} (omega arith))
distinct-drop zero (j ∷ l) h = h
distinct-drop (suc k) (j ∷ l) h = either (among j l) (λ t. clash (let z = simp t at h in cc))
    (λ t. distinct-drop k l (simp t at h))

-- an id in front of those from the k-th on
pub distinct_more : {l : List (List ℕ)} (j : List ℕ) (js : List (List ℕ)) → l ≡ j ∷ js → among j js ≡ false
    → distinct js ≡ true → distinct l ≡ true
unfolding distinct
distinct_more j js e n d = rw e (simp n d)

pub distinct-twice : {j : List ℕ} {js : List (List ℕ)} (k : ℕ) (l : List (List ℕ)) → drop k l ≡ j ∷ js
    → among j js ≡ true → false ≡ distinct l
unfolding distinct
distinct-twice k l e t = either (distinct l) (λ d. clash (let z = simp t at (rw e at (distinct-drop k l d)) in cc))
    (λ d. sym d)

same-sym : (a b : List ℕ) → same_bytes a b ≡ same_bytes b a
unfolding same_bytes
same-sym [] [] = refl
same-sym [] (y ∷ ys) = refl
same-sym (x ∷ xs) [] = refl
same-sym (x ∷ xs) (y ∷ ys) =
    either (eqb x y) (λ t. simp (t, eq-eqb y x (sym (eqb-true x y t))) (same-sym xs ys))
    (λ t. simp (t, ne_eqb y x (λ e. eqb-false x y t (sym e))))

-- an id that is not among others, and they, all differ
pub distinct_snoc : (l : List (List ℕ)) (i : List ℕ) → distinct l ≡ true → among i l ≡ false
    → distinct (l ++ (i ∷ [])) ≡ true
unfolding distinct among
distinct_snoc [] i d n = refl
distinct_snoc (j ∷ l) i d n =
    either (same_bytes j i) (λ t. clash (let z = simp t at n in cc))
    (λ t. either (among j l) (λ u. clash (let z = simp u at d in cc))
    (λ u. simp (among-append j l (i ∷ []), u, same-sym i j, t) (distinct_snoc l i (simp u at d) (simp t at n))))

-- the first k of ids that differ, and ids one after the other
pub among-take : (k : ℕ) (i : List ℕ) (l : List (List ℕ)) → among i l ≡ false → among i (take k l) ≡ false
unfolding among
among-take zero i l h = refl
among-take (suc k) i [] h = refl
among-take (suc k) i (j ∷ l) h = either (same_bytes j i) (λ t. clash (let z = simp t at h in cc))
    (λ t. simp t (among-take k i l (simp t at h)))

pub distinct-take : (k : ℕ) (l : List (List ℕ)) → distinct l ≡ true → distinct (take k l) ≡ true
unfolding distinct
distinct-take zero l d = refl
distinct-take (suc k) [] d = refl
distinct-take (suc k) (i ∷ l) d =
    either (among i l) (λ t. clash (let z = simp t at d in cc))
    (λ t. simp (among-take k i l t) (distinct-take k l (simp t at d)))

pub distinct_append : (l r : List (List ℕ)) → distinct l ≡ true → distinct r ≡ true
    → ((i : List ℕ) → among i l ≡ true → among i r ≡ false) → distinct (l ++ r) ≡ true
unfolding distinct among
distinct_append [] r d e apart = e
distinct_append (i ∷ l) r d e apart =
    either (among i l) (λ t. clash (let z = simp t at d in cc))
    (λ t.
    let a = apart i (simp (same_self i)) in
    let n : among i (l ++ r) ≡ false = among-append i l r ∙ simp (t, a) in
    simp n (distinct_append l r (simp t at d) e (λ j u. apart j (rw u (or-true (same_bytes i j))))))

-- an id between others that all differ
pub distinct_middle : (l r : List (List ℕ)) (i : List ℕ) → distinct (l ++ (i ∷ r)) ≡ true → among i l ≡ false
unfolding distinct among
distinct_middle [] r i d = refl
distinct_middle (j ∷ l) r i d =
    either (among j (l ++ (i ∷ r))) (λ t. clash (let k = simp t at d in cc))
    (λ t.
    let e : distinct (l ++ (i ∷ r)) ≡ true = simp t at d in
    let m = distinct_middle l r i e in
    let a : (among j l || (same_bytes i j || among j r)) ≡ false = sym (among-append j l (i ∷ r)) ∙ t in
    either (same_bytes j i)
    (λ u. clash
    (let z : (among i l || (same_bytes i i || among i r)) ≡ false = subst
    (λ (x : List ℕ). (among x l || (same_bytes i x || among x r)) ≡ false) (same_equal j i u) a in
    let y = simp (m, same_self i) at z in cc))
    (λ u. simp (u, m)))

-- ---- ids by their places
pub among-at : (x : List ℕ) (l : List (List ℕ)) (j : ℕ) → j < length l → x ≡ get_or l j [] → among x l ≡ true
unfolding among
among-at x [] j k e = absurd (omega arith)
among-at x (y ∷ l) zero k e = rw (e, same_self y)
among-at x (y ∷ l) (suc j) k e = rw (among-at x l j (omega arith) e) (or-true (same_bytes y x))

pub none-among : (x : List ℕ) (l : List (List ℕ)) → ((j : ℕ) → j < length l → x ≡ get_or l j [] → ⊥) → among x l ≡ false
unfolding among
none-among x [] h = refl
none-among x (y ∷ l) h =
    either (same_bytes y x) (λ t. absurd (h 0 (zero-lt-suc (length l)) (sym (same_equal y x t))))
    (λ t. simp t (none-among x l (λ j k. h (suc j) (omega arith))))

pub distinct-each : (l : List (List ℕ)) (i j : ℕ) → distinct l ≡ true → i < j → j < length l → get_or l i [] ≡ get_or l j []
    → ⊥
unfolding distinct
distinct-each [] i j d a b e = omega arith
distinct-each (x ∷ l) i zero d a b e = omega arith
distinct-each (x ∷ l) zero (suc j) d a b e = clash (let z = simp (among-at x l j (omega arith) e) at d in cc)
distinct-each (x ∷ l) (suc i) (suc j) d a b e = either (among x l) (λ t. clash (let z = simp t at d in cc))
    (λ t. distinct-each l i j (simp t at d) (omega arith) (omega arith) e)

pub each-distinct : (l : List (List ℕ)) → ((i j : ℕ) → i < j → j < length l → get_or l i [] ≡ get_or l j [] → ⊥)
    → distinct l ≡ true
unfolding distinct
each-distinct [] h = refl
each-distinct (x ∷ l) h =
    simp (none-among x l (λ j k. h 0 (suc j) (zero-lt-suc j) (omega arith)))
    (each-distinct l (λ i j a b. h (suc i) (suc j) (omega arith) (omega arith)))

-- the bytes of two parts: those of the first, and then those of the second
pub same-append : (a b c : List ℕ)
    → same_bytes (a ++ b) c ≡ (same_bytes a (take (length a) c) && same_bytes b (drop (length a) c))
unfolding same_bytes
same-append [] b c = refl
same-append (x ∷ a) b [] = refl
same-append (x ∷ a) b (y ∷ c) = either (eqb x y) (λ t. simp t (same-append a b c)) (λ t. simp t)

-- ---- of ids that differ, at most as many are among others as there are others
-- without the first that is i
without : List ℕ → List (List ℕ) → List (List ℕ)
without i [] = []
without i (j ∷ js) = cond (same_bytes j i) js (j ∷ without i js)

without-shorter : (i : List ℕ) (l : List (List ℕ)) → among i l ≡ true → length l ≡ suc (length (without i l))
unfolding among without
without-shorter i [] h = clash (cc)
without-shorter i (j ∷ l) h =
    either (same_bytes j i) (λ t. simp t) (λ t. simp t (ap suc (without-shorter i l (simp t at h))))

-- another stays
without_other : (i x : List ℕ) (l : List (List ℕ)) → same_bytes i x ≡ false → among x (without i l) ≡ among x l
unfolding among without
without_other i x [] h = refl
without_other i x (j ∷ l) h =
    either (same_bytes j i)
    (λ t. let e = same_equal j i t in simp (t, ap (λ (y : List ℕ). same_bytes y x) e ∙ h))
    (λ t. simp t (ap (λ (b : Bool). same_bytes j x || b) (without_other i x l h)))

-- how many of is are among l
unfoldable pub shared : List (List ℕ) → List (List ℕ) → ℕ
shared l [] = 0
shared l (i ∷ is) = cond (among i l) (suc (shared l is)) (shared l is)

shared-without : (i : List ℕ) (l is : List (List ℕ)) → among i is ≡ false → shared (without i l) is ≡ shared l is
unfolding shared among
shared-without i l [] h = refl
shared-without i l (x ∷ is) h =
    either (same_bytes x i) (λ t. clash (let k = simp t at h in cc))
    (λ t. rw (without_other i x l (same-sym i x ∙ t), shared-without i l is (simp t at h)))

pub shared-few : (l is : List (List ℕ)) → distinct is ≡ true → shared l is ≤ length l
unfolding shared distinct
shared-few l [] d = omega arith
shared-few l (i ∷ is) d =
    either (among i is) (λ t. clash (let k = simp t at d in cc))
    (λ t. let e : distinct is ≡ true = simp t at d in
    either (among i l)
    (λ u. let r = shared-few (without i l) is e in
    let s = shared-without i l is t in
    let n = without-shorter i l u in
    simp u (omega arith))
    (λ u. simp u (shared-few l is e)))

shared-all : (l is : List (List ℕ)) → ((i : List ℕ) → among i is ≡ true → among i l ≡ true) → shared l is ≡ length is
unfolding shared among
shared-all l [] h = refl
shared-all l (i ∷ is) h =
    let a : among i l ≡ true = h i (simp (same_self i)) in
    simp a (ap suc (shared-all l is (λ k t. h k (rw t (or-true (same_bytes i k))))))

pub all-few : (l is : List (List ℕ)) → distinct is ≡ true → ((i : List ℕ) → among i is ≡ true → among i l ≡ true)
    → length is ≤ length l
all-few l is d h = let e = shared-all l is h in let r = shared-few l is d in omega arith
