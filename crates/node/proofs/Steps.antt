-- The steps of the leaves: the walk over the expiries, and the marked form of an id in a key.
use Prim.Native.Nat.{ℕ, zero, suc, ◌+◌, ◌*◌, ◌≤◌, ◌<◌}
use mathlib.Core.Path.{◌≡◌, refl, sym, ap, subst, ◌∙◌}
use mathlib.Core.List.{List, [], ◌∷◌, map}
use mathlib.Core.Bool.{Bool, true, false, not}
use native.Mathlib.Omega.{arith}
use native.Mathlib.Numerals.{add-one}
use lib.ListN.{length, take, drop, get_or, set, length-take, length-set}
use lib.Seq.{sets, sets-eq, take_at, take-suc-set}
use lib.Dec.{ltb, leb}
use borrow.Author.Tests.{le-leb, lt-leb}
use Rattle.std.specs.Prelude.{Some}
use Rattle.std.specs.Bool.{OnTrue, IsTrue}
use Rattle.std.specs.declared.ops.Range.{Range}
use Rattle.std.specs.List.{IsAllAdjacentAnswer}
use Rattle.std.specs.Iterator.Runs.{Run}
use Rattle.std.proofs.iter.Yields.{nat_range_steps}
use Rattle.std.proofs.iter.runs.Sources.{range_runs}
use Rattle.std.specs.Ordering.{nat_cmp, is_le, is_some_and}
use Rattle.std.proofs.lemmas.List.{get_or-map, length-map}
use Rattle.std.proofs.lemmas.List.Sorted.{non_decreasing_from_is_sorted}
use Rattle.basis.specs.Cases.{either}
use Rattle.rows.specs.declared.Ring.{Ring}
use Rattle.rows.specs.Rows.{tab, place_of, rows_in}
use Rattle.rows.specs.RowsLaws.{length-tab, get_d_tab}
use Rattle.rows.specs.Ids.{among, index_of}
use Rattle.rows.specs.IdsLaws.{none-among}
use Rattle.rows.specs.Store.{in_use, id_at, ids_in, Sound}
use Rattle.rows.specs.StoreLaws.{find_among}
use Rattle.ids.specs.Ids.{mark}
use Rattle.admission.specs.Flags.{allows_unsigned}
use Rattle.node.specs.Gateway.{marked}
use Rattle.node.specs.State.{rises_from}
use Rattle.node.specs.Calls.{known_in}

-- ---- expiries: a list rises where no number in it is below the one before
rises-tab : (f : ℕ → ℕ) (n least : ℕ) → (0 < n → least ≤ f 0) → ((k : ℕ) → suc k < n → f k ≤ f (suc k)) → rises_from least (tab f n) ≡ true
unfolding rises_from
rises-tab f zero least h up = refl
rises-tab f (suc n) least h up =
    simp (le-leb least (f 0) (h (omega arith)))
    (rises-tab (λ (i : ℕ). f (suc i)) n (f 0) (λ l. up 0 (omega arith)) (λ k l. up (suc k) (omega arith)))

falls-tab : (f : ℕ → ℕ) (n least k : ℕ) → suc k < n → f (suc k) < f k → rises_from least (tab f n) ≡ false
unfolding rises_from
falls-tab f zero least k h g = absurd (omega arith)
falls-tab f (suc zero) least k h g = absurd (omega arith)
falls-tab f (suc (suc n)) least zero h g = either (leb least (f 0)) (λ t. simp (t, lt-leb (f 0) (f 1) g)) (λ t. simp t)
falls-tab f (suc (suc n)) least (suc k) h g =
    let z = falls-tab (λ (i : ℕ). f (suc i)) (suc n) (f 0) k (omega arith) g in
    either (leb least (f 0)) (λ t. simp t z) (λ t. simp t)

-- what `is_sorted_by_key` says of the first rows, which are all of them where it answers true
module _ (ring : Ring) (l : List ℕ) where
  abbrev pub expiry_at : ℕ → ℕ
  expiry_at i = get_or l (place_of ring i) 0

  abbrev pub IsSorted : List ℕ → Bool → Type 0
  IsSorted rows r = IsAllAdjacentAnswer (λ x y b. is_some_and is_le (Some (nat_cmp x y)) ≡ b) (map expiry_at rows) r

  module _ (rows : List ℕ) (are : (k : ℕ) → k < length rows → get_or rows k 0 ≡ k) where
    row-expiry : (k : ℕ) → k < length rows → get_or (map expiry_at rows) k 0 ≡ expiry_at k
    row-expiry k h = get_or-map expiry_at rows k 0 0 h ∙ ap expiry_at (are k h)

    rises-sorted : (r : Bool) → length rows ≤ ring.count → (r ≡ true → length rows ≡ ring.count) → IsSorted rows r → r ≡ rises_from 0 (in_use ring l)
    unfolding in_use rows_in
    rises-sorted true few all s =
        let z = all refl in
        let up = non_decreasing_from_is_sorted (map expiry_at rows) true s in
        sym (rises-tab expiry_at ring.count 0 (λ g. omega arith)
        (λ k g. omega (arith, row-expiry k (omega arith), row-expiry (suc k) (omega arith), up k (suc k) 0 (omega arith) (omega (arith, length-map rows expiry_at)))))
    rises-sorted false few all s =
        let d = non_decreasing_from_is_sorted (map expiry_at rows) false s in
        let g : d.0 + 1 < length rows = omega (arith, d.1, length-map rows expiry_at) in
        sym (falls-tab expiry_at ring.count 0 d.0 (omega arith)
        (omega (arith, row-expiry d.0 (omega arith), row-expiry (d.0 + 1) g, ap expiry_at (add-one d.0), d.2 0)))

  pub rises-run : (r : Bool) (p : Run nat_range_steps) → p.from ≡ record { start = 0; end = ring.count } → OnTrue r (IsTrue p.whole) → IsSorted p.items r
      → r ≡ rises_from 0 (in_use ring l)
  rises-run r p from whole s =
      let up = range_runs p p.seen in
      let a : p.from.start ≡ 0 = ap (λ (x : Range ℕ). x.start) from in
      let z : p.from.end ≡ ring.count = ap (λ (x : Range ℕ). x.end) from in
      rises-sorted p.items
      (λ k h. let e : get_or p.items k 0 ≡ p.from.start + k = cc (p.reads k 0 (omega (arith, p.long)), up.3 k (omega (arith, p.long))) in omega arith)
      r (omega (arith, up.0, p.long))
      (λ e. let w : p.whole ≡ true = subst (λ (b : Bool). OnTrue b (IsTrue p.whole)) e whole in omega (arith, up.1 w, p.long))
      s

-- ---- the marked form of an id, at the front of a key
module _ (signed : Bool) (c : ℕ) (first id key : List ℕ) (n : ℕ) (z : length first ≡ 129) (k : n ≡ length id) (h : length id ≤ 128) (m : c ≡ mark signed)
    (e : key ≡ sets (set first 0 c) 1 id) where
  pub key-holds : take (n + 1) key ≡ marked signed id
  key-holds =
      let l : length (set first 0 c) ≡ 129 = length-set first 0 c ∙ z in
      let a : take 1 (set first 0 c) ≡ c ∷ [] = take-suc-set first 0 c (omega arith) in
      let s = sets-eq id (set first 0 c) 1 (omega arith) in
      rw (e, s, a) (take_at (c ∷ id) (drop (1 + length id) (set first 0 c)) (n + 1) (omega arith))
      ∙ ap (λ (x : ℕ). x ∷ id) m

  pub key_counts : n + 1 ≡ length (take (n + 1) key)
  key_counts = let a = ap length key-holds in omega arith

-- ---- ids that are not seen
-- one above 128 bytes is in no row
pub long_unseen : (signed : Bool) (ring : Ring) (lens st id : List ℕ) → Sound 129 ring lens st → 128 < length id
    → false ≡ among (marked signed id) (ids_in 129 ring lens st)
unfolding ids_in rows_in id_at
long_unseen signed ring lens st id ok h =
    let f : ℕ → List ℕ = λ (j : ℕ). id_at 129 lens st (place_of ring j) in
    sym (none-among (marked signed id) (tab f ring.count)
    (λ j k e.
    let l : j < ring.count = rw (length-tab f ring.count) at k in
    let q : suc (length id) ≡ length (f j) = ap length (e ∙ get_d_tab f ring.count j [] l) in
    let r = length-take (get_or lens (place_of ring j) 0) (drop (place_of ring j * 129) st) in
    let s = ok.short j l in
    omega arith))

pub seen-or-not : (signed : Bool) (ring : Ring) (lens st id key : List ℕ) (r : ℕ) → key ≡ marked signed id
    → r ≡ 0 + index_of key (drop 0 (ids_in 129 ring lens st))
    → ltb r ring.count ≡ among (marked signed id) (ids_in 129 ring lens st)
seen-or-not signed ring lens st id key r k e =
    sym (sym (ap (λ (x : List ℕ). among x (ids_in 129 ring lens st)) k) ∙ find_among 129 ring lens st key 0 r e)

-- ---- ids that are not held: in no form that counts
module _ (flags : ℕ) (seen : List (List ℕ)) (id : List ℕ) (a : Bool) (ea : a ≡ among (marked true id) seen) where
  pub signed-seen : a ≡ true → false ≡ not (known_in flags seen id)
  unfolding known_in
  signed-seen h = rw (sym ea ∙ h)

  module _ (u : Bool) (eu : u ≡ allows_unsigned flags) (n : a ≡ false) where
    pub unsigned-counts : u ≡ true → (b : Bool) → b ≡ among (marked false id) seen → not b ≡ not (known_in flags seen id)
    unfolding known_in
    unsigned-counts h b eb = rw (sym ea ∙ n, sym eu ∙ h) (ap not eb)

    pub unsigned-not : u ≡ false → true ≡ not (known_in flags seen id)
    unfolding known_in
    unsigned-not h = rw (sym ea ∙ n, sym eu ∙ h)
