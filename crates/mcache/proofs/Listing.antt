-- Rows put in the order of their ids.
use Rattle.std.proofs.Common.{◌≡◌, ℕ, suc, ◌+◌, ◌-◌, ◌<◌, ◌≤◌, Bool, true, false, cond, List, []}
use Rattle.std.proofs.Common.{◌∷◌, ◌++◌, length, get_or, take, drop, set, sym, refl, ap, ◌∙◌, ap₂, append_assoc, zero-le}
use Rattle.std.proofs.Common.{add-one, arith, length-append, length-drop, take-append-drop}
use Rattle.std.proofs.Common.{length-take-le, drop-drop, take_at, drop_at}
use lib.Seq.{set_at, take-take}
use Rattle.std.specs.List.{copy_within}
use Rattle.std.proofs.lemmas.List.{take_more}
use Rattle.basis.specs.Cases.{either}
use Rattle.basis.specs.Lists.{drop-take}
use Rattle.rows.specs.declared.Ring.{Ring}
use Rattle.rows.specs.Rows.{place_of, rows_in}
use Rattle.rows.specs.RowsLaws.{ring_from, ring_end}
use Rattle.rows.specs.Ids.{precedes_bytes}
use Rattle.mcache.specs.State.{spot_of, put_at, insert_row, gather_into}
use Rattle.mcache.specs.GatherLaws.{length_insert}

-- an insertion is a put at its spot
pub insert_spot : (id : ℕ → List ℕ) (p : ℕ) (l : List ℕ) → put_at (spot_of id p l) p l ≡ insert_row id p l
unfolding put_at spot_of insert_row
insert_spot id p [] = refl
insert_spot id p (q ∷ qs) = either (precedes_bytes (id q) (id p)) (λ t. simp t (ap (λ (l : List ℕ). q ∷ l) (insert_spot id p qs))) (λ t. simp t)

pub spot-le : (id : ℕ → List ℕ) (p : ℕ) (l : List ℕ) → spot_of id p l ≤ length l
unfolding spot_of
spot-le id p [] = zero-le
spot-le id p (q ∷ qs) = either (precedes_bytes (id q) (id p)) (λ t. let k = spot-le id p qs in simp t (omega arith)) (λ t. simp t zero-le)

-- ---- a put: those from its place on move up by one
pub put_moved : (p x n : ℕ) (l moved : List ℕ) → p ≤ n → n < length l → moved ≡ copy_within l p n (p + 1)
    → set moved p x ≡ put_at p x (take n l) ++ drop (n + 1) l
unfolding put_at
put_moved p x n l moved h k e =
    let rest : List ℕ = take (n - p) (drop p l) ++ drop (n + 1) l in
    let m : moved ≡ take p l ++ (get_or l p 0 ∷ rest) =
    e ∙ rw (take_more l p 0 (omega arith)) (simp append_assoc (ap (λ (i : ℕ). take p l ++ (get_or l p 0 ∷ (take (n - p) (drop p l) ++ drop i l))) (omega arith))) in
    rw (m, take-take p n l h, drop-take n p l, append_assoc) (set_at (take p l) (get_or l p 0) rest x p (length-take-le p l (omega arith)))

-- ---- a row told of
pub told-put : (id : ℕ → List ℕ) (p n at : ℕ) (rows out : List ℕ) → n < length rows → at ≡ spot_of id p (take n rows) → out ≡ put_at at p (take n rows) ++ drop (n + 1) rows
    → out ≡ insert_row id p (take n rows) ++ drop (n + 1) rows
told-put id p n at rows out h e f = f ∙ ap (λ (l : List ℕ). l ++ drop (n + 1) rows) (ap (λ (k : ℕ). put_at k p (take n rows)) e ∙ insert_spot id p (take n rows))

pub spot-room : (id : ℕ → List ℕ) (p n at : ℕ) (rows : List ℕ) → n < length rows → at ≡ spot_of id p (take n rows) → at ≤ n
spot-room id p n at rows h e =
    let l = spot-le id p (take n rows) in
    let m : length (take n rows) ≡ n = length-take-le n rows (omega arith) in
    omega arith

-- ---- gathering
-- what the rows hold after row p was looked at: n of them are listed, and behind them nothing was written
pub record Gathering (t : ℕ → Bool) (id : ℕ → List ℕ) (all first : List ℕ) (rest : List ℕ) (n : ℕ) (rows : List ℕ) : Type 0 where
  pub size : length rows ≡ length first
  pub behind : drop n rows ≡ drop n first
  pub goes : gather_into t id (take n rows) rest ≡ all

abbrev rows_of : Ring → List ℕ
rows_of ring = rows_in (λ (p : ℕ). p) ring

module _ (t : ℕ → Bool) (id : ℕ → List ℕ) (all first : List ℕ) (ring : Ring) (i p n : ℕ) (rows : List ℕ) (h : i < ring.count) (e : p ≡ place_of ring i) (l : n < length rows) where
  abbrev ins : List ℕ
  ins = insert_row id p (take n rows)

  ins-length : length ins ≡ n + 1
  ins-length = length_insert id p (take n rows) ∙ ap suc (length-take-le n rows (omega arith)) ∙ sym (add-one n)

  gather-yes : (m : ℕ) (out : List ℕ) → t p ≡ true → Gathering t id all first (drop i (rows_of ring)) n rows → m ≡ n + 1 → out ≡ ins ++ drop (n + 1) rows
      → Gathering t id all first (drop (i + 1) (rows_of ring)) m out
  unfolding gather_into
  gather-yes m out y g f k =
      let a : length (drop (n + 1) rows) ≡ length rows - (n + 1) = length-drop (n + 1) rows in
      let b : length (ins ++ drop (n + 1) rows) ≡ length ins + length (drop (n + 1) rows) = length-append ins (drop (n + 1) rows) in
      let c : drop (n + 1) rows ≡ drop (n + 1) first = sym (drop-drop 1 n rows) ∙ ap (drop 1) g.behind ∙ drop-drop 1 n first in
      let d = rw (ring_from (λ (q : ℕ). q) ring i h) at g.goes in
      let v : gather_into t id (cond (t p) ins (take n rows)) (drop (i + 1) (rows_of ring)) ≡ all = rw (← e) at d in
      let w : gather_into t id ins (drop (i + 1) (rows_of ring)) ≡ all = simp y at v in
      record {
        size = ap length k ∙ omega (arith, ins-length, g.size);
        behind = rw (f, k) (drop_at ins (drop (n + 1) rows) (n + 1) ins-length ∙ c);
        goes = rw (f, k, take_at ins (drop (n + 1) rows) (n + 1) ins-length) w;
      }

  gather-no : (m : ℕ) (out : List ℕ) → t p ≡ false → Gathering t id all first (drop i (rows_of ring)) n rows → m ≡ n → out ≡ rows
      → Gathering t id all first (drop (i + 1) (rows_of ring)) m out
  unfolding gather_into
  gather-no m out y g f k =
      let d = rw (ring_from (λ (q : ℕ). q) ring i h) at g.goes in
      let v : gather_into t id (cond (t p) ins (take n rows)) (drop (i + 1) (rows_of ring)) ≡ all = rw (← e) at d in
      let w : gather_into t id (take n rows) (drop (i + 1) (rows_of ring)) ≡ all = simp y at v in
      record { size = rw k g.size; behind = rw (f, k) g.behind; goes = rw (f, k) w }

  gather-step : (m : ℕ) (out : List ℕ) → Gathering t id all first (drop i (rows_of ring)) n rows
      → (m ≡ cond (t p) (n + 1) n) × (out ≡ cond (t p) (insert_row id p (take n rows) ++ drop (n + 1) rows) rows)
      → Gathering t id all first (drop (i + 1) (rows_of ring)) m out
  gather-step m out g f = either (t p) (λ y. gather-yes m out y g (simp y at f.0) (simp y at f.1)) (λ y. gather-no m out y g (simp y at f.0) (simp y at f.1))

  count_step_lem : (m : ℕ) → n ≤ i → m ≡ cond (t p) (n + 1) n → m ≤ i + 1
  count_step_lem m k f = either (t p) (λ y. let q : m ≡ n + 1 = simp y at f in omega arith) (λ y. let q : m ≡ n = simp y at f in omega arith)

  -- a turn of the loop
  pub gather-turn : (m : ℕ) (out : List ℕ) → n ≤ i → Gathering t id all first (drop i (rows_of ring)) n rows
      → (m ≡ cond (t p) (n + 1) n) × (out ≡ cond (t p) (insert_row id p (take n rows) ++ drop (n + 1) rows) rows)
      → (m ≤ i + 1) × Gathering t id all first (drop (i + 1) (rows_of ring)) m out
  gather-turn m out k g f = (count_step_lem m k f.0, gather-step m out g f)

pub gather-done : (t : ℕ → Bool) (id : ℕ → List ℕ) (all first : List ℕ) (ring : Ring) (i n : ℕ) (rows : List ℕ) → ring.count ≤ i → n ≤ length rows
    → Gathering t id all first (drop i (rows_of ring)) n rows → (n ≡ length all) × (rows ≡ all ++ drop n first)
unfolding gather_into
gather-done t id all first ring i n rows h l g =
    let w : take n rows ≡ all = rw (ring_end (λ (q : ℕ). q) ring i h) at g.goes in
    (sym (length-take-le n rows l) ∙ ap length w, sym (take-append-drop n rows) ∙ ap₂ (λ (x y : List ℕ). x ++ y) w g.behind)
