-- Laws of the rows: one step of the walk over the expiries; and the oldest leave, and the rows stay sound.
use Rattle.std.specs.Prelude.{ℕ, suc, ◌+◌, ◌≤◌, ◌<◌, ◌≡◌, List, [], ◌∷◌, cond, length, drop, leb}
use Rattle.std.proofs.Common.{zero-le, le-leb}
use native.Mathlib.Omega.{arith}
use Rattle.std.proofs.Math.ListN.{get_or}
use Rattle.std.proofs.lemmas.Bool.{lt-leb}
use Rattle.basis.specs.Cases.{either}
use Rattle.rows.specs.declared.Ring.{Ring}
use Rattle.rows.specs.Rows.{place_of, rows_in}
use Rattle.rows.specs.RowsLaws.{length_ring, ring_from, ring_end}
use Rattle.rows.specs.Store.{in_use, Sound}
use Rattle.rows.specs.StoreLaws.{sound_less}
use Rattle.seen.specs.declared.SeenCache.{SeenCache}
use Rattle.seen.specs.State.{spent, dropped, id_size, ring_of}

-- ---- the expiries
module _ (expiry : List ℕ) (ring : Ring) (at i : ℕ)
    (inv : spent at (in_use ring expiry) ≡ i + spent at (drop i (in_use ring expiry))) where
  spent-from : (p : ℕ) → i < ring.count → p ≡ place_of ring i
      → spent at (in_use ring expiry) ≡ i + cond (leb (get_or expiry p 0) at)
      (suc (spent at (drop (i + 1) (in_use ring expiry)))) 0
  unfolding in_use spent
  spent-from p h e = rw e (rw (ring_from (λ (q : ℕ). get_or expiry q 0) ring i h) at inv)

  pub spent-more : (p : ℕ) → i < ring.count → p ≡ place_of ring i → get_or expiry p 0 ≤ at
      → spent at (in_use ring expiry) ≡ (i + 1) + spent at (drop (i + 1) (in_use ring expiry))
  spent-more p h e k =
      let s = simp (le-leb (get_or expiry p 0) at k) at (spent-from p h e) in
      omega arith

  pub spent-stop : (p : ℕ) → i < ring.count → p ≡ place_of ring i → at < get_or expiry p 0
      → i ≡ spent at (in_use ring expiry)
  spent-stop p h e k =
      let s = simp (lt-leb (get_or expiry p 0) at k) at (spent-from p h e) in
      omega arith

  pub spent-end : ring.count ≤ i → i ≡ spent at (in_use ring expiry)
  unfolding in_use spent
  spent-end h =
      let s = rw (ring_end (λ (q : ℕ). get_or expiry q 0) ring i h) at inv in
      omega arith

spent-le : (at : ℕ) (l : List ℕ) → spent at l ≤ length l
unfolding spent
spent-le at [] = zero-le
spent-le at (e ∷ l) = let h = spent-le at l in either (leb e at) (λ t. simp t (omega arith)) (λ t. simp t zero-le)

pub spent_in : (at : ℕ) (ring : Ring) (expiry : List ℕ) → spent at (in_use ring expiry) ≤ ring.count
unfolding in_use
spent_in at ring expiry = let l = length_ring (λ (q : ℕ). get_or expiry q 0) ring in
    omega (arith, spent-le at (rows_in (λ (q : ℕ). get_or expiry q 0) ring))

-- ---- without the k oldest
pub sound-dropped : (cap k : ℕ) (c : SeenCache) (st : List ℕ) → Sound id_size (ring_of cap c) c.len st → k ≤ c.count
    → Sound id_size (ring_of cap (dropped cap k c)) (dropped cap k c).len st
unfolding dropped
sound-dropped cap k c st s h = sound_less id_size (ring_of cap c) k c.len st s h
