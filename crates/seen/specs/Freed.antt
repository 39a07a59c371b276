-- Freed places are used again: where a fresh id is written.
use Rattle.std.specs.Prelude.{Ok, ℕ, ◌+◌, ◌-◌, ◌*◌, ◌≤◌, ◌<◌, ◌≡◌, refl, List, length}
use Rattle.std.proofs.Common.{⊎_elim, ne_eqb}
use native.Mathlib.Omega.{arith}
use Rattle.std.proofs.lemmas.List.Edits.{sets}
use Rattle.rows.specs.declared.Ring.{Ring}
use Rattle.rows.specs.Rows.{place_of, without}
use Rattle.rows.specs.RowsLaws.{place_is, place-lt, place-le, place_differs}
use Rattle.seen.specs.declared.SeenCache.{SeenCache}
use Rattle.seen.specs.declared.Entry.TheVariants.{Fresh}
use Rattle.seen.specs.Entries.{until}
use Rattle.seen.specs.State.{dropped, appended, id_size, ring_of}
use Rattle.seen.specs.Calls.{cap_of, lent_of, entered, entered_store, insert_answer, insert_cache, insert_store}
use Rattle.seen.specs.Laws.{well_formed-exactly, fresh-tests}

-- c and st before, d and st2 after, in a store of cap places
pub record Written (cap : ℕ) (c d : SeenCache) (st st2 id : List ℕ) : Type 0 where
  pub place : ℕ
  -- it is the newest row's place
  pub last : place ≡ place_of (ring_of cap d) (d.count - 1)
  pub in_range : place < cap
  -- and of no other row that is kept
  pub free : (j : ℕ) → j < d.count - 1 → place_of (ring_of cap d) j ≡ place → ⊥
  -- where all places were in use it is the place that the oldest left
  pub freed : c.count ≡ cap → place ≡ place_of (ring_of cap c) 0
  -- and the id is all that is written
  pub stored : st2 ≡ sets st (place * id_size) id

-- without the k oldest of a full ring, the next place is the oldest's
full_place : (ring : Ring) (k : ℕ) → ring.start ≤ ring.cap → 1 ≤ k → k ≤ ring.cap
    → place_of (without k ring) (ring.cap - k) ≡ place_of ring 0
full_place ring k a b h =
    let l = place-le ring k a h in
    ⊎_elim
    (λ u. ⊎_elim (λ v. ⊎_elim (λ r. omega arith) (λ r. omega arith) (place_is ring 0 a))
    (λ v. ⊎_elim (λ r. omega arith) (λ r. omega arith) (place_is ring 0 a))
    (place_is (without k ring) (ring.cap - k) l))
    (λ u. ⊎_elim (λ v. ⊎_elim (λ r. omega arith) (λ r. omega arith) (place_is ring 0 a))
    (λ v. ⊎_elim (λ r. omega arith) (λ r. omega arith) (place_is ring 0 a))
    (place_is (without k ring) (ring.cap - k) l))
    (place_is ring k a)

module _ (cap max : ℕ) (c : SeenCache) (st id : List ℕ) (e : ℕ) (starts : c.start ≤ cap) (within : c.count ≤ cap)
    (room : max ≤ cap) (some : max ≡ 0 → ⊥) where
  abbrev left : ℕ
  left = (c.count + 1) - max

  abbrev spot : ℕ
  spot = place_of (without left (ring_of cap c)) (c.count - left)

  spot-freed : c.count ≡ cap → spot ≡ place_of (ring_of cap c) 0
  spot-freed full = rw full (full_place (record { cap = cap; start = c.start; count = cap }) ((cap + 1) - max) starts
      (omega arith) (omega (arith, some)))

  -- what an id that is not held leaves
  pub entered-written : Written cap c (entered cap max (length id) e c) st (entered_store cap max c st id) id
  unfolding entered entered_store dropped appended place_of
  entered-written =
      let n : ((c.count - left) + 1) - 1 ≡ c.count - left = omega arith in
      let h : left ≤ c.count = omega (arith, some) in
      let l = place-le (ring_of cap c) left starts (omega arith) in
      let k : c.count - left < cap = omega (arith, some) in
      rw (ne_eqb max 0 some)
      (record {
        place = spot;
        last = rw n;
        in_range = place-lt (without left (ring_of cap c)) (c.count - left) l k;
        free = λ j q s. place_differs (without left (ring_of cap c)) j (c.count - left) l (rw n at q) k s;
        freed = spot-freed;
        stored = refl;
      })

-- an insert that is answered fresh
pub freed-place-used : (max at ttl : ℕ) (c : SeenCache) (st id : List ℕ) → lent_of c st ≡ Ok tt → (max ≡ 0 → ⊥)
    → insert_answer max c st id ≡ Ok Fresh
    → Written (cap_of st) c (insert_cache max at ttl c st id) st (insert_store max c st id) id
unfolding insert_cache insert_store
freed-place-used max at ttl c st id fine some fresh =
    let w = (well_formed-exactly c st).0 fine in
    let t = fresh-tests max c st id fine fresh in
    rw fresh (entered-written (cap_of st) max c st id (until at ttl) w.starts w.within t.0 some)
