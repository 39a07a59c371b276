-- The steps on the rows, as the code makes them.
use Prim.Native.Nat.{ℕ, ◌+◌, ◌-◌, ◌*◌, ◌≤◌, ◌<◌}
use mathlib.Core.Path.{◌≡◌, sym, ap, ◌∙◌}
use mathlib.Core.List.{List, append_assoc}
use native.Mathlib.Omega.{arith}
use lib.ListN.{length, take, drop, set}
use lib.Seq.{sets, sets-eq, drop-drop}
use lib.Dec.{ltb, leb}
use borrow.Rule.Slice.PartMut.{put_mid}
use mathlib.Core.Bool.{true, false}
use borrow.Author.Tests.{eq-eqb, ne_eqb, leb-true}
use Rattle.basis.specs.Cases.{both}
use Rattle.rows.specs.declared.Ring.{Ring}
use Rattle.rows.specs.Rows.{place_of}
use Rattle.rows.specs.Ids.{index_of}
use Rattle.rows.specs.Store.{InStore, ids_in}
use Rattle.rows.specs.RowsLaws.{place-le}
use Rattle.rows.specs.StoreLaws.{find_among}
use Rattle.seen.specs.declared.SeenCache.{SeenCache}
use Rattle.seen.specs.State.{dropped, appended, id_size, max_ids, ring_of}
use Rattle.seen.specs.Calls.{held_in, can_enter, entered, entered_store}
use Rattle.seen.specs.Unique.{Enters}

-- what a copy into the part from `at` on leaves in the whole
pub sets-part : (st id y : List ℕ) (at : ℕ) → at + length id ≤ length st → y ≡ id → put_mid at ((at + length id) - at) st y ≡ sets st at id
sets-part st id y at h e =
    let k : (at + length id) - at ≡ length id = omega arith in
    rw (e, k, drop-drop) (sym (sets-eq id st at h ∙ append_assoc (take at st) id (drop (at + length id) st)))

pub appended-is : (cap n e p : ℕ) (c : SeenCache) → p ≡ place_of (ring_of cap c) c.count
    → ◌≡◌ {A = SeenCache} (record { start = c.start; count = c.count + 1; expiry = set c.expiry p e; len = set c.len p n }) (appended cap n e c)
unfolding appended
appended-is cap n e p c h = rw h

pub appended-store : (cap p : ℕ) (c : SeenCache) (st st2 id : List ℕ) → p ≡ place_of (ring_of cap c) c.count → st2 ≡ sets st (p * id_size) id → st2 ≡ sets st (place_of (ring_of cap c) c.count * id_size) id
appended-store cap p c st st2 id h e = e ∙ ap (λ (i : ℕ). sets st (i * id_size) id) h

pub held-is : (cap r : ℕ) (c : SeenCache) (st id : List ℕ) → r ≡ index_of id (ids_in id_size (ring_of cap c) c.len st) → ltb r c.count ≡ held_in cap c st id
unfolding held_in
held-is cap r c st id e = sym (find_among id_size (ring_of cap c) c.len st id 0 r (omega arith))

-- ---- what it says that an id can enter
pub record Can (m : ℕ) (ring : Ring) (len n : ℕ) : Type 0 where
  pub starts : ring.start ≤ ring.cap
  pub within : ring.count ≤ ring.cap
  pub few : ring.cap ≤ max_ids
  pub room : ring.cap * id_size ≤ len
  pub max : m ≤ ring.cap
  pub short : n ≤ id_size

pub can : (max : ℕ) (ring : Ring) (room n : ℕ) → can_enter max ring room n ≡ true → Can max ring room n
unfolding can_enter
can max ring room n h =
    let a = both (leb ring.start ring.cap) _ h in
    let b = both (leb ring.count ring.cap) _ a.1 in
    let d = both (leb ring.cap max_ids) _ b.1 in
    let e = both (leb (ring.cap * id_size) room) _ d.1 in
    let f = both (leb max ring.cap) (leb n id_size) e.1 in
    record {
      starts = leb-true ring.start ring.cap a.0;
      within = leb-true ring.count ring.cap b.0;
      few = leb-true ring.cap max_ids d.0;
      room = leb-true (ring.cap * id_size) room e.0;
      max = leb-true max ring.cap f.0;
      short = leb-true n id_size f.1;
    }

-- ---- an id enters
module _ (cap max : ℕ) (c : SeenCache) (st id : List ℕ) (e : ℕ) where
  pub entered-not : can_enter max (ring_of cap c) (length st) (length id) ≡ false → Enters cap max e c st id c st
  entered-not h = record { cache = rw h; store = rw h }

  module _ (yes : can_enter max (ring_of cap c) (length st) (length id) ≡ true) where
    -- with max 0 all leave
    pub entered-none : (r : SeenCache) → max ≡ 0 → r ≡ dropped cap c.count c → Enters cap max e c st id r st
    unfolding entered entered_store
    entered-none r h d = let z = eq-eqb max 0 h in record { cache = rw (yes, z) d; store = rw (yes, z) }

    module _ (k : ℕ) (d : SeenCache) (some : max ≡ 0 → ⊥) (ek : k ≡ (c.count + 1) - max) (ed : d ≡ dropped cap k c) where
      -- there is room for a row more
      pub enter-room : length c.len ≡ max_ids → InStore (ring_of cap d) d.len × ((d.count < cap) × ((cap * id_size ≤ length st) × (length id ≤ id_size)))
      unfolding dropped
      enter-room z =
          let r = can max (ring_of cap c) (length st) (length id) yes in
          let a = r.starts in
          let w = r.within in
          let f = r.few in
          let m = r.max in
          let n : d.count ≡ c.count - k = ap (λ (x : SeenCache). x.count) ed in
          let i : InStore (ring_of cap (dropped cap k c)) c.len =
          record { starts = place-le (ring_of cap c) k a (omega (arith, some)); within = omega arith; size = omega arith } in
          (rw ed i, (omega (arith, some), (r.room, r.short)))

      pub entered-some : (r : SeenCache) (st2 : List ℕ) → r ≡ appended cap (length id) e d → st2 ≡ sets st (place_of (ring_of cap d) d.count * id_size) id → Enters cap max e c st id r st2
      unfolding entered entered_store
      entered-some r st2 er es =
          let z = ne_eqb max 0 some in
          let w : d ≡ dropped cap ((c.count + 1) - max) c = ed ∙ ap (λ (i : ℕ). dropped cap i c) ek in
          record {
            cache = rw (yes, z) (er ∙ ap (appended cap (length id) e) w);
            store = rw (yes, z) (es ∙ ap (λ (x : SeenCache). sets st (place_of (ring_of cap x) x.count * id_size) id) w);
          }
