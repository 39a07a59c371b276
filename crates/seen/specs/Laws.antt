-- What the calls on a seen cache mean: they do to the entries what the scope says, a refused call changes nothing, and
-- every state that the calls reach is well formed.
use Rattle.std.specs.Prelude.{Some, None, Result, Ok, Err, ℕ, zero, suc, ◌-◌, ◌*◌, ◌/◌, ◌%◌, ◌≤◌, ◌≡◌, refl, List, [], ◌∷◌, ◌++◌, true, false, cond, ◌&&◌, ◌↔◌, leb, ltb, eqb}
use Rattle.std.proofs.Math.Path.{sym, ap}
use Rattle.std.proofs.Common.{◌∙◌, arith}
use Rattle.std.proofs.lemmas.List.{map-append, length-replicate}
use Rattle.std.proofs.Math.ListN.{length, drop}
use Rattle.std.proofs.Math.Seq.{length-sets}
use borrow.Author.Tests.{leb-true, eqb-true, le-leb, eq-eqb, ne_eqb, le-ltb, ltb-false}
use Rattle.basis.specs.Cases.{either, clash, both}
use Rattle.basis.specs.declared.Fault.{Fault}
use Rattle.rows.specs.Rows.{place_of, rows_in, newest, tab}
use Rattle.rows.specs.ListLaws.{map-drop}
use Rattle.rows.specs.Ids.{among, distinct}
use Rattle.rows.specs.IdsLaws.{distinct-drop, distinct_snoc}
use Rattle.rows.specs.Store.{ids_in, in_use, all_up_to, Sound}
use Rattle.rows.specs.StoreLaws.{short_in, short-all, once_in, all_once}
use Rattle.seen.specs.declared.SeenCache.{SeenCache}
use Rattle.seen.specs.declared.Entry.{Entry as Found}
use Rattle.seen.specs.declared.Entry.TheVariants.{Fresh, Held}
use Rattle.seen.specs.declared.SeenError.{SeenError}
use Rattle.seen.specs.Entries.{Entry, ids_of, holds, until, inserted, live, front_expiry}
use Rattle.seen.specs.State.{entries_in, row_at, well_formed, spent, fresh, dropped, id_size, max_ids, ring_of}
use Rattle.seen.specs.StateLaws.{spent_in, sound-dropped}
use Rattle.seen.specs.EntriesLaws.{length-entries, ids-entries, holds-entries, entries-dropped, entries-entered}
use Rattle.seen.specs.EntriesLaws.{sound-entered, sized-entered, entries-cleaned}
use Rattle.seen.specs.Calls.{cap_of, whole_rows, lent_of, held_in, cleaned, entered, entered_store, insert_number}
use Rattle.seen.specs.Calls.{insert_answer, insert_cache, insert_store, contains_answer, gc_number, gc_answer, gc_cache}
use Rattle.seen.specs.Calls.{can_enter, lent_number, next_answer}
use Rattle.seen.specs.Unique.{Enters}
use Rattle.seen.specs.WellFormed.{Sized, WellFormed, Reached, begun, recorded, swept}

-- ---- the tests
fine-tests : (c : SeenCache) (st : List ℕ) → lent_of c st ≡ Ok tt → (whole_rows st ≡ true)
    × (well_formed (cap_of st) c st ≡ true)
unfolding lent_of
fine-tests c st h =
    either (whole_rows st)
    (λ t. either (well_formed (cap_of st) c st) (λ u. (t, u)) (λ u. clash (let z = simp (t, u) at h in cc)))
    (λ t. clash (let z = simp t at h in cc))

whole_room : (st : List ℕ) → whole_rows st ≡ true → (length st ≡ cap_of st * id_size) × (cap_of st ≤ max_ids)
unfolding whole_rows cap_of
whole_room st h =
    let b = both (eqb (length st % id_size) 0) (leb (length st / id_size) max_ids) h in
    let m = eqb-true (length st % id_size) 0 b.0 in
    (omega arith, leb-true (length st / id_size) max_ids b.1)

rows_whole : (st : List ℕ) → length st ≡ cap_of st * id_size → cap_of st ≤ max_ids → whole_rows st ≡ true
unfolding whole_rows cap_of
rows_whole st w f = simp (eq-eqb (length st % id_size) 0 (omega arith), le-leb (length st / id_size) max_ids f)

record Tests (cap : ℕ) (c : SeenCache) (st : List ℕ) : Type 0 where
  starts : c.start ≤ cap
  within : c.count ≤ cap
  short : all_up_to id_size (in_use (ring_of cap c) c.len) ≡ true
  once : distinct (ids_in id_size (ring_of cap c) c.len st) ≡ true

tests : (cap : ℕ) (c : SeenCache) (st : List ℕ) → well_formed cap c st ≡ true → Tests cap c st
unfolding well_formed
tests cap c st h =
    let a = both (leb c.start cap) _ h in
    let b = both (leb c.count cap) _ a.1 in
    let d = both (all_up_to id_size (in_use (ring_of cap c) c.len)) _ b.1 in
    record {
      starts = leb-true c.start cap a.0;
      within = leb-true c.count cap b.0;
      short = d.0;
      once = d.1;
    }

-- a state that passes is sound
pub lent-sound : (c : SeenCache) (st : List ℕ) → lent_of c st ≡ Ok tt → Sized c
    → Sound id_size (ring_of (cap_of st) c) c.len st
lent-sound c st h z =
    let f = fine-tests c st h in
    let w = whole_room st f.0 in
    let t = tests (cap_of st) c st f.1 in
    record {
      rows = record { starts = t.starts; within = t.within; size = omega arith };
      room = omega arith;
      short = short_in id_size c.len (ring_of (cap_of st) c) t.short;
    }

-- and what they ask is enough
fine_of : (c : SeenCache) (st : List ℕ) → whole_rows st ≡ true → c.start ≤ cap_of st → c.count ≤ cap_of st
    → all_up_to id_size (in_use (ring_of (cap_of st) c) c.len) ≡ true
    → distinct (ids_in id_size (ring_of (cap_of st) c) c.len st) ≡ true → lent_of c st ≡ Ok tt
unfolding lent_of well_formed
fine_of c st w a b s d = simp (w, le-leb c.start (cap_of st) a, le-leb c.count (cap_of st) b, s, d)

-- ---- a state that was tested can take an id
module _ (cap max : ℕ) (c : SeenCache) (st id : List ℕ) (m : max ≤ cap) (k : length id ≤ id_size) where
  rows-enter : c.start ≤ cap → c.count ≤ cap → cap ≤ max_ids → cap * id_size ≤ length st
      → can_enter max (ring_of cap c) (length st) (length id) ≡ true
  unfolding can_enter
  rows-enter a b f r =
      simp (
        le-leb c.start cap a,
        le-leb c.count cap b,
        le-leb cap max_ids f,
        le-leb (cap * id_size) (length st) r,
        le-leb max cap m,
        le-leb (length id) id_size k,
      )

  pub sound_enters : Sound id_size (ring_of cap c) c.len st → cap ≤ max_ids
      → can_enter max (ring_of cap c) (length st) (length id) ≡ true
  sound_enters s f = rows-enter s.rows.starts s.rows.within f s.room

  pub lent_enters : lent_of c st ≡ Ok tt → cap ≡ cap_of st
      → can_enter max (ring_of cap c) (length st) (length id) ≡ true
  lent_enters h e =
      let f = fine-tests c st h in
      let w = whole_room st f.0 in
      let t = tests (cap_of st) c st f.1 in
      rows-enter (rw e t.starts) (rw e t.within) (omega arith) (omega arith)

-- and what enters is `entered`
pub enters_can : (cap max e : ℕ) (c : SeenCache) (st id : List ℕ) (r : SeenCache) (left : List ℕ)
    → can_enter max (ring_of cap c) (length st) (length id) ≡ true → Enters cap max e c st id r left
    → (r ≡ entered cap max (length id) e c) × (left ≡ entered_store cap max c st id)
enters_can cap max e c st id r left y h = (rw y at h.cache, rw y at h.store)

-- ---- only a fresh id changes anything
pub not-fresh-stays : (max at ttl : ℕ) (c : SeenCache) (st id : List ℕ) (a : Result Found SeenError) → insert_answer max c st id ≡ a
    → (a ≡ Ok Fresh → ⊥)
    → (insert_cache max at ttl c st id ≡ c) × (insert_store max c st id ≡ st)
unfolding insert_cache insert_store
not-fresh-stays max at ttl c st id (Ok Fresh) e n = absurd (n refl)
not-fresh-stays max at ttl c st id (Ok Held) e n = (rw e, rw e)
not-fresh-stays max at ttl c st id (Err _) e n = (rw e, rw e)

-- ---- the calls on the entries
front_of : (f : ℕ → Entry) (n : ℕ) → cond (eqb n 0) None (Some (f 0).expiry) ≡ front_expiry (tab f n)
unfolding front_expiry
front_of f zero = refl
front_of f (suc n) = rw (ne_eqb (suc n) 0 (λ e. omega arith))

module _ (c : SeenCache) (st : List ℕ) (fine : lent_of c st ≡ Ok tt) where
  -- an id is held or fresh
  pub insert_says : (max : ℕ) (id : List ℕ) → max ≤ cap_of st → length id ≤ id_size
      → insert_answer max c st id ≡ Ok (cond (holds id (entries_in (cap_of st) c st)) Held Fresh)
  unfolding insert_answer
  insert_says max id m k =
      rw (le-ltb (cap_of st) max m, fine, le-ltb id_size (length id) k, holds-entries (cap_of st) c st id)

  pub insert_entries : Sized c → (max at ttl : ℕ) (id : List ℕ) → max ≤ cap_of st → length id ≤ id_size
      → entries_in (cap_of st) (insert_cache max at ttl c st id) (insert_store max c st id) ≡ inserted max id at ttl
      (entries_in (cap_of st) c st)
  unfolding insert_cache insert_store inserted
  insert_entries z max at ttl id m k =
      let says = insert_says max id m k in
      either (holds id (entries_in (cap_of st) c st))
      (λ t. rw (says, t))
      (λ t. rw (says, t) (entries-entered (cap_of st) max c st id (until at ttl) (lent-sound c st fine z) z m k))

  pub contains_says : (id : List ℕ) → length id ≤ id_size
      → contains_answer c st id ≡ Ok (holds id (entries_in (cap_of st) c st))
  unfolding contains_answer
  contains_says id k = rw (fine, le-ltb id_size (length id) k, holds-entries (cap_of st) c st id)

  pub gc_entries : (at : ℕ) → entries_in (cap_of st) (gc_cache at c st) st ≡ live at (entries_in (cap_of st) c st)
  unfolding gc_cache
  gc_entries at =
      let t = tests (cap_of st) c st (fine-tests c st fine).1 in
      rw fine (entries-cleaned (cap_of st) at c st t.starts t.within)

  -- how many are left
  pub gc_says : (at : ℕ) → gc_answer at c st ≡ Ok (length (live at (entries_in (cap_of st) c st)))
  unfolding gc_answer
  gc_says at =
      let t = tests (cap_of st) c st (fine-tests c st fine).1 in
      rw fine (ap Ok (sym (length-entries (cap_of st) (cleaned (cap_of st) at c) st)
      ∙ ap length (entries-cleaned (cap_of st) at c st t.starts t.within)))

  pub next-says : next_answer c st ≡ Ok (front_expiry (entries_in (cap_of st) c st))
  unfolding next_answer entries_in rows_in row_at
  next-says = rw fine (ap Ok (front_of (λ (i : ℕ). row_at c st (place_of (ring_of (cap_of st) c) i)) c.count))

-- ---- a refused call changes nothing
pub refused-unchanged : (max at ttl : ℕ) (c : SeenCache) (st id : List ℕ)
    → (insert_number (insert_answer max c st id) ≡ 0 → ⊥)
    → (insert_cache max at ttl c st id ≡ c) × (insert_store max c st id ≡ st)
refused-unchanged max at ttl c st id n = not-fresh-stays max at ttl c st id (insert_answer max c st id) refl
    (λ e. n (ap insert_number e))

not-fine-stays : (at : ℕ) (c : SeenCache) (st : List ℕ) (l : Result (Unit {0}) Fault) → lent_of c st ≡ l
    → (gc_number (gc_answer at c st) ≡ 0 → ⊥) → gc_cache at c st ≡ c
unfolding gc_cache gc_answer
not-fine-stays at c st (Ok _) e n = absurd (n (rw e))
not-fine-stays at c st (Err _) e n = rw e

-- a clean-up is not given the store to write
pub refused-unchanged_gc : (at : ℕ) (c : SeenCache) (st : List ℕ) → (gc_number (gc_answer at c st) ≡ 0 → ⊥)
    → gc_cache at c st ≡ c
refused-unchanged_gc at c st n = not-fine-stays at c st (lent_of c st) refl n

-- ---- well formed, exactly
pub well_formed-exactly : (c : SeenCache) (st : List ℕ) → (lent_of c st ≡ Ok tt) ↔ WellFormed c st
well_formed-exactly c st = (forth, back)
  where
    forth : lent_of c st ≡ Ok tt → WellFormed c st
    forth h =
        let f = fine-tests c st h in
        let w = whole_room st f.0 in
        let t = tests (cap_of st) c st f.1 in
        record {
          whole = w.0;
          few = w.1;
          starts = t.starts;
          within = t.within;
          short = short_in id_size c.len (ring_of (cap_of st) c) t.short;
          once = once_in id_size c.len st (ring_of (cap_of st) c) t.once;
        }

    back : WellFormed c st → lent_of c st ≡ Ok tt
    back w =
        fine_of c st (rows_whole st w.whole w.few) w.starts w.within
        (short-all id_size c.len (ring_of (cap_of st) c) w.short)
        (all_once id_size c.len st (ring_of (cap_of st) c) w.once)

-- ---- every state that the calls reach is well formed
sound-fine : (c : SeenCache) (st : List ℕ) → whole_rows st ≡ true → Sound id_size (ring_of (cap_of st) c) c.len st
    → distinct (ids_in id_size (ring_of (cap_of st) c) c.len st) ≡ true → lent_of c st ≡ Ok tt
sound-fine c st w s d =
    let r = s.rows in
    fine_of c st w r.starts r.within (short-all id_size c.len (ring_of (cap_of st) c) s.short) d

pub fresh-fine : (st : List ℕ) → whole_rows st ≡ true → lent_of fresh st ≡ Ok tt
unfolding fresh ids_in in_use rows_in all_up_to distinct
fresh-fine st h = fine_of fresh st h (omega arith) (omega arith) refl refl

pub fresh-sized : Sized fresh
unfolding fresh
fresh-sized = (length-replicate {A = ℕ} max_ids 0, length-replicate {A = ℕ} max_ids 0)

-- what a fresh answer tells
pub fresh-tests : (max : ℕ) (c : SeenCache) (st id : List ℕ) → lent_of c st ≡ Ok tt
    → insert_answer max c st id ≡ Ok Fresh → (max ≤ cap_of st) × (length id ≤ id_size)
    × (held_in (cap_of st) c st id ≡ false)
unfolding insert_answer
fresh-tests max c st id f h =
    either (ltb (cap_of st) max) (λ t. clash (let z = simp t at h in cc))
    (λ t. either (ltb id_size (length id)) (λ u. clash (let z = simp (t, f, u) at h in cc))
    (λ u. either (held_in (cap_of st) c st id) (λ v. clash (let z = simp (t, f, u, v) at h in cc))
    (λ v. (ltb-false (cap_of st) max t, ltb-false id_size (length id) u, v))))

-- ---- an insert keeps the store's length
same_cap : (st st2 : List ℕ) → length st2 ≡ length st → cap_of st2 ≡ cap_of st
unfolding cap_of
same_cap st st2 e = ap (λ (n : ℕ). n / id_size) e

same_whole : (st st2 : List ℕ) → length st2 ≡ length st → whole_rows st2 ≡ whole_rows st
unfolding whole_rows cap_of
same_whole st st2 e = ap (λ (n : ℕ). eqb (n % id_size) 0 && leb (n / id_size) max_ids) e

length-entered : (cap max : ℕ) (c : SeenCache) (st id : List ℕ) → length (entered_store cap max c st id) ≡ length st
unfolding entered_store
length-entered cap max c st id = either (eqb max 0) (λ t. rw t) (λ t. rw t (length-sets st _ id))

length-by : (max : ℕ) (c : SeenCache) (st id : List ℕ) (a : Result Found SeenError) → insert_answer max c st id ≡ a
    → length (insert_store max c st id) ≡ length st
unfolding insert_store
length-by max c st id (Ok Fresh) e = rw e (length-entered (cap_of st) max c st id)
length-by max c st id (Ok Held) e = rw e
length-by max c st id (Err _) e = rw e

pub insert_length : (max : ℕ) (c : SeenCache) (st id : List ℕ) → (length (insert_store max c st id) ≡ length st)
    × (cap_of (insert_store max c st id) ≡ cap_of st)
insert_length max c st id =
    let e = length-by max c st id (insert_answer max c st id) refl in
    (e, same_cap st (insert_store max c st id) e)

-- the ids that are left, and an id that is not among them, all differ
distinct-newest : (max : ℕ) (es : List Entry) (x : Entry) → distinct (ids_of es) ≡ true
    → among x.id (ids_of es) ≡ false → distinct (ids_of (newest max (es ++ (x ∷ [])))) ≡ true
unfolding newest
distinct-newest max es x d n =
    rw (
      map-drop (λ (e : Entry). e.id) (length (es ++ (x ∷ [])) - max) (es ++ (x ∷ [])),
      map-append (λ (e : Entry). e.id) es (x ∷ []),
    )
    (distinct-drop (length (es ++ (x ∷ [])) - max) (ids_of es ++ (x.id ∷ [])) (distinct_snoc (ids_of es) x.id d n))

entered-fine : (max e : ℕ) (c : SeenCache) (st id : List ℕ) → lent_of c st ≡ Ok tt → Sized c → max ≤ cap_of st
    → length id ≤ id_size → held_in (cap_of st) c st id ≡ false
    → lent_of (entered (cap_of st) max (length id) e c) (entered_store (cap_of st) max c st id) ≡ Ok tt
unfolding held_in
entered-fine max e c st id f z m k n =
    let cap = cap_of st in
    let c2 = entered cap max (length id) e c in
    let st2 = entered_store cap max c st id in
    let s = lent-sound c st f z in
    let t = tests cap c st (fine-tests c st f).1 in
    let l : length st2 ≡ length st = length-entered cap max c st id in
    let same : cap_of st2 ≡ cap = same_cap st st2 l in
    let d : distinct (ids_of (entries_in cap c st)) ≡ true = rw (ids-entries cap c st) t.once in
    let a : among id (ids_of (entries_in cap c st)) ≡ false = rw (ids-entries cap c st) n in
    let o : distinct (ids_in id_size (ring_of cap c2) c2.len st2) ≡ true =
    rw (← ids-entries cap c2 st2, entries-entered cap max c st id e s z m k)
    (distinct-newest max (entries_in cap c st) (record { id = id; expiry = e }) d a) in
    sound-fine c2 st2 (same_whole st st2 l ∙ (fine-tests c st f).0) (rw same (sound-entered cap max c st id e s z m k))
    (rw same o)

insert_by : (max at ttl : ℕ) (c : SeenCache) (st id : List ℕ) → lent_of c st ≡ Ok tt → Sized c → (a : Result Found SeenError)
    → insert_answer max c st id ≡ a
    → (lent_of (insert_cache max at ttl c st id) (insert_store max c st id) ≡ Ok tt)
    × Sized (insert_cache max at ttl c st id)
unfolding insert_cache insert_store
insert_by max at ttl c st id f z (Ok Fresh) e =
    let t = fresh-tests max c st id f e in
    rw e (
      entered-fine max (until at ttl) c st id f z t.0 t.1 t.2,
      sized-entered (cap_of st) max c st id (until at ttl) (lent-sound c st f z) z t.0 t.1,
    )
insert_by max at ttl c st id f z (Ok Held) e = rw e (f, z)
insert_by max at ttl c st id f z (Err _) e = rw e (f, z)

module _ (c : SeenCache) (st : List ℕ) (f : lent_of c st ≡ Ok tt) (z : Sized c) where
  -- whatever is asked, refused inserts too
  pub insert_fine : (max at ttl : ℕ) (id : List ℕ) → lent_of (insert_cache max at ttl c st id) (insert_store max c st id)
      ≡ Ok tt
  insert_fine max at ttl id = (insert_by max at ttl c st id f z (insert_answer max c st id) refl).0

  pub insert_sized : (max at ttl : ℕ) (id : List ℕ) → Sized (insert_cache max at ttl c st id)
  insert_sized max at ttl id = (insert_by max at ttl c st id f z (insert_answer max c st id) refl).1

  pub gc_fine : (at : ℕ) → lent_of (gc_cache at c st) st ≡ Ok tt
  unfolding gc_cache cleaned
  gc_fine at =
      let cap = cap_of st in
      let s = lent-sound c st f z in
      let t = tests cap c st (fine-tests c st f).1 in
      let k = spent at (in_use (ring_of cap c) c.expiry) in
      let h : k ≤ c.count = spent_in at (ring_of cap c) c.expiry in
      let d = dropped cap k c in
      let i : ids_in id_size (ring_of cap d) d.len st ≡ drop k (ids_in id_size (ring_of cap c) c.len st) =
      sym (ids-entries cap d st) ∙ ap ids_of (entries-dropped cap k c st t.starts t.within h)
      ∙ map-drop (λ (e : Entry). e.id) k (entries_in cap c st) ∙ ap (drop k) (ids-entries cap c st) in
      rw f (sound-fine d st (fine-tests c st f).0 (sound-dropped cap k c st s h)
      (rw i (distinct-drop k (ids_in id_size (ring_of cap c) c.len st) t.once)))

  pub gc_sized : (at : ℕ) → Sized (gc_cache at c st)
  unfolding gc_cache cleaned dropped
  gc_sized at = rw f z

reached_both : {c : SeenCache} {st : List ℕ} → Reached c st → (lent_of c st ≡ Ok tt) × Sized c
reached_both (begun st h) = (fresh-fine st h, fresh-sized)
reached_both (recorded {c} {st} r max at ttl id) = let b = reached_both r in
    (insert_fine c st b.0 b.1 max at ttl id, insert_sized c st b.0 b.1 max at ttl id)
reached_both (swept {c} {st} r at) = let b = reached_both r in
    (gc_fine c st b.0 b.1 at, gc_sized c st b.0 b.1 at)

pub reached_fine : {c : SeenCache} {st : List ℕ} → Reached c st → lent_number (lent_of c st) ≡ 0
reached_fine r = ap lent_number (reached_both r).0

-- ---- for readers
-- an entry whose expiry equals now is not kept
pub equal_expires : (at : ℕ) (e : Entry) (es : List Entry) → e.expiry ≡ at → live at (e ∷ es) ≡ live at es
unfolding live
equal_expires at e es h = rw (le-leb e.expiry at (omega arith))

-- an insert of a held id changes nothing, also where max is smaller than the count
pub held_stays : (max at ttl : ℕ) (c : SeenCache) (st id : List ℕ) → lent_of c st ≡ Ok tt
    → holds id (entries_in (cap_of st) c st) ≡ true
    → (insert_cache max at ttl c st id ≡ c) × (insert_store max c st id ≡ st)
held_stays max at ttl c st id f h =
    not-fresh-stays max at ttl c st id (insert_answer max c st id) refl
    (λ e. clash (let n = (fresh-tests max c st id f e).2 in let y = sym (holds-entries (cap_of st) c st id) ∙ h in cc))
