-- What the steps on the rows do to the entries: the oldest leave, and a row more is an entry more at the end. Both
-- leave the rows sound.
use Rattle.std.specs.Prelude.{ℕ, ◌+◌, ◌-◌, ◌*◌, ◌^◌, ◌≤◌, ◌<◌, ◌≡◌, true, false, drop, leb, eqb}
use Rattle.std.proofs.Math.Path.{refl, sym, ap}
use Rattle.std.proofs.Common.{◌∙◌, arith}
use mathlib.Core.List.{List, [], ◌∷◌, ◌++◌, map}
use Rattle.std.proofs.Math.ListN.{length, length-append, length-set, drop_of_length-le}
use Rattle.std.proofs.lemmas.List.Edits.{sets}
use Rattle.std.proofs.lemmas.List.{drop-append-le}
use Rattle.std.proofs.Math.Seq.{get_or-set_same, get_or-set_other}
use borrow.Author.Tests.{eqb-true, eqb-false}
use Rattle.basis.specs.Cases.{either}
use Rattle.rows.specs.Rows.{place_of, newest}
use Rattle.rows.specs.RowsLaws.{place_differs, length_ring, ring_drop, ring_more, map_ring}
use Rattle.rows.specs.RowsLaws.{newest-more}
use Rattle.rows.specs.Ids.{among}
use Rattle.rows.specs.Store.{ids_in, in_use, Sound}
use Rattle.rows.specs.StoreLaws.{id-kept, id-put, free-within, sound_more}
use Rattle.seen.specs.declared.SeenCache.{SeenCache}
use Rattle.seen.specs.Entries.{Entry, ids_of, holds, until, inserted, live}
use Rattle.seen.specs.State.{row_at, entries_in, spent, dropped, appended, id_size, ring_of}
use Rattle.seen.specs.StateLaws.{spent_in, sound-dropped}
use Rattle.seen.specs.Calls.{held_in, cleaned, entered, entered_store}
use Rattle.seen.specs.WellFormed.{Sized}

-- ---- the entries' ids and expiries are the rows'
module _ (cap : ℕ) (c : SeenCache) (st : List ℕ) where
  pub length-entries : length (entries_in cap c st) ≡ c.count
  unfolding entries_in
  length-entries = length_ring (row_at c st) (ring_of cap c)

  pub ids-entries : ids_of (entries_in cap c st) ≡ ids_in id_size (ring_of cap c) c.len st
  unfolding entries_in ids_in row_at
  ids-entries = map_ring (λ (e : Entry). e.id) (row_at c st) (ring_of cap c)

  pub expiries-entries : map (λ (e : Entry). e.expiry) (entries_in cap c st) ≡ in_use (ring_of cap c) c.expiry
  unfolding entries_in in_use row_at
  expiries-entries = map_ring (λ (e : Entry). e.expiry) (row_at c st) (ring_of cap c)

  pub holds-entries : (id : List ℕ) → holds id (entries_in cap c st) ≡ held_in cap c st id
  unfolding holds held_in
  holds-entries id = ap (among id) ids-entries

-- ---- without the k oldest
pub entries-dropped : (cap k : ℕ) (c : SeenCache) (st : List ℕ) → c.start ≤ cap → c.count ≤ cap → k ≤ c.count
    → entries_in cap (dropped cap k c) st ≡ drop k (entries_in cap c st)
unfolding entries_in dropped row_at
entries-dropped cap k c st a b h = ring_drop (row_at c st) (ring_of cap c) k a b h

-- ---- with a row more
module _ (cap : ℕ) (c : SeenCache) (st id : List ℕ) (e : ℕ) (s : Sound id_size (ring_of cap c) c.len st) (z : Sized c)
    (h : c.count < cap) (k : length id ≤ id_size) where
  abbrev q : ℕ
  q = place_of (ring_of cap c) c.count

  kept_row : (i : ℕ) → i < c.count → row_at (appended cap (length id) e c) (sets st (q * id_size) id)
      (place_of (ring_of cap c) i) ≡ row_at c st (place_of (ring_of cap c) i)
  unfolding row_at appended
  kept_row i j =
      let other = place_differs (ring_of cap c) i c.count s.rows.starts j h in
      rw (
        id-kept id_size c.len st id q k (place_of (ring_of cap c) i) other (s.short i j),
        get_or-set_other c.expiry q (place_of (ring_of cap c) i) e 0 other,
      )

  new_row : row_at (appended cap (length id) e c) (sets st (q * id_size) id) q ≡ record { id = id; expiry = e }
  unfolding row_at appended
  new_row =
      let b = free-within id_size (ring_of cap c) c.len st s h (length id) q k refl in
      rw (id-put id_size c.len st id q b.0 b.1, get_or-set_same c.expiry q e 0 (omega arith))

  pub entries-appended : entries_in cap (appended cap (length id) e c) (sets st (q * id_size) id) ≡ entries_in cap c st
      ++ (record { id = id; expiry = e } ∷ [])
  unfolding entries_in appended
  entries-appended =
      ring_more (row_at c st) (ring_of cap c) (row_at (appended cap (length id) e c) (sets st (q * id_size) id)) kept_row
      ∙ ap (λ (x : Entry). entries_in cap c st ++ (x ∷ [])) new_row

  pub sound-appended : Sound id_size (ring_of cap (appended cap (length id) e c)) (appended cap (length id) e c).len
      (sets st (q * id_size) id)
  unfolding appended
  sound-appended = sound_more id_size (ring_of cap c) c.len st s h id k

-- ---- an id that is not held
module _ (cap max : ℕ) (c : SeenCache) (st id : List ℕ) (e : ℕ) (s : Sound id_size (ring_of cap c) c.len st)
    (z : Sized c) (m : max ≤ cap) (k : length id ≤ id_size) where
  abbrev left : ℕ
  left = (c.count + 1) - max

  abbrev rest : SeenCache
  rest = dropped cap left c

  module _ (some : max ≡ 0 → ⊥) where
    left_in_lem : left ≤ c.count
    left_in_lem = omega (arith, some)

    rest-sound : Sound id_size (ring_of cap rest) rest.len st
    rest-sound = sound-dropped cap left c st s left_in_lem

    rest-room : rest.count < cap
    unfolding dropped
    rest-room = omega (arith, some, s.rows.within)

    rest-sized : Sized rest
    unfolding dropped
    rest-sized = z

  pub sound-entered : Sound id_size (ring_of cap (entered cap max (length id) e c)) (entered cap max (length id) e c).len
      (entered_store cap max c st id)
  unfolding entered entered_store
  sound-entered =
      either (eqb max 0)
      (λ t. rw t (sound-dropped cap c.count c st s (omega arith)))
      (λ t. let n = eqb-false max 0 t in
      rw t (sound-appended cap rest st id e (rest-sound n) (rest-sized n) (rest-room n) k))

  pub sized-entered : Sized (entered cap max (length id) e c)
  unfolding entered dropped appended
  sized-entered =
      either (eqb max 0) (λ t. rw t z)
      (λ t. rw t (length-set c.expiry _ e ∙ z.0, length-set c.len _ (length id) ∙ z.1))

  pub entries-entered : entries_in cap (entered cap max (length id) e c) (entered_store cap max c st id) ≡ newest max
      (entries_in cap c st ++ (record { id = id; expiry = e } ∷ []))
  unfolding entered entered_store newest
  entries-entered =
      let r = s.rows in
      let es = entries_in cap c st in
      let n : length es ≡ c.count = length-entries cap c st in
      let x : List Entry = record { id = id; expiry = e } ∷ [] in
      let l : length (es ++ x) ≡ c.count + 1 = length-append es x ∙ ap (λ (y : ℕ). y + 1) n in
      either (eqb max 0)
      (λ t.
      let y = eqb-true max 0 t in
      rw t (entries-dropped cap c.count c st r.starts r.within (omega arith)
      ∙ drop_of_length-le es {i = c.count} (omega arith)
      ∙ sym (drop_of_length-le (es ++ x) {i = length (es ++ x) - max} (omega arith))))
      (λ t.
      let y = eqb-false max 0 t in
      rw (t, l) (entries-appended cap rest st id e (rest-sound y) (rest-sized y) (rest-room y) k
      ∙ ap (λ (v : List Entry). v ++ x) (entries-dropped cap left c st r.starts r.within (left_in_lem y))
      ∙ sym (drop-append-le left es x (omega (arith, left_in_lem y)))))

-- ---- what has expired
live-drop : (at : ℕ) (es : List Entry) → live at es ≡ drop (spent at (map (λ (e : Entry). e.expiry) es)) es
unfolding live spent
live-drop at [] = refl
live-drop at (e ∷ es) = either (leb e.expiry at) (λ t. simp t (live-drop at es)) (λ t. simp t)

pub entries-cleaned : (cap at : ℕ) (c : SeenCache) (st : List ℕ) → c.start ≤ cap → c.count ≤ cap
    → entries_in cap (cleaned cap at c) st ≡ live at (entries_in cap c st)
unfolding cleaned
entries-cleaned cap at c st a b =
    entries-dropped cap (spent at (in_use (ring_of cap c) c.expiry)) c st a b (spent_in at (ring_of cap c) c.expiry)
    ∙ sym (live-drop at (entries_in cap c st) ∙ ap (λ (l : List ℕ). drop (spent at l) (entries_in cap c st))
    (expiries-entries cap c st))

-- ---- a later reading expires later; and a reading within ttl, below the last, comes before
pub until-later : (at later ttl : ℕ) → at ≤ later → until at ttl ≤ until later ttl
unfolding until
until-later at later ttl h = omega arith

pub until-within : (r first ttl : ℕ) → r < first + ttl → r < 2 ^ 64 - 1 → r < until first ttl
unfolding until
until-within r first ttl h k = omega arith

-- ---- with room, an id goes last and all stay; one that is held changes nothing
pub insert_room : (max : ℕ) (id : List ℕ) (at ttl : ℕ) (es : List Entry) → holds id es ≡ false → length es < max
    → inserted max id at ttl es ≡ es ++ (record { id = id; expiry = until at ttl } ∷ [])
unfolding inserted
insert_room max id at ttl es h r =
    let x : Entry = record { id = id; expiry = until at ttl } in
    let e : (length es + 1) - max ≡ 0 = omega arith in
    rw h (newest-more max es x (λ z. omega arith) ∙ ap (λ (n : ℕ). drop n es ++ (x ∷ [])) e)

pub insert_held_lem : (max : ℕ) (id : List ℕ) (at ttl : ℕ) (es : List Entry) → holds id es ≡ true
    → inserted max id at ttl es ≡ es
unfolding inserted
insert_held_lem max id at ttl es h = rw h
