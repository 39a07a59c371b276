-- Laws of the test for a well formed state: what it asks, part by part, and what that says of each row.
use Rattle.std.specs.Prelude.{Ok, ◌≡◌, ℕ, zero, suc, ◌-◌, ◌*◌, ◌<◌, ◌≤◌, Bool, true, List, [], ◌∷◌, length, get_or, drop, ◌==◌, nat_le, slice_index, slice_index_or, refl}
use Rattle.std.proofs.Math.Path.{sym, ap}
use Rattle.std.proofs.Common.{◌∙◌, le-leb, leb-true, eqb-true, eq-eqb}
use native.Mathlib.Omega.{arith}
use Rattle.basis.specs.Dialect.{mode_of}
use Rattle.basis.specs.Cases.{either, clash, both}
use Rattle.rows.specs.declared.Ring.{Ring}
use Rattle.rows.specs.Rows.{tab, place_of, rows_in}
use Rattle.rows.specs.RowsLaws.{length-tab, get_d_tab}
use Rattle.rows.specs.Ids.{distinct}
use Rattle.rows.specs.Store.{id_at, ids_in, in_use, all_up_to, Sound}
use Rattle.admission.specs.Flags.{known_flags}
use Rattle.admission.specs.Admission.{Span, topic_places, gives_id, kept_with}
use Rattle.admission.specs.TopicLaws.{gives-few, length_spans, kept-only}
use Rattle.mcache.specs.declared.MessageCache.{MessageCache}
use Rattle.mcache.specs.State.{message_in, falls_from, runs_to, gives_at, all_true, gives_in, ids_fit, rows_fit, legal}
use Rattle.mcache.specs.State.{well_formed, Usable, message_size, message_id_size, message_limit, max_history, ring_of}
use Rattle.mcache.specs.State.{max_topics, table_of, topics_at}
use Rattle.mcache.specs.Calls.{lent_of}
use Rattle.mcache.specs.WellFormed.{Sized}
use Rattle.rows.specs.StoreLaws.{short_in}

-- what is asked of a state
pub record Tests (c : MessageCache) (st : List ℕ) : Type 0 where
  pub room : length st ≡ c.max_messages * message_size
  pub history_some : 1 ≤ c.history_len
  pub history_few : c.history_len ≤ max_history
  pub few : c.max_messages ≤ message_limit
  pub known : known_flags c.flags ≡ true
  pub starts : c.start ≤ c.max_messages
  pub within : c.count ≤ c.max_messages
  pub falls : falls_from (c.history_len - 1) (in_use (ring_of c) c.window) ≡ true
  pub runs : runs_to c.next_generation (in_use (ring_of c) c.generation) ≡ true
  pub id-short : all_up_to message_id_size (in_use (ring_of c) c.id_len) ≡ true
  pub gives : gives_in c.flags (ring_of c) c.len c.id_len c.ids (table_of c) st ≡ true
  pub once : distinct (ids_in message_id_size (ring_of c) c.id_len c.ids) ≡ true

fine-both : (c : MessageCache) (st : List ℕ) → lent_of c st ≡ Ok tt → (length st ≡ c.max_messages * message_size)
    × (well_formed c st ≡ true)
unfolding lent_of
fine-both c st h =
    either (length st == c.max_messages * message_size)
    (λ t. either (well_formed c st) (λ u. (eqb-true (length st) (c.max_messages * message_size) t, u))
    (λ u. clash (let z = simp (t, u) at h in cc)))
    (λ t. clash (let z = simp t at h in cc))

pub fine-tests : (c : MessageCache) (st : List ℕ) → lent_of c st ≡ Ok tt → Tests c st
unfolding well_formed legal rows_fit ids_fit
fine-tests c st h =
    let f = fine-both c st h in
    let a = both _ _ f.1 in
    let l = both _ _ a.0 in
    let m = both _ _ l.1 in
    let k = both _ _ m.1 in
    let b = both _ _ a.1 in
    let d = both _ _ b.1 in
    let w = both _ _ d.1 in
    let g = both _ _ w.1 in
    let i = both _ _ g.1 in
    let j = both _ _ i.1 in
    record {
      room = f.0;
      history_some = leb-true 1 c.history_len l.0;
      history_few = leb-true c.history_len max_history m.0;
      few = leb-true c.max_messages message_limit k.0;
      known = k.1;
      starts = leb-true c.start c.max_messages b.0;
      within = leb-true c.count c.max_messages d.0;
      falls = w.0;
      runs = g.0;
      id-short = i.0;
      gives = j.0;
      once = j.1;
    }

-- and that it is enough
pub tests-fine : (c : MessageCache) (st : List ℕ) → Tests c st → lent_of c st ≡ Ok tt
unfolding lent_of well_formed legal rows_fit ids_fit
tests-fine c st t =
    simp (
      eq-eqb (length st) (c.max_messages * message_size) t.room,
      le-leb 1 c.history_len t.history_some,
      le-leb c.history_len max_history t.history_few,
      le-leb c.max_messages message_limit t.few,
      t.known,
      le-leb c.start c.max_messages t.starts,
      le-leb c.count c.max_messages t.within,
      t.falls,
      t.runs,
      t.id-short,
      t.gives,
      t.once,
    )

-- ---- a test of each row
all-each : (l : List Bool) (i : ℕ) → all_true l ≡ true → i < length l → slice_index_or l i true ≡ true
unfolding all_true
all-each [] i h k = absurd (omega arith)
all-each (b ∷ l) zero h k = (both b (all_true l) h).0
all-each (b ∷ l) (suc i) h k = all-each l i (both b (all_true l) h).1 (omega arith)

each_all : (l : List Bool) → ((i : ℕ) → i < length l → slice_index_or l i true ≡ true) → all_true l ≡ true
unfolding all_true
each_all [] h = refl
each_all (b ∷ l) h = simp (h 0 (omega arith)) (each_all l (λ i k. h (suc i) (omega arith)))

module _ (f : ℕ → Bool) (ring : Ring) where
  pub true_in : all_true (rows_in f ring) ≡ true → (i : ℕ) → i < ring.count → f (place_of ring i) ≡ true
  unfolding rows_in
  true_in h i k =
      let g : ℕ → Bool = λ (j : ℕ). f (place_of ring j) in
      let l : i < length (tab g ring.count) = rw (length-tab g ring.count) k in
      sym (get_d_tab g ring.count i true k) ∙ all-each (tab g ring.count) i h l

  pub in_true : ((i : ℕ) → i < ring.count → f (place_of ring i) ≡ true) → all_true (rows_in f ring) ≡ true
  unfolding rows_in
  in_true h =
      let g : ℕ → Bool = λ (j : ℕ). f (place_of ring j) in
      each_all (tab g ring.count) (λ i k. let l : i < ring.count = rw (length-tab g ring.count) at k in
      get_d_tab g ring.count i true l ∙ h i l)

-- ---- each row's message fits its place and gives its id
module _ (c : MessageCache) (st : List ℕ) (t : Tests c st) (i : ℕ) (h : i < c.count) where
  abbrev p : ℕ
  p = place_of (ring_of c) i

  gives_row : (nat_le (slice_index c.len p) message_size ≡ true)
      × (kept_with c.flags (message_in c.len st p) (id_at message_id_size c.id_len c.ids p)
      (topics_at (table_of c) p) ≡ true)
  unfolding gives_in gives_at
  gives_row = both _ _ (true_in (gives_at c.flags c.len c.id_len c.ids (table_of c) st) (ring_of c)
      t.gives i h)

  pub row-short : get_or c.len p 0 ≤ message_size
  row-short = leb-true (slice_index c.len p) message_size gives_row.0

  pub row_gives : gives_id c.flags (message_in c.len st p) (id_at message_id_size c.id_len c.ids p) ≡ true
  row_gives = (kept-only c.flags (message_in c.len st p) _ _ gives_row.1).0

  pub row-topics : topics_at (table_of c) p ≡ topic_places (mode_of c.flags) (message_in c.len st p)
  row-topics = (kept-only c.flags (message_in c.len st p) _ _ gives_row.1).1

  pub row-few : get_or c.topic_count p 0 ≤ max_topics
  unfolding topics_at
  row-few =
      let n = length_spans (drop (p * max_topics) c.topic_start) (drop (p * max_topics) c.topic_len)
      (slice_index c.topic_count p) in
      let e = ap (λ (l : List Span). length l) row-topics in
      omega (
        arith,
        gives-few c.flags (message_in c.len st p)
            (id_at message_id_size c.id_len c.ids p) row_gives,
      )

  pub row-id-short : get_or c.id_len p 0 ≤ message_id_size
  row-id-short = short_in message_id_size c.id_len (ring_of c) t.id-short i h

-- ---- a state that passes has its rows within the arrays and the store
pub lent-kept : (c : MessageCache) (st : List ℕ) → lent_of c st ≡ Ok tt → Sized c → Usable c st
lent-kept c st h z =
    let t = fine-tests c st h in
    record {
      rows =
          record {
            few = t.few;
            starts = t.starts;
            within = t.within;
            lengths = z.lengths;
            id-lengths = z.id-lengths;
            id-room = z.id-room;
            topics = z.topics;
            room = t.room;
            id-short = row-id-short c st t;
          };
      short = row-short c st t;
      windows = z.windows;
      generations = z.generations;
    }

-- ---- the ids of a tested state stand in sound rows
pub kept-sound : (c : MessageCache) (st : List ℕ) → Usable c st → Sound message_id_size (ring_of c) c.id_len c.ids
kept-sound c st ok =
    let r = ok.rows in
    record {
      rows = record { starts = r.starts; within = r.within; size = omega (arith, r.few, r.id-lengths) };
      room = omega (arith, r.few, r.id-room);
      short = r.id-short;
    }
