-- The test for a well formed cache asks exactly what the clauses of WellFormed say.
use Rattle.std.specs.Prelude.{Ok, ◌≡◌, ℕ, zero, suc, ◌+◌, ◌-◌, ◌%◌, ◌^◌, ◌<◌, ◌≤◌, true, ◌↔◌, List, [], ◌∷◌, map, length, ◌==◌, nat_le, slice_index, refl}
use Rattle.std.proofs.Common.{sym, ap, ◌∙◌, arith, zero-lt-suc, leb-true, le-leb, eqb-true, eq-eqb}
use Rattle.std.proofs.Math.Nat.{sub-zero}
use Rattle.basis.specs.Dialect.{mode_of}
use Rattle.basis.specs.Cases.{both}
use Rattle.rows.specs.declared.Ring.{Ring}
use Rattle.rows.specs.Rows.{tab, place_of, rows_in}
use Rattle.rows.specs.RowsLaws.{length-tab, get_d_tab}
use Rattle.rows.specs.Store.{in_use}
use Rattle.admission.specs.Flags.{max_flags, known_flags}
use Rattle.admission.specs.Admission.{topics_of, topic_places, cut, gives_id}
use Rattle.admission.specs.AdmissionLaws.{Gives, gives-own, gives-only}
use Rattle.admission.specs.TopicLaws.{cut-topics, kept-own}
use Rattle.mcache.specs.declared.MessageCache.{MessageCache}
use Rattle.mcache.specs.State.{message_in, falls_from, runs_to, gives_at, gives_in, message_size, message_id_size, ring_of}
use Rattle.mcache.specs.State.{table_of, topics_at}
use Rattle.mcache.specs.Calls.{lent_of}
use Rattle.rows.specs.StoreLaws.{short-all, once_in, all_once}
use Rattle.mcache.specs.WellFormed.{Typed, row_of, id_of, WellFormed, Reached}
use Rattle.mcache.specs.StateLaws.{fine-tests, tests-fine, in_true, row-short, row_gives, row-id-short}
use Rattle.mcache.specs.StateLaws.{row-topics}
use Rattle.mcache.specs.CachedLaws.{falls-each, falls_in}
use Rattle.mcache.specs.FineLaws.{reached_fine}

-- ---- windows that never rise
falls-next : (most : ℕ) (l : List ℕ) (i : ℕ) → falls_from most l ≡ true → suc i < length l
    → slice_index l (suc i) ≤ slice_index l i
unfolding falls_from
falls-next most [] i f h = absurd (omega arith)
falls-next most (w ∷ l) zero f h = falls-each w l 0 (both (nat_le w most) (falls_from w l) f).1 (omega arith)
falls-next most (w ∷ l) (suc i) f h = falls-next w l i (both (nat_le w most) (falls_from w l) f).1 (omega arith)

next-falls : (most : ℕ) (l : List ℕ) → (0 < length l → slice_index l 0 ≤ most)
    → ((i : ℕ) → suc i < length l → slice_index l (suc i) ≤ slice_index l i) → falls_from most l ≡ true
unfolding falls_from
next-falls most [] a f = refl
next-falls most (w ∷ l) a f =
    rw (le-leb w most (a (zero-lt-suc (length l)))) (next-falls w l (λ h. f 0 (omega arith))
    (λ i h. f (suc i) (omega arith)))

-- ---- arrival numbers that run on
runs-each : (next : ℕ) (l : List ℕ) (i : ℕ) → runs_to next l ≡ true → i < length l
    → (slice_index l i + (length l - i)) % 2 ^ 64 ≡ next
unfolding runs_to
runs-each next [] i r h = absurd (omega arith)
runs-each next (g ∷ l) zero r h =
    rw (sub-zero (suc (length l)))
    (eqb-true ((g + length (g ∷ l)) % 2 ^ 64) next
    (both ((g + length (g ∷ l)) % 2 ^ 64 == next) (runs_to next l) r).0)
runs-each next (g ∷ l) (suc i) r h =
    let e = runs-each next l i (both ((g + length (g ∷ l)) % 2 ^ 64 == next) (runs_to next l) r).1 (omega arith) in
    let n : suc (length l) - suc i ≡ length l - i = omega arith in
    rw n e

each-runs : (next : ℕ) (l : List ℕ) → ((i : ℕ) → suc i < length l → slice_index l (suc i) ≡ (slice_index l i + 1) % 2 ^ 64)
    → ((i : ℕ) → suc i ≡ length l → next ≡ (slice_index l i + 1) % 2 ^ 64) → runs_to next l ≡ true
unfolding runs_to
each-runs next [] f a = refl
each-runs next (g ∷ []) f a = rw (eq-eqb ((g + 1) % 2 ^ 64) next (sym (a 0 refl)))
each-runs next (g ∷ h ∷ l) f a =
    let r : runs_to next (h ∷ l) ≡ true = each-runs next (h ∷ l) (λ i k. f (suc i) (omega arith))
    (λ i k. a (suc i) (ap suc k)) in
    let b = both ((h + length (h ∷ l)) % 2 ^ 64 == next) (runs_to next l) r in
    let e : (h + suc (length l)) % 2 ^ 64 ≡ next = eqb-true ((h + length (h ∷ l)) % 2 ^ 64) next b.0 in
    let n : h ≡ (g + 1) % 2 ^ 64 = f 0 (omega arith) in
    rw (eq-eqb ((g + suc (suc (length l))) % 2 ^ 64) next (omega arith)) r

-- ---- the same of the rows
module _ (l : List ℕ) (ring : Ring) where
  abbrev at : ℕ → ℕ
  at i = slice_index l (place_of ring i)

  pub falls-rows : (most : ℕ) → falls_from most (in_use ring l) ≡ true → (i : ℕ) → suc i < ring.count
      → slice_index l (place_of ring (suc i)) ≤ slice_index l (place_of ring i)
  unfolding in_use rows_in
  falls-rows most f i h =
      let k : suc i < length (tab at ring.count) = rw (length-tab at ring.count) h in
      let r = falls-next most (tab at ring.count) i f k in
      rw (get_d_tab at ring.count (suc i) 0 h, get_d_tab at ring.count i 0 (omega arith)) at r

  pub rows-falls : (most : ℕ) → ((i : ℕ) → i < ring.count → slice_index l (place_of ring i) ≤ most)
      → ((i : ℕ) → suc i < ring.count → slice_index l (place_of ring (suc i)) ≤ slice_index l (place_of ring i))
      → falls_from most (in_use ring l) ≡ true
  unfolding in_use rows_in
  rows-falls most a f =
      next-falls most (tab at ring.count)
      (λ h. let k : 0 < ring.count = rw (length-tab at ring.count) at h in rw (get_d_tab at ring.count 0 0 k)
      (a 0 k))
      (λ i h. let k : suc i < ring.count = rw (length-tab at ring.count) at h in
      rw (get_d_tab at ring.count (suc i) 0 k, get_d_tab at ring.count i 0 (omega arith)) (f i k))

  pub runs-rows : (next : ℕ) → runs_to next (in_use ring l) ≡ true → (i : ℕ) → i < ring.count
      → (slice_index l (place_of ring i) + (ring.count - i)) % 2 ^ 64 ≡ next
  unfolding in_use rows_in
  runs-rows next r i h =
      let k : i < length (tab at ring.count) = rw (length-tab at ring.count) h in
      let e = runs-each next (tab at ring.count) i r k in
      rw (get_d_tab at ring.count i 0 h, length-tab at ring.count) at e

  pub rows_run : (next : ℕ)
      → ((i : ℕ) → suc i < ring.count → slice_index l (place_of ring (suc i)) ≡ (slice_index l (place_of ring i) + 1) % 2 ^ 64)
      → ((i : ℕ) → suc i ≡ ring.count → next ≡ (slice_index l (place_of ring i) + 1) % 2 ^ 64)
      → runs_to next (in_use ring l) ≡ true
  unfolding in_use rows_in
  rows_run next f a =
      each-runs next (tab at ring.count)
      (λ i h. let k : suc i < ring.count = rw (length-tab at ring.count) at h in
      rw (get_d_tab at ring.count (suc i) 0 k, get_d_tab at ring.count i 0 (omega arith)) (f i k))
      (λ i h. let k : suc i ≡ ring.count = h ∙ length-tab at ring.count in
      rw (get_d_tab at ring.count i 0 (omega arith)) (a i k))

-- known flags
known-few : (flags : ℕ) → known_flags flags ≡ true → flags ≤ max_flags
unfolding known_flags
known-few flags h = leb-true flags max_flags h

few-known : (flags : ℕ) → flags ≤ max_flags → known_flags flags ≡ true
unfolding known_flags
few-known flags h = le-leb flags max_flags h

gives_back : (flags : ℕ) (p i : List ℕ) → Gives flags p i → gives_id flags p i ≡ true
gives_back flags p i g =
    rw g.named (gives-own flags p g.records g.from_start g.from_end g.seqno-start g.seqno-end
    g.read
    g.taken)

rows_give : (c : MessageCache) (st : List ℕ) → WellFormed c st
    → gives_in c.flags (ring_of c) c.len c.id_len c.ids (table_of c) st ≡ true
unfolding gives_in gives_at
rows_give c st w =
    in_true (gives_at c.flags c.len c.id_len c.ids (table_of c) st) (ring_of c)
    (λ i h. rw (le-leb (slice_index c.len (row_of c i)) message_size (w.short i h))
    (kept-own c.flags (message_in c.len st (row_of c i)) (id_of c i) (topics_at (table_of c) (row_of c i))
    (gives_back c.flags (message_in c.len st (row_of c i)) (id_of c i) (w.gives i h)) (w.topics i h)))

-- ---- well formed, exactly
pub fine-well_formed : (c : MessageCache) (st : List ℕ) → Typed c → lent_of c st ≡ Ok tt → WellFormed c st
fine-well_formed c st y f =
    let t = fine-tests c st f in
    record {
      room = t.room;
      history_some = t.history_some;
      history_few = t.history_few;
      few = t.few;
      known = known-few c.flags t.known;
      starts = t.starts;
      within = t.within;
      short = row-short c st t;
      id-short = row-id-short c st t;
      once = once_in message_id_size c.id_len c.ids (ring_of c) t.once;
      recent = λ i h. omega
          (arith, falls_in (c.history_len - 1) c.window (ring_of c) t.falls i h, t.history_some);
      falls = falls-rows c.window (ring_of c) (c.history_len - 1) t.falls;
      follows =
          λ i h.
          let a = runs-rows c.generation (ring_of c) c.next_generation t.runs i (omega arith) in
          let b = runs-rows c.generation (ring_of c) c.next_generation t.runs (suc i) h in
          let s = y.small (row_of c (suc i)) in
          omega arith;
      last = λ i h. let a = runs-rows c.generation (ring_of c) c.next_generation t.runs i (omega arith) in
          omega arith;
      gives = λ i h. gives-only c.flags (message_in c.len st (row_of c i)) (id_of c i) (row_gives c st t i h);
      topics = row-topics c st t;
    }

pub well_formed-fine : (c : MessageCache) (st : List ℕ) → WellFormed c st → lent_of c st ≡ Ok tt
well_formed-fine c st w =
    tests-fine c st
    record {
      room = w.room;
      history_some = w.history_some;
      history_few = w.history_few;
      few = w.few;
      known = few-known c.flags w.known;
      starts = w.starts;
      within = w.within;
      falls = rows-falls c.window (ring_of c) (c.history_len - 1) (λ i h. omega (arith, w.recent i h)) w.falls;
      runs = rows_run c.generation (ring_of c) c.next_generation w.follows w.last;
      id-short = short-all message_id_size c.id_len (ring_of c) w.id-short;
      gives = rows_give c st w;
      once = all_once message_id_size c.id_len c.ids (ring_of c) w.once;
    }

pub well_formed-exactly : (c : MessageCache) (st : List ℕ) → Typed c → (lent_of c st ≡ Ok tt) ↔ WellFormed c st
well_formed-exactly c st y = (fine-well_formed c st y, well_formed-fine c st)

-- ---- so in every state that the calls reach the kept places are those of the message's topics, and cut out of it they
-- are its topics
module _ {c : MessageCache} {st : List ℕ} (r : Reached c st) (i : ℕ) (h : i < c.count) where
  pub reached_topics : topics_at (table_of c) (row_of c i)
      ≡ topic_places (mode_of c.flags) (message_in c.len st (row_of c i))
  reached_topics = row-topics c st (fine-tests c st (reached_fine r)) i h

  pub reached_cut : map (cut (message_in c.len st (row_of c i))) (topics_at (table_of c) (row_of c i))
      ≡ topics_of (mode_of c.flags) (message_in c.len st (row_of c i))
  reached_cut = rw reached_topics (cut-topics (mode_of c.flags) (message_in c.len st (row_of c i)))
