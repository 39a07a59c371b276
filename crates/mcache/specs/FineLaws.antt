-- Every state that the calls reach is well formed.
use Rattle.std.specs.Prelude.{Result, Ok, Err, ◌≡◌, ℕ, zero, suc, ◌+◌, ◌-◌, ◌*◌, ◌%◌, ◌^◌, ◌<◌, ◌≤◌, Bool, true, false, ltb, List, [], ◌∷◌, ◌++◌, length, drop, ◌==◌, nat_le, nat_lt, slice_index, slice_set, refl}
use Rattle.std.proofs.Common.{◌∙◌, arith, length-append, length-set, get_or-set_same, get_or-set_other}
use Rattle.std.proofs.lemmas.List.{length-map, length-replicate}
use Rattle.std.proofs.lemmas.List.Edits.{sets}
use Rattle.std.proofs.Math.Seq.{length-sets, set_out}
use borrow.Author.Tests.{le-leb, leb-true, ltb-true, ltb-false, eqb-true, eqb-false, eq-eqb}
use Rattle.basis.specs.declared.Edition.{Edition}
use Rattle.basis.specs.Dialect.{mode_of, spoken}
use Rattle.basis.specs.Cases.{either, clash, both}
use Rattle.basis.specs.Lists.{zeros-below}
use Rattle.rows.specs.declared.Ring.{Ring}
use Rattle.rows.specs.Rows.{rows_in, newest, without, one_more}
use Rattle.rows.specs.RowsLaws.{place-le, ring_drop}
use Rattle.rows.specs.Ids.{among, distinct}
use Rattle.rows.specs.IdsLaws.{distinct-drop, distinct_snoc}
use Rattle.rows.specs.Store.{id_at, ids_in, in_use, all_up_to}
use Rattle.protobuf.specs.Walk.{between}
use Rattle.schema.specs.declared.Kind.TheVariants as kind
use Rattle.schema.specs.Count.{counted}
use Rattle.schema.specs.Accept.{accept_of}
use Rattle.ids.specs.Ids.{message_at, id_bytes}
use Rattle.admission.specs.Admission.{admission_of, gives_id}
use Rattle.admission.specs.AdmissionLaws.{fit-limits, fit-id, gives-own, message-read}
use Rattle.admission.specs.TopicLaws.{kept-own}
use Rattle.mcache.specs.declared.MessageCache.{MessageCache}
use Rattle.protobuf.specs.declared.Refusal.{Refusal}
use Rattle.admission.specs.declared.Unfit.{Unfit}
use Rattle.basis.specs.declared.Fault.{Fault}
use Rattle.mcache.specs.Messages.{Cached, shift}
use Rattle.mcache.specs.State.{cached_in, falls_from, runs_to, gives_at, all_true, gives_in, legal, fresh, dropped}
use Rattle.mcache.specs.State.{passed, older, aged, stale, message_size, message_id_size, message_limit, max_history}
use Rattle.mcache.specs.State.{ids_size, ring_of, topics_size, Table, table_of, kept_places, noted}
use Rattle.mcache.specs.Calls.{lent_of, when_fine, index_in, entered, entered_store, plan_under, kept_under}
use Rattle.mcache.specs.Calls.{stored_under, shifted, Plan, no, keep, kept_in, stored_in, plan_fit, plan_at, plan_body}
use Rattle.mcache.specs.Calls.{planned, shift_cache}
use Rattle.mcache.specs.WellFormed.{Sized, Typed, fresh_at, Reached, begun, given, opened}
use Rattle.mcache.specs.StateLaws.{Tests, fine-tests, tests-fine}
use Rattle.mcache.specs.CachedLaws.{windows_of, windows-cached, cached-shifted, stale_in, spot, left-few}
use Rattle.mcache.specs.CachedLaws.{rest-starts, ring_entered, kept-id, kept-message, kept-number, new-id}
use Rattle.mcache.specs.CachedLaws.{new-message, new-number, grown, entered-some, entered-none, stored_some}
use Rattle.mcache.specs.CachedLaws.{stored-none, rest, kept-topics, new-topics}
use Rattle.mcache.specs.TableLaws.{kept-all, noted-roomy}
use Rattle.mcache.specs.Laws.{held_rows}

-- ---- the oldest leave, and what was true of the rows still is
falls_less : (most more : ℕ) (l : List ℕ) → most ≤ more → falls_from most l ≡ true → falls_from more l ≡ true
unfolding falls_from
falls_less most more [] h f = refl
falls_less most more (w ∷ l) h f =
    let b = both (nat_le w most) (falls_from w l) f in
    let k = leb-true w most b.0 in
    rw (le-leb w more (omega arith)) b.1

falls-drop : (most k : ℕ) (l : List ℕ) → falls_from most l ≡ true → falls_from most (drop k l) ≡ true
unfolding falls_from
falls-drop most zero l f = f
falls-drop most (suc k) [] f = refl
falls-drop most (suc k) (w ∷ l) f =
    let b = both (nat_le w most) (falls_from w l) f in
    falls-drop most k l (falls_less w most l (leb-true w most b.0) b.1)

falls_snoc : (most : ℕ) (l : List ℕ) → falls_from most l ≡ true → falls_from most (l ++ (0 ∷ [])) ≡ true
unfolding falls_from
falls_snoc most [] f = rw (le-leb 0 most (omega arith))
falls_snoc most (w ∷ l) f =
    let b = both (nat_le w most) (falls_from w l) f in
    rw b.0 (falls_snoc w l b.1)

runs-drop : (next k : ℕ) (l : List ℕ) → runs_to next l ≡ true → runs_to next (drop k l) ≡ true
unfolding runs_to
runs-drop next zero l r = r
runs-drop next (suc k) [] r = refl
runs-drop next (suc k) (g ∷ l) r =
    runs-drop next k l (both ((g + length (g ∷ l)) % 2 ^ 64 == next) (runs_to next l) r).1

-- the next arrival number is given to a row more
runs_snoc : (next : ℕ) (l : List ℕ) → runs_to next l ≡ true → runs_to ((next + 1) % 2 ^ 64) (l ++ (next ∷ [])) ≡ true
unfolding runs_to
runs_snoc next [] r = rw (eq-eqb ((next + 1) % 2 ^ 64) ((next + 1) % 2 ^ 64) refl)
runs_snoc next (g ∷ l) r =
    let b = both ((g + length (g ∷ l)) % 2 ^ 64 == next) (runs_to next l) r in
    let e : (g + suc (length l)) % 2 ^ 64 ≡ next = eqb-true ((g + length (g ∷ l)) % 2 ^ 64) next b.0 in
    let n = length-append l (next ∷ []) in
    rw (eq-eqb ((g + suc (length (l ++ (next ∷ [])))) % 2 ^ 64) ((next + 1) % 2 ^ 64) (omega arith))
    (runs_snoc next l b.1)

pub upto-drop : (most k : ℕ) (l : List ℕ) → all_up_to most l ≡ true → all_up_to most (drop k l) ≡ true
unfolding all_up_to
upto-drop most zero l u = u
upto-drop most (suc k) [] u = refl
upto-drop most (suc k) (n ∷ l) u = upto-drop most k l (both (nat_le n most) (all_up_to most l) u).1

pub upto_snoc : (most x : ℕ) (l : List ℕ) → x ≤ most → all_up_to most l ≡ true → all_up_to most (l ++ (x ∷ [])) ≡ true
unfolding all_up_to
upto_snoc most x [] h u = rw (le-leb x most h)
upto_snoc most x (n ∷ l) h u =
    let b = both (nat_le n most) (all_up_to most l) u in
    rw b.0 (upto_snoc most x l h b.1)

true-drop : (k : ℕ) (l : List Bool) → all_true l ≡ true → all_true (drop k l) ≡ true
unfolding all_true
true-drop zero l u = u
true-drop (suc k) [] u = refl
true-drop (suc k) (n ∷ l) u = true-drop k l (both n (all_true l) u).1

true_snoc : (l : List Bool) → all_true l ≡ true → all_true (l ++ (true ∷ [])) ≡ true
unfolding all_true
true_snoc [] u = refl
true_snoc (n ∷ l) u = let b = both n (all_true l) u in rw b.0 (true_snoc l b.1)

-- ---- start
pub fresh-first : (history max flags : ℕ) → fresh history max flags ≡ fresh_at 0 history max flags
unfolding fresh fresh_at
fresh-first history max flags = refl

fresh-tests : (next history max flags : ℕ) (st : List ℕ) → legal history max flags ≡ true
    → length st ≡ max * message_size → Tests (fresh_at next history max flags) st
unfolding fresh_at legal in_use ids_in gives_in rows_in falls_from runs_to all_up_to all_true distinct
fresh-tests next history max flags st l r =
    let a = both _ _ l in
    let b = both _ _ a.1 in
    let d = both _ _ b.1 in
    record {
      room = r;
      history_some = leb-true 1 history a.0;
      history_few = leb-true history max_history b.0;
      few = leb-true max message_limit d.0;
      known = d.1;
      starts = omega arith;
      within = omega arith;
      falls = refl;
      runs = refl;
      id-short = refl;
      gives = refl;
      once = refl;
    }

pub start-at-fine : (next history max flags : ℕ) (st : List ℕ) → legal history max flags ≡ true
    → length st ≡ max * message_size → lent_of (fresh_at next history max flags) st ≡ Ok tt
start-at-fine next history max flags st l r =
    tests-fine (fresh_at next history max flags) st (fresh-tests next history max flags st l r)

pub start_fine : (history max flags : ℕ) (st : List ℕ) → legal history max flags ≡ true → length st ≡ max * message_size
    → lent_of (fresh history max flags) st ≡ Ok tt
start_fine history max flags st l r = rw (fresh-first history max flags) (start-at-fine 0 history max flags st l r)

-- ---- shift
shift_falls : (history most more : ℕ) (ms : List Cached) → falls_from most (windows_of ms) ≡ true
    → ((w : ℕ) → w ≤ most → suc w < history → suc w ≤ more)
    → falls_from more (windows_of (shift history ms)) ≡ true
unfolding shift falls_from
shift_falls history most more [] f up = refl
shift_falls history most more (m ∷ ms) f up =
    let b = both (nat_le m.window most) (falls_from m.window (windows_of ms)) f in
    let k = leb-true m.window most b.0 in
    either (nat_lt (suc m.window) history)
    (λ t.
    let h = ltb-true (suc m.window) history t in
    rw (t, le-leb (suc m.window) more (up m.window k h))
    (shift_falls history m.window (suc m.window) ms b.1 (λ w i j. omega arith)))
    (λ t. rw t (shift_falls history m.window more ms b.1 (λ w i j. up w (omega arith) j)))

shifted-windows : (c : MessageCache) (st : List ℕ) → Tests c st → Sized c
    → falls_from (c.history_len - 1) (in_use (ring_of (shifted c)) (shifted c).window) ≡ true
shifted-windows c st t z =
    rw (← windows-cached (shifted c) st, cached-shifted c st t z)
    (shift_falls c.history_len (c.history_len - 1) (c.history_len - 1) (cached_in c st)
    (rw (windows-cached c st) t.falls) (λ w i j. omega arith))

-- the numbers of the rows that stay
numbers_less : (k : ℕ) (ring : Ring) (l : List ℕ) → ring.start ≤ ring.cap → ring.count ≤ ring.cap → k ≤ ring.count
    → in_use (without k ring) l ≡ drop k (in_use ring l)
unfolding in_use
numbers_less k ring l a b h = ring_drop (λ (p : ℕ). slice_index l p) ring k a b h

ids_less : (k : ℕ) (ring : Ring) (lens ids : List ℕ) → ring.start ≤ ring.cap → ring.count ≤ ring.cap
    → k ≤ ring.count → ids_in message_id_size (without k ring) lens ids ≡ drop k (ids_in message_id_size ring lens ids)
unfolding ids_in
ids_less k ring lens ids a b h = ring_drop (id_at message_id_size lens ids) ring k a b h

gives_less : (flags k : ℕ) (ring : Ring) (lens ilens ids : List ℕ) (table : Table) (st : List ℕ)
    → ring.start ≤ ring.cap → ring.count ≤ ring.cap
    → k ≤ ring.count → gives_in flags ring lens ilens ids table st ≡ true
    → gives_in flags (without k ring) lens ilens ids table st ≡ true
unfolding gives_in
gives_less flags k ring lens ilens ids table st a b h g =
    rw (ring_drop (gives_at flags lens ilens ids table st) ring k a b h)
    (true-drop k (rows_in (gives_at flags lens ilens ids table st) ring) g)

shifted-tests : (c : MessageCache) (st : List ℕ) → Tests c st → Sized c → Tests (shifted c) st
unfolding shifted aged dropped
shifted-tests c st t z =
    let k = stale c.history_len (in_use (ring_of c) c.window) in
    let h : k ≤ c.count = stale_in c.history_len (ring_of c) c.window in
    record {
      room = t.room;
      history_some = t.history_some;
      history_few = t.history_few;
      few = t.few;
      known = t.known;
      starts = place-le (ring_of c) k t.starts (omega (arith, t.within));
      within = omega (arith, t.within);
      falls = shifted-windows c st t z;
      runs = rw (numbers_less k (ring_of c) c.generation t.starts t.within h)
          (runs-drop c.next_generation k (in_use (ring_of c) c.generation) t.runs);
      id-short = rw (numbers_less k (ring_of c) c.id_len t.starts t.within h)
          (upto-drop message_id_size k (in_use (ring_of c) c.id_len) t.id-short);
      gives = gives_less c.flags k (ring_of c) c.len c.id_len c.ids (table_of c) st t.starts
          t.within h t.gives;
      once = rw (ids_less k (ring_of c) c.id_len c.ids t.starts t.within h)
          (distinct-drop k (ids_in message_id_size (ring_of c) c.id_len c.ids) t.once);
    }

pub shifted-fine : (c : MessageCache) (st : List ℕ) → lent_of c st ≡ Ok tt → Sized c
    → lent_of (shifted c) st ≡ Ok tt
shifted-fine c st f z = tests-fine (shifted c) st (shifted-tests c st (fine-tests c st f) z)

pub shift-fine : (c : MessageCache) (st : List ℕ) → lent_of c st ≡ Ok tt → Sized c
    → lent_of (shift_cache c st) st ≡ Ok tt
unfolding shift_cache
shift-fine c st f z = rw f (tests-fine (shifted c) st (shifted-tests c st (fine-tests c st f) z))

-- ---- put
-- what a message that is kept, and its id, are
pub record Enters (c : MessageCache) (m id : List ℕ) : Type 0 where
  pub small : length m ≤ message_size
  pub id-small : length id ≤ message_id_size
  pub own : gives_id c.flags m id ≡ true
  pub fresh : ltb (index_in c id) c.count ≡ false

of-fit : (c : MessageCache) (p m id : List ℕ) (n : ℕ) (r : Result ((ℕ × ℕ) × (ℕ × ℕ)) Unfit)
    → counted (mode_of c.flags) kind.RawMessage p ≡ Ok n
    → admission_of c.flags p true ≡ r → plan_fit c p r ≡ keep m id → Enters c m id
of-fit c p m id n (Err why) k e h = clash (cc)
of-fit c p m id n (Ok ((x, y), (z, w))) k e h =
    either (nat_lt (index_in c (id_bytes p x y z w)) c.count)
    (λ t. clash (let q = rw t at h in cc))
    (λ t.
    let q : keep p (id_bytes p x y z w) ≡ keep m id = rw t at h in
    let a : p ≡ m = cc in
    let b : id_bytes p x y z w ≡ id = cc in
    record {
      small = rw (← a) (fit-limits c.flags p true x y z w e).small;
      id-small = rw (← b) (fit-id c.flags p true x y z w e).1;
      own = rw (← a, ← b) (gives-own c.flags p n x y z w k e);
      fresh = rw (← b) t;
    })

of_at : (c : MessageCache) (ed : Edition) (body m id : List ℕ) (i : ℕ) (r : Result (ℕ × ℕ) ℕ)
    → accept_of (spoken (mode_of c.flags) ed) body ≡ Ok tt
    → message_at (mode_of c.flags) body i ≡ r → plan_at c body r ≡ keep m id → Enters c m id
of_at c ed body m id i (Err n) a e h = clash (cc)
of_at c ed body m id i (Ok (x, y)) a e h =
    let q = message-read (spoken (mode_of c.flags) ed) body i x y a e in
    of-fit c (between body x y) m id q.0 (admission_of c.flags (between body x y) true) q.1 refl h

of-body : (c : MessageCache) (ed : Edition) (body m id : List ℕ) (i : ℕ) (r : Result (Unit {0}) Refusal)
    → accept_of (spoken (mode_of c.flags) ed) body ≡ r
    → plan_body c body i r ≡ keep m id → Enters c m id
of-body c ed body m id i (Err why) a h = clash (cc)
of-body c ed body m id i (Ok tt) a h = of_at c ed body m id i (message_at (mode_of c.flags) body i) a refl h

pub planned-keeps : (c : MessageCache) (st : List ℕ) (ed : Edition) (body m id : List ℕ) (i : ℕ)
    → lent_of c st ≡ Ok tt → planned c st ed body i ≡ keep m id → Enters c m id
unfolding planned
planned-keeps c st ed body m id i f h = of-body c ed body m id i (accept_of (spoken (mode_of c.flags) ed) body) refl
    (rw f at h)

not-held : (c : MessageCache) (m id : List ℕ) → Enters c m id
    → among id (ids_in message_id_size (ring_of c) c.id_len c.ids) ≡ false
not-held c m id k = held_rows c id ∙ k.fresh

module _ (c : MessageCache) (st m id : List ℕ) (t : Tests c st) (z : Sized c) (k : Enters c m id)
    (some : c.max_messages ≡ 0 → ⊥) where
  numbers_more : (l : List ℕ) (x : ℕ) → length l ≡ message_limit
      → in_use (one_more (rest c)) (slice_set l (spot c) x) ≡ newest c.max_messages (in_use (ring_of c) l ++ (x ∷ []))
  unfolding in_use
  numbers_more l x e =
      ring_entered c t.starts t.within some (λ (p : ℕ). slice_index l p) (λ (p : ℕ). slice_index (slice_set l (spot c) x) p) x
      (kept-number c st m id t z k.id-small k.small some l x)
      (new-number c st m id t z k.id-small k.small some l x e)

  ids_more : ids_in message_id_size (one_more (rest c)) (slice_set c.id_len (spot c) (length id))
      (sets c.ids (spot c * message_id_size) id)
      ≡ newest c.max_messages (ids_in message_id_size (ring_of c) c.id_len c.ids ++ (id ∷ []))
  unfolding ids_in
  ids_more =
      ring_entered c t.starts t.within some (id_at message_id_size c.id_len c.ids)
      (id_at message_id_size (slice_set c.id_len (spot c) (length id)) (sets c.ids (spot c * message_id_size) id)) id
      (kept-id c st m id t z k.id-small k.small some) (new-id c st m id t z k.id-small k.small some)

  gives_more : gives_in c.flags (one_more (rest c)) (slice_set c.len (spot c) (length m))
      (slice_set c.id_len (spot c) (length id)) (sets c.ids (spot c * message_id_size) id)
      (noted (mode_of c.flags) m (spot c) (table_of c)) (sets st (spot c * message_size) m) ≡ true
  unfolding gives_in gives_at newest
  gives_more =
      let old = gives_at c.flags c.len c.id_len c.ids (table_of c) st in
      let l = rows_in old (ring_of c) ++ (true ∷ []) in
      rw
      (ring_entered c t.starts t.within some old
      (gives_at c.flags (slice_set c.len (spot c) (length m)) (slice_set c.id_len (spot c) (length id))
      (sets c.ids (spot c * message_id_size) id) (noted (mode_of c.flags) m (spot c) (table_of c))
      (sets st (spot c * message_size) m)) true
      (λ i h.
      rw (
        kept-number c st m id t z k.id-small k.small some c.len (length m) i h,
        kept-message c st m id t z k.id-small k.small some i h,
        kept-id c st m id t z k.id-small k.small some i h,
        kept-topics c st m id t z k.id-small k.small some i h,
      ))
      (rw (
        new-number c st m id t z k.id-small k.small some c.len (length m) z.lengths,
        new-message c st m id t z k.id-small k.small some,
        new-id c st m id t z k.id-small k.small some,
        new-topics c st m id t z k.id-small k.small some,
        le-leb (length m) message_size k.small,
      ) (kept-own c.flags m id (kept_places (mode_of c.flags) m) k.own (kept-all c.flags m id k.own))))
      (true-drop (length l - c.max_messages) l (true_snoc (rows_in old (ring_of c)) t.gives))

  grown-tests : Tests (grown m id c) (sets st (spot c * message_size) m)
  unfolding grown newest
  grown-tests =
      let windows = in_use (ring_of c) c.window in
      let numbers = in_use (ring_of c) c.generation in
      let lens = in_use (ring_of c) c.id_len in
      let ids = ids_in message_id_size (ring_of c) c.id_len c.ids in
      record {
        room = length-sets st (spot c * message_size) m ∙ t.room;
        history_some = t.history_some;
        history_few = t.history_few;
        few = t.few;
        known = t.known;
        starts = rest-starts c t.starts t.within some;
        within = omega (arith, left-few c t.starts t.within some);
        falls = rw (numbers_more c.window 0 z.windows)
            (falls-drop (c.history_len - 1) (length (windows ++ (0 ∷ [])) - c.max_messages) (windows ++ (0 ∷ []))
            (falls_snoc (c.history_len - 1) windows t.falls));
        runs =
            rw (numbers_more c.generation c.next_generation z.generations)
            (runs-drop ((c.next_generation + 1) % 2 ^ 64)
            (length (numbers ++ (c.next_generation ∷ [])) - c.max_messages)
            (numbers ++ (c.next_generation ∷ [])) (runs_snoc c.next_generation numbers t.runs));
        id-short = rw (numbers_more c.id_len (length id) z.id-lengths)
            (upto-drop message_id_size (length (lens ++ (length id ∷ [])) - c.max_messages) (lens ++ (length id ∷ []))
            (upto_snoc message_id_size (length id) lens k.id-small t.id-short));
        gives = gives_more;
        once = rw ids_more (distinct-drop (length (ids ++ (id ∷ [])) - c.max_messages) (ids ++ (id ∷ []))
            (distinct_snoc ids id t.once (not-held c m id k)));
      }

passed-tests : (c : MessageCache) (st : List ℕ) → Tests c st → c.max_messages ≡ 0 → Tests (passed c) st
unfolding passed in_use rows_in runs_to
passed-tests c st t e =
    let n : c.count ≡ 0 = omega (arith, t.within) in
    record {
      room = t.room;
      history_some = t.history_some;
      history_few = t.history_few;
      few = t.few;
      known = t.known;
      starts = t.starts;
      within = t.within;
      falls = t.falls;
      runs = rw n;
      id-short = t.id-short;
      gives = t.gives;
      once = t.once;
    }

entered-fine : (c : MessageCache) (st m id : List ℕ) → Tests c st → Sized c → Enters c m id
    → lent_of (entered m id c) (entered_store c st m) ≡ Ok tt
entered-fine c st m id t z k =
    either (c.max_messages == 0)
    (λ u.
    let e = eqb-true c.max_messages 0 u in
    rw (entered-none m id c e, stored-none c st m e) (tests-fine (passed c) st (passed-tests c st t e)))
    (λ u.
    let some = eqb-false c.max_messages 0 u in
    rw (entered-some m id c some, stored_some c st m some)
    (tests-fine (grown m id c) (sets st (spot c * message_size) m) (grown-tests c st m id t z k some)))

put-by : (c : MessageCache) (st : List ℕ) (ed : Edition) (body : List ℕ) (i : ℕ) → lent_of c st ≡ Ok tt
    → Sized c → (r : Plan) → planned c st ed body i ≡ r → lent_of (kept_in c r) (stored_in c st r) ≡ Ok tt
put-by c st ed body i f z (no r) e = f
put-by c st ed body i f z (keep m id) e =
    entered-fine c st m id (fine-tests c st f) z (planned-keeps c st ed body m id i f e)

-- whatever is asked, refused puts too
pub put-fine : (c : MessageCache) (st : List ℕ) (ed : Edition) (body : List ℕ) (i : ℕ) → lent_of c st ≡ Ok tt
    → Sized c → lent_of (kept_in c (planned c st ed body i)) (stored_in c st (planned c st ed body i)) ≡ Ok tt
put-fine c st ed body i f z = put-by c st ed body i f z (planned c st ed body i) refl

-- a message that may be taken, put under its id, whatever it came from
pub under-fine : (c : MessageCache) (st m id : List ℕ) → lent_of c st ≡ Ok tt → Sized c → length m ≤ message_size
    → length id ≤ message_id_size → gives_id c.flags m id ≡ true
    → lent_of (kept_under m id c) (stored_under c st m id) ≡ Ok tt
unfolding kept_under stored_under
under-fine c st m id f z n k g =
    either (nat_lt (index_in c id) c.count)
    (λ t. rw t f)
    (λ t. rw t (entered-fine c st m id (fine-tests c st f) z (record { small = n; id-small = k; own = g; fresh = t })))

-- ---- sizes, and arrival numbers below 2 ^ 64, are kept
grown-sized : (m id : List ℕ) (c : MessageCache) → Sized c → Sized (grown m id c)
unfolding grown
grown-sized m id c z =
    record {
      generations = length-set c.generation (spot c) c.next_generation ∙ z.generations;
      windows = length-set c.window (spot c) 0 ∙ z.windows;
      lengths = length-set c.len (spot c) (length m) ∙ z.lengths;
      id-lengths = length-set c.id_len (spot c) (length id) ∙ z.id-lengths;
      id-room = length-sets c.ids (spot c * message_id_size) id ∙ z.id-room;
      topics = noted-roomy (mode_of c.flags) m (spot c) (table_of c) z.topics;
    }

passed-sized : (c : MessageCache) → Sized c → Sized (passed c)
unfolding passed
passed-sized c z =
    record {
      generations = z.generations;
      windows = z.windows;
      lengths = z.lengths;
      id-lengths = z.id-lengths;
      id-room = z.id-room;
      topics = z.topics;
    }

pub shifted-sized : (c : MessageCache) → Sized c → Sized (shifted c)
unfolding shifted dropped aged
shifted-sized c z =
    record {
      generations = z.generations;
      windows = length-map c.window older ∙ z.windows;
      lengths = z.lengths;
      id-lengths = z.id-lengths;
      id-room = z.id-room;
      topics = z.topics;
    }

pub fresh-sized : (next history max flags : ℕ) → Sized (fresh_at next history max flags)
unfolding fresh_at
fresh-sized next history max flags =
    record {
      generations = length-replicate {A = ℕ} message_limit 0;
      windows = length-replicate {A = ℕ} message_limit 0;
      lengths = length-replicate {A = ℕ} message_limit 0;
      id-lengths = length-replicate {A = ℕ} message_limit 0;
      id-room = length-replicate {A = ℕ} ids_size 0;
      topics =
          record {
            counts = length-replicate {A = ℕ} message_limit 0;
            starts = length-replicate {A = ℕ} topics_size 0;
            sizes = length-replicate {A = ℕ} topics_size 0;
          };
    }

set-small : (l : List ℕ) (q x : ℕ) → ((p : ℕ) → slice_index l p < 2 ^ 64) → x < 2 ^ 64 → (p : ℕ)
    → slice_index (slice_set l q x) p < 2 ^ 64
set-small l q x s h p =
    either (p == q)
    (λ t.
    let e = eqb-true p q t in
    either (nat_lt q (length l)) (λ u. rw (e, get_or-set_same l q x 0 (ltb-true q (length l) u)) h)
    (λ u. rw (set_out l q x (ltb-false q (length l) u)) (s p)))
    (λ t. rw (get_or-set_other l q p x 0 (eqb-false p q t)) (s p))

grown-typed : (m id : List ℕ) (c : MessageCache) → Typed c → Typed (grown m id c)
unfolding grown
grown-typed m id c y =
    record {
      sized = grown-sized m id c y.sized;
      next_small = omega arith;
      small = set-small c.generation (spot c) c.next_generation y.small y.next_small;
    }

passed-typed : (c : MessageCache) → Typed c → Typed (passed c)
unfolding passed
passed-typed c y = record { sized = passed-sized c y.sized; next_small = omega arith; small = y.small }

pub shifted-typed : (c : MessageCache) → Typed c → Typed (shifted c)
unfolding shifted dropped aged
shifted-typed c y = record { sized = shifted-sized c y.sized; next_small = y.next_small; small = y.small }

pub fresh-typed : (next history max flags : ℕ) → next < 2 ^ 64 → Typed (fresh_at next history max flags)
unfolding fresh_at
fresh-typed next history max flags h =
    record {
      sized = fresh-sized next history max flags;
      next_small = h;
      small = λ p. zeros-below message_limit (2 ^ 64) p
          (omega arith);
    }

entered-typed : (m id : List ℕ) (c : MessageCache) → Typed c → Typed (entered m id c)
entered-typed m id c y =
    either (c.max_messages == 0)
    (λ u. rw (entered-none m id c (eqb-true c.max_messages 0 u)) (passed-typed c y))
    (λ u. rw (entered-some m id c (eqb-false c.max_messages 0 u)) (grown-typed m id c y))

typed-by : (c : MessageCache) → Typed c → (r : Plan) → Typed (kept_in c r)
typed-by c y (no r) = y
typed-by c y (keep m id) = entered-typed m id c y

pub put_typed : (c : MessageCache) (st : List ℕ) (ed : Edition) (body : List ℕ) (i : ℕ) → Typed c
    → Typed (kept_in c (planned c st ed body i))
put_typed c st ed body i y = typed-by c y (planned c st ed body i)

pub under-typed : (m id : List ℕ) (c : MessageCache) → Typed c → Typed (kept_under m id c)
unfolding kept_under
under-typed m id c y = typed-by c y (plan_under c m id)

typed-shift : (c : MessageCache) → Typed c → (l : Result (Unit {0}) Fault) → Typed (when_fine l (shifted c) c)
typed-shift c y (Ok tt) = shifted-typed c y
typed-shift c y (Err why) = y

pub shift-typed : (c : MessageCache) (st : List ℕ) → Typed c → Typed (shift_cache c st)
unfolding shift_cache
shift-typed c st y = typed-shift c y (lent_of c st)

-- ---- every state that the calls reach
reached_both : {c : MessageCache} {st : List ℕ} → Reached c st → (lent_of c st ≡ Ok tt) × Typed c
reached_both (begun next history max flags st n l r) =
    (start-at-fine next history max flags st l r, fresh-typed next history max flags n)
reached_both (given {c} {st} r ed body i) = let b = reached_both r in
    (put-fine c st ed body i b.0 b.1.sized, put_typed c st ed body i b.1)
reached_both (opened {c} {st} r) = let b = reached_both r in
    (shift-fine c st b.0 b.1.sized, shift-typed c st b.1)

pub reached_fine : {c : MessageCache} {st : List ℕ} → Reached c st → lent_of c st ≡ Ok tt
reached_fine r = (reached_both r).0

pub reached_typed : {c : MessageCache} {st : List ℕ} → Reached c st → Typed c
reached_typed r = (reached_both r).1
