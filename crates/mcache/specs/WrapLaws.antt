-- No answer depends on where the arrival number stands: the numbers wrap at 2 ^ 64.
use Rattle.std.specs.Prelude.{Result, Ok, Err, ◌≡◌, ℕ, zero, suc, ◌+◌, ◌%◌, ◌^◌, ◌<◌, ◌≤◌, Bool, true, false, ◌&&◌, List, [], ◌∷◌, map, length, ◌==◌, nat_eq, nat_le, slice_index, slice_set}
use Rattle.std.proofs.Math.Path.{refl, ap}
use Rattle.std.proofs.Common.{sym, ◌∙◌, arith}
use Rattle.std.proofs.lemmas.List.{length-map}
use borrow.Author.Tests.{leb-true, eqb-true, eqb-false, eq-eqb, ne_eqb}
use Rattle.basis.specs.declared.Edition.{Edition}
use Rattle.basis.specs.Dialect.{mode_of, spoken}
use Rattle.basis.specs.Cases.{either, both}
use Rattle.rows.specs.declared.Ring.{Ring}
use Rattle.rows.specs.Rows.{place_of}
use Rattle.rows.specs.RowsLaws.{place-lt, ring_ext, map_ring}
use Rattle.rows.specs.Store.{in_use}
use Rattle.protobuf.specs.Walk.{between}
use Rattle.schema.specs.Accept.{accept_of}
use Rattle.ids.specs.Ids.{message_at}
use Rattle.admission.specs.Flags.{known_flags}
use Rattle.admission.specs.Admission.{admission_of}
use Rattle.mcache.specs.declared.MessageCache.{MessageCache}
use Rattle.protobuf.specs.declared.Refusal.{Refusal}
use Rattle.admission.specs.declared.Unfit.{Unfit}
use Rattle.basis.specs.declared.Fault.{Fault}
use Rattle.mcache.specs.State.{cached_at, cached_in, runs_to, rows_fit, ids_fit, legal, well_formed, dropped, passed}
use Rattle.mcache.specs.State.{aged, message_limit, max_history, ring_of}
use Rattle.mcache.specs.Calls.{lent_of, when_fine, index_in, entered, entered_store, shifted, found, gossip_list}
use Rattle.mcache.specs.Calls.{gossip_array, Plan, no, keep, answered, kept_in, stored_in, plan_fit, plan_at, plan_body}
use Rattle.mcache.specs.Calls.{planned, shift_cache, get_part, lookup_answer, gossip_answer, gossip_count, gossip_rows}
use Rattle.mcache.specs.WellFormed.{Typed}
use Rattle.mcache.specs.CachedLaws.{spot, grown, entered-some, entered-none}

-- every arrival number, and the next, k further
unfoldable pub moved : ℕ → MessageCache → MessageCache
moved k c =
    record {
      history_len = c.history_len;
      max_messages = c.max_messages;
      next_generation = (c.next_generation + k) % 2 ^ 64;
      start = c.start;
      count = c.count;
      generation = map (λ (g : ℕ). (g + k) % 2 ^ 64) c.generation;
      window = c.window;
      len = c.len;
      id_len = c.id_len;
      ids = c.ids;
      topic_count = c.topic_count;
      topic_start = c.topic_start;
      topic_len = c.topic_len;
      flags = c.flags;
    }

-- ---- the test
runs_moved : (k next : ℕ) (l : List ℕ) → next < 2 ^ 64
    → runs_to ((next + k) % 2 ^ 64) (map (λ (g : ℕ). (g + k) % 2 ^ 64) l) ≡ runs_to next l
unfolding runs_to
runs_moved k next [] h = refl
runs_moved k next (g ∷ l) h =
    let n = length-map l (λ (x : ℕ). (x + k) % 2 ^ 64) in
    let r = runs_moved k next l h in
    let s : nat_eq (((g + k) % 2 ^ 64 + suc (length (map (λ (x : ℕ). (x + k) % 2 ^ 64) l))) % 2 ^ 64) ((next + k) % 2 ^ 64)
    ≡ nat_eq ((g + suc (length l)) % 2 ^ 64) next =
    rw n
    (either ((g + suc (length l)) % 2 ^ 64 == next)
    (λ t.
    let e = eqb-true ((g + suc (length l)) % 2 ^ 64) next t in
    rw t (eq-eqb (((g + k) % 2 ^ 64 + suc (length l)) % 2 ^ 64) ((next + k) % 2 ^ 64) (omega arith)))
    (λ t.
    let e = eqb-false ((g + suc (length l)) % 2 ^ 64) next t in
    rw t (ne_eqb (((g + k) % 2 ^ 64 + suc (length l)) % 2 ^ 64) ((next + k) % 2 ^ 64) (λ q. e (omega arith))))) in
    rw (s, r)

get_d_map : (f : ℕ → ℕ) (l : List ℕ) (p : ℕ) → p < length l → slice_index (map f l) p ≡ f (slice_index l p)
get_d_map f [] p h = absurd (omega arith)
get_d_map f (x ∷ l) zero h = refl
get_d_map f (x ∷ l) (suc p) h = get_d_map f l p (omega arith)

lens_moved : (f : ℕ → ℕ) (l : List ℕ) (ring : Ring) → ring.start ≤ ring.cap → ring.count ≤ ring.cap
    → ring.cap ≤ length l → in_use ring (map f l) ≡ map f (in_use ring l)
unfolding in_use
lens_moved f l ring a b h =
    ring_ext (λ (p : ℕ). f (slice_index l p)) ring (λ (p : ℕ). slice_index (map f l) p)
    (λ i k. get_d_map f l (place_of ring i) (omega (arith, place-lt ring i a (omega arith))))
    ∙ sym (map_ring f (λ (p : ℕ). slice_index l p) ring)

and_same : (a b d : Bool) → (a ≡ true → b ≡ d) → (a && b) ≡ (a && d)
and_same true b d h = h refl
and_same false b d h = refl

rows-moved : (k : ℕ) (c : MessageCache) (st : List ℕ) → Typed c → c.max_messages ≤ message_limit
    → c.start ≤ c.max_messages → c.count ≤ c.max_messages → rows_fit (moved k c) st ≡ rows_fit c st
unfolding rows_fit ids_fit moved
rows-moved k c st y f a b =
    rw (
      lens_moved (λ (g : ℕ). (g + k) % 2 ^ 64) c.generation (ring_of c) a b (omega (arith, y.sized.generations)),
      runs_moved k c.next_generation (in_use (ring_of c) c.generation) y.next_small,
    )

-- ---- what a put is to do
fit-moved : (k : ℕ) (c : MessageCache) (p : List ℕ) (r : Result ((ℕ × ℕ) × (ℕ × ℕ)) Unfit) → plan_fit (moved k c) p r ≡ plan_fit c p r
unfolding moved index_in
fit-moved k c p (Err why) = refl
fit-moved k c p (Ok ((x, y), (z, w))) = refl

at_moved : (k : ℕ) (c : MessageCache) (body : List ℕ) (r : Result (ℕ × ℕ) ℕ)
    → plan_at (moved k c) body r ≡ plan_at c body r
unfolding moved
at_moved k c body (Err n) = refl
at_moved k c body (Ok (a, e)) = fit-moved k c (between body a e) (admission_of c.flags (between body a e) true)

body-moved : (k : ℕ) (c : MessageCache) (body : List ℕ) (i : ℕ) (r : Result (Unit {0}) Refusal)
    → plan_body (moved k c) body i r ≡ plan_body c body i r
unfolding moved
body-moved k c body i (Err why) = refl
body-moved k c body i (Ok tt) = at_moved k c body (message_at (mode_of c.flags) body i)

-- ---- the state that a call leaves
map-set : (f : ℕ → ℕ) (l : List ℕ) (p x : ℕ) → map f (slice_set l p x) ≡ slice_set (map f l) p (f x)
map-set f [] p x = refl
map-set f (y ∷ l) zero x = refl
map-set f (y ∷ l) (suc p) x = ap (λ (r : List ℕ). f y ∷ r) (map-set f l p x)

next-moved : (k n : ℕ) → ((n + k) % 2 ^ 64 + 1) % 2 ^ 64 ≡ ((n + 1) % 2 ^ 64 + k) % 2 ^ 64
next-moved k n = omega arith

passed-moved : (k : ℕ) (c : MessageCache) → passed (moved k c) ≡ moved k (passed c)
unfolding passed moved
passed-moved k c = rw (next-moved k c.next_generation)

grown-moved : (k : ℕ) (m id : List ℕ) (c : MessageCache) → grown m id (moved k c) ≡ moved k (grown m id c)
unfolding grown spot moved
grown-moved k m id c =
    rw (
      next-moved k c.next_generation,
      map-set (λ (g : ℕ). (g + k) % 2 ^ 64) c.generation (spot c) c.next_generation,
    )

entered-moved : (k : ℕ) (m id : List ℕ) (c : MessageCache) → entered m id (moved k c) ≡ moved k (entered m id c)
unfolding moved
entered-moved k m id c =
    either (c.max_messages == 0)
    (λ t.
    let e = eqb-true c.max_messages 0 t in
    entered-none m id (moved k c) e ∙ passed-moved k c ∙ ap (moved k) (sym (entered-none m id c e)))
    (λ t.
    let e = eqb-false c.max_messages 0 t in
    entered-some m id (moved k c) e ∙ grown-moved k m id c ∙ ap (moved k) (sym (entered-some m id c e)))

stored_moved : (k : ℕ) (c : MessageCache) (st m : List ℕ) → entered_store (moved k c) st m ≡ entered_store c st m
unfolding entered_store moved dropped
stored_moved k c st m = refl

kept-moved : (k : ℕ) (c : MessageCache) (r : Plan) → kept_in (moved k c) r ≡ moved k (kept_in c r)
kept-moved k c (no r) = refl
kept-moved k c (keep m id) = entered-moved k m id c

storing_moved : (k : ℕ) (c : MessageCache) (st : List ℕ) (r : Plan) → stored_in (moved k c) st r ≡ stored_in c st r
storing_moved k c st (no r) = refl
storing_moved k c st (keep m id) = stored_moved k c st m

shifted-moved : (k : ℕ) (c : MessageCache) → shifted (moved k c) ≡ moved k (shifted c)
unfolding shifted aged dropped moved
shifted-moved k c = refl

when_moved : (k : ℕ) (c d : MessageCache) (l : Result (Unit {0}) Fault)
    → when_fine l (moved k d) (moved k c) ≡ moved k (when_fine l d c)
when_moved k c d (Ok tt) = refl
when_moved k c d (Err why) = refl

module _ (k : ℕ) (c : MessageCache) (st : List ℕ) (y : Typed c) where
  well_formed-moved : well_formed (moved k c) st ≡ well_formed c st
  unfolding well_formed legal moved
  well_formed-moved =
      and_same
      (nat_le 1 c.history_len
      && (nat_le c.history_len max_history && (nat_le c.max_messages message_limit && known_flags c.flags)))
      _ _
      (λ l.
      let a = both (nat_le 1 c.history_len) _ l in
      let b = both (nat_le c.history_len max_history) _ a.1 in
      let few = leb-true c.max_messages message_limit
      (both (nat_le c.max_messages message_limit) (known_flags c.flags) b.1).0 in
      and_same (nat_le c.start c.max_messages) _ _
      (λ a. and_same (nat_le c.count c.max_messages) _ _
      (λ b. rows-moved k c st y few (leb-true c.start c.max_messages a)
      (leb-true c.count c.max_messages b))))

  pub wrap_free : lent_of (moved k c) st ≡ lent_of c st
  unfolding lent_of moved
  wrap_free = rw well_formed-moved

  pub wrap_free-cached : cached_in (moved k c) st ≡ cached_in c st
  unfolding cached_in moved cached_at
  wrap_free-cached = refl

  -- the same answers
  pub wrap_free-put : (ed : Edition) (body : List ℕ) (i : ℕ) → planned (moved k c) st ed body i ≡ planned c st ed body i
  unfolding planned moved
  wrap_free-put ed body i = rw (wrap_free, body-moved k c body i (accept_of (spoken (mode_of c.flags) ed) body))

  pub wrap_free-answer : (ed : Edition) (body : List ℕ) (i : ℕ) → answered (planned (moved k c) st ed body i) ≡ answered
      (planned c st ed body i)
  wrap_free-answer ed body i = ap answered (wrap_free-put ed body i)

  pub wrap_free-get : (id : List ℕ) → get_part (moved k c) st id ≡ get_part c st id
  unfolding get_part found index_in moved
  wrap_free-get id = rw wrap_free

  pub wrap_free_lookup : (id : List ℕ) → lookup_answer (moved k c) st id ≡ lookup_answer c st id
  unfolding lookup_answer index_in moved
  wrap_free_lookup id = rw wrap_free

  pub wrap_free_gossip : (topic : List ℕ) (windows : ℕ)
      → gossip_rows (moved k c) st topic windows ≡ gossip_rows c st topic windows
  unfolding gossip_rows gossip_array gossip_answer gossip_list moved
  wrap_free_gossip topic windows = rw wrap_free

  pub wrap_free-told : (topic : List ℕ) (windows : ℕ) → (gossip_answer (moved k c) st topic ≡ gossip_answer c st topic)
      × (gossip_count (moved k c) st topic windows ≡ gossip_count c st topic windows)
  unfolding gossip_count gossip_answer gossip_list moved
  wrap_free-told topic windows = (rw wrap_free, rw wrap_free)

  -- and the same states, but for the numbers: so the answers of all later calls are the same too
  pub wrap_free-kept : (ed : Edition) (body : List ℕ) (i : ℕ)
      → kept_in (moved k c) (planned (moved k c) st ed body i) ≡ moved k (kept_in c (planned c st ed body i))
  wrap_free-kept ed body i = ap (kept_in (moved k c)) (wrap_free-put ed body i) ∙ kept-moved k c (planned c st ed body i)

  pub wrap_free-stored : (ed : Edition) (body : List ℕ) (i : ℕ)
      → stored_in (moved k c) st (planned (moved k c) st ed body i) ≡ stored_in c st (planned c st ed body i)
  wrap_free-stored ed body i = ap (stored_in (moved k c) st) (wrap_free-put ed body i)
      ∙ storing_moved k c st (planned c st ed body i)

  pub wrap_free-shift : shift_cache (moved k c) st ≡ moved k (shift_cache c st)
  unfolding shift_cache
  wrap_free-shift =
      ap (λ (l : Result (Unit {0}) Fault). when_fine l (shifted (moved k c)) (moved k c)) wrap_free
      ∙ ap (λ (d : MessageCache). when_fine (lent_of c st) d (moved k c)) (shifted-moved k c)
      ∙ when_moved k c (shifted c) (lent_of c st)
