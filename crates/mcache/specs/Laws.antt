-- What the calls on a message cache mean: they do to the messages what the scope says, and a refused call changes
-- nothing.
use Rattle.std.specs.Prelude.{Result, Err, Bool, Ok, ◌≡◌, ℕ, suc, ◌<◌, ◌≤◌, true, cond, ltb, List, [], ◌∷◌, length, get_or, replicate, ◌==◌, ◌≢◌, nat_lt, slice_index_or, refl}
use Rattle.std.specs.Result.{result_and}
use Rattle.std.proofs.Common.{sym, ap, ◌∙◌, arith, ltb-true, ltb-false}
use Rattle.basis.specs.declared.Edition.{Edition}
use Rattle.basis.specs.Dialect.{mode_of, spoken}
use Rattle.basis.specs.Cases.{either}
use Rattle.basis.specs.Told.{done}
use Rattle.rows.specs.Rows.{place_of, rows_in}
use Rattle.rows.specs.RowsLaws.{get_d_tab, length_ring}
use Rattle.rows.specs.Ids.{same_bytes, among, index_of}
use Rattle.rows.specs.Store.{id_at, ids_in}
use Rattle.rows.specs.StoreLaws.{index-among}
use Rattle.protobuf.specs.Walk.{between}
use Rattle.schema.specs.Accept.{accept_of}
use Rattle.ids.specs.Ids.{message_at, id_bytes}
use Rattle.admission.specs.Admission.{admission_of}
use Rattle.admission.specs.AdmissionLaws.{fit-limits, fit-id}
use Rattle.mcache.specs.declared.MessageCache.{MessageCache}
use Rattle.mcache.specs.declared.Started.{Started}
use Rattle.mcache.specs.declared.GossipIds.{GossipIds}
use Rattle.basis.specs.declared.Fault.{Fault}
use Rattle.mcache.specs.declared.GossipError.{GossipError}
use Rattle.mcache.specs.declared.Kept.TheVariants as kept
use Rattle.mcache.specs.Told.{put_told, lookup_told}
use Rattle.mcache.specs.Messages.{Cached, ids_of, held, put as put_in, get, shift}
use Rattle.mcache.specs.State.{message_in, cached_at, cached_in, dropped, appended, passed, aged, message_size}
use Rattle.mcache.specs.State.{message_id_size, message_limit, ring_of, legal, fresh}
use Rattle.mcache.specs.Calls.{lent_number, lent_of, when_fine, shifted, put_number, index_in, entered, plan_under}
use Rattle.mcache.specs.Calls.{kept_under, stored_under, found, Plan, no, keep, answered, kept_in, stored_in, planned}
use Rattle.mcache.specs.Calls.{shift_cache, get_part, lookup_answer, lookup_number, start_number}
use Rattle.mcache.specs.Calls.{start_answer, start_cache, gossip_number, gossip_answer, when_told}
use Rattle.mcache.specs.Calls.{gossip_list, gossip_array, gossip_count, gossip_rows}
use Rattle.mcache.specs.Unique.{Starts, Gossips}
use Rattle.mcache.specs.WellFormed.{Sized}
use Rattle.mcache.specs.StateLaws.{fine-tests}
use Rattle.mcache.specs.CachedLaws.{length-cached, ids-cached, cached-shifted, cached-entered, new}

-- ---- shift
pub shift-cached : (c : MessageCache) (st : List ℕ) → lent_of c st ≡ Ok tt → Sized c
    → cached_in (shift_cache c st) st ≡ shift c.history_len (cached_in c st)
unfolding shift_cache
shift-cached c st f z = rw f (cached-shifted c st (fine-tests c st f) z)

shift_by : (c : MessageCache) (d : MessageCache) (l : Result (Unit {0}) Fault) → (lent_number l ≢ 0) → when_fine l d c ≡ c
shift_by c d (Ok tt) n = absurd (n refl)
shift_by c d (Err why) n = refl

-- where it is refused, nothing changes
pub shift-refused : (c : MessageCache) (st : List ℕ) → (lent_number (lent_of c st) ≢ 0) → shift_cache c st ≡ c
unfolding shift_cache
shift-refused c st n = shift_by c (shifted c) (lent_of c st) n

pub shifted-settings : (c : MessageCache) → ((shifted c).history_len ≡ c.history_len)
    × ((shifted c).max_messages ≡ c.max_messages) × ((shifted c).flags ≡ c.flags)
unfolding shifted dropped aged
shifted-settings c = (refl, refl, refl)

-- ---- an id is held
pub held_rows : (c : MessageCache) (id : List ℕ) → among id (ids_in message_id_size (ring_of c) c.id_len c.ids)
    ≡ nat_lt (index_in c id) c.count
unfolding index_in ids_in
held_rows c id =
    index-among id (rows_in (id_at message_id_size c.id_len c.ids) (ring_of c))
    ∙ ap (ltb (index_of id (rows_in (id_at message_id_size c.id_len c.ids) (ring_of c))))
    (length_ring (id_at message_id_size c.id_len c.ids) (ring_of c))

pub held-index : (c : MessageCache) (st id : List ℕ) → held id (cached_in c st) ≡ nat_lt (index_in c id) c.count
unfolding held
held-index c st id = ap (among id) (ids-cached c st) ∙ held_rows c id

-- ---- a message put under its id, whatever it came from
pub under-settings : (m id : List ℕ) (c : MessageCache) → ((kept_under m id c).history_len ≡ c.history_len)
    × ((kept_under m id c).max_messages ≡ c.max_messages) × ((kept_under m id c).flags ≡ c.flags)
unfolding kept_under entered passed appended dropped
under-settings m id c =
    either (nat_lt (index_in c id) c.count)
    (λ t. rw t (refl, refl, refl))
    (λ t. either (c.max_messages == 0) (λ u. rw (t, u) (refl, refl, refl)) (λ u. rw (t, u) (refl, refl, refl)))

pub under-cached : (c : MessageCache) (st m id : List ℕ) → lent_of c st ≡ Ok tt → Sized c → length id ≤ message_id_size
    → length m ≤ message_size
    → cached_in (kept_under m id c) (stored_under c st m id) ≡ put_in c.max_messages id m (cached_in c st)
unfolding kept_under stored_under put_in
under-cached c st m id f z k n =
    rw (held-index c st id)
    (either (nat_lt (index_in c id) c.count) (λ t. rw t)
    (λ t. rw t (cached-entered c st m id (fine-tests c st f) z k n)))

-- ---- put
-- of a message that may be taken
module _
    (c : MessageCache) (st : List ℕ) (ed : Edition) (body : List ℕ) (i a e x y z w : ℕ)
    (fine : lent_of c st ≡ Ok tt)
    (ok : accept_of (spoken (mode_of c.flags) ed) body ≡ Ok tt)
    (there : message_at (mode_of c.flags) body i ≡ Ok (a, e))
    (fit : admission_of c.flags (between body a e) true ≡ Ok ((x, y), (z, w)))
  where
    abbrev p : List ℕ
    p = between body a e

    abbrev id : List ℕ
    id = id_bytes (between body a e) x y z w

    plan_under_lem : planned c st ed body i ≡ plan_under c p id
    unfolding planned
    plan_under_lem = rw (fine, ok, there, fit)

    pub put_plan : planned c st ed body i ≡ cond (held id (cached_in c st)) (no (Ok kept.Held)) (keep p id)
    put_plan = rw (plan_under_lem, held-index c st id)

    pub put-says : put_told (answered (planned c st ed body i)) ≡ cond (held id (cached_in c st)) (done (0 ∷ []))
        (done (1 ∷ []))
    put-says = rw put_plan (either (held id (cached_in c st)) (λ t. rw t) (λ t. rw t))

    pub put-cached : Sized c → cached_in (kept_in c (planned c st ed body i)) (stored_in c st (planned c st ed body i))
        ≡ put_in c.max_messages id p (cached_in c st)
    unfolding kept_under stored_under
    put-cached s =
        rw plan_under_lem (under-cached c st p id fine s (fit-id c.flags p true x y z w fit).1
        (fit-limits c.flags p true x y z w fit).small)

-- all else changes nothing
not-stored : (c : MessageCache) (st : List ℕ) (r : Plan) → (answered r ≢ (Ok kept.Stored)) → (kept_in c r ≡ c)
    × (stored_in c st r ≡ st)
not-stored c st (no r) n = (refl, refl)
not-stored c st (keep m _) n = absurd (n refl)

pub put_refused : (c : MessageCache) (st : List ℕ) (ed : Edition) (body : List ℕ) (i : ℕ)
    → (put_number (answered (planned c st ed body i)) ≢ 0)
    → (kept_in c (planned c st ed body i) ≡ c) × (stored_in c st (planned c st ed body i) ≡ st)
put_refused c st ed body i n = not-stored c st (planned c st ed body i) (λ e. n (ap put_number e))

-- ---- get
get-here : (id : List ℕ) (ms : List Cached) (d : Cached) → index_of id (ids_of ms) < length ms
    → get id ms ≡ (get_or ms (index_of id (ids_of ms)) d).message
unfolding get index_of
get-here id [] d h = absurd (omega arith)
get-here id (m ∷ ms) d h =
    either (same_bytes m.id id) (λ t. rw t)
    (λ t. let k : suc (index_of id (ids_of ms)) < suc (length ms) = rw t at h in rw t (get-here id ms d (omega arith)))

get_none : (id : List ℕ) (ms : List Cached) → length ms ≤ index_of id (ids_of ms) → get id ms ≡ []
unfolding get index_of
get_none id [] h = refl
get_none id (m ∷ ms) h =
    either (same_bytes m.id id) (λ t. let k : suc (length ms) ≤ 0 = rw t at h in absurd (omega arith))
    (λ t. let k : suc (length ms) ≤ suc (index_of id (ids_of ms)) = rw t at h in rw t (get_none id ms (omega arith)))

pub index-cached : (c : MessageCache) (st id : List ℕ) → index_of id (ids_of (cached_in c st)) ≡ index_in c id
unfolding index_in
index-cached c st id = ap (index_of id) (ids-cached c st)

pub row-cached : (c : MessageCache) (st : List ℕ) (i : ℕ) (d : Cached) → i < c.count
    → slice_index_or (cached_in c st) i d ≡ cached_at c st (place_of (ring_of c) i)
unfolding cached_in rows_in
row-cached c st i d h = get_d_tab (λ (j : ℕ). cached_at c st (place_of (ring_of c) j)) c.count i d h

message_at_lem : (c : MessageCache) (st : List ℕ) (p : ℕ) → (cached_at c st p).message ≡ message_in c.len st p
unfolding cached_at
message_at_lem c st p = refl

pub found-cached : (c : MessageCache) (st id : List ℕ) → found c st id ≡ get id (cached_in c st)
unfolding found
found-cached c st id =
    let x = index-cached c st id in
    let n = length-cached c st in
    either (nat_lt (index_in c id) c.count)
    (λ t.
    let h = ltb-true (index_in c id) c.count t in
    rw t (sym (get-here id (cached_in c st) (new [] []) (omega arith)
    ∙ ap (λ (j : ℕ). (get_or (cached_in c st) j (new [] [])).message) x
    ∙ ap (λ (m : Cached). m.message) (row-cached c st (index_in c id) (new [] []) h)
    ∙ message_at_lem c st (place_of (ring_of c) (index_in c id)))))
    (λ t. let h = ltb-false (index_in c id) c.count t in rw t (sym (get_none id (cached_in c st) (omega arith))))

module _ (c : MessageCache) (st id : List ℕ) (fine : lent_of c st ≡ Ok tt) where
  pub get-cached : get_part c st id ≡ get id (cached_in c st)
  unfolding get_part
  get-cached = rw fine (found-cached c st id)

  pub lookup_says : lookup_told (lookup_answer c st id) ≡ cond (held id (cached_in c st)) (done (1 ∷ [])) (done (0 ∷ []))
  unfolding lookup_answer
  lookup_says =
      rw (fine, held-index c st id) (either (nat_lt (index_in c id) c.count) (λ t. rw t) (λ t. rw t))

-- ---- the other refusals leave nothing either: no cache, no message, no ids
start-by : (history max flags : ℕ) → (start_number (start_answer history max flags) ≢ 0)
    → start_cache history max flags ≡ fresh 1 0 0
unfolding start_answer start_cache
start-by history max flags n =
    either (legal history max flags) (λ t. absurd (n (rw t))) (λ t. rw t)

-- a start that is refused hands out a cache that keeps nothing
pub start-refused : (history max flags : ℕ) (r : Started) → Starts history max flags r
    → (start_number r.answer ≢ 0) → r.cache ≡ fresh 1 0 0
start-refused history max flags r s n = s.cache ∙ start-by history max flags (λ z. n (ap start_number s.answer ∙ z))

get_by : (m : List ℕ) (r : Result Bool Fault) (l : Result (Unit {0}) Fault) → lookup_number r ≡ 0
    → (lookup_number (result_and l r) ≢ 0) → when_fine l m [] ≡ []
get_by m r (Ok tt) z n = absurd (n z)
get_by m r (Err why) z n = refl

pub get_refused : (c : MessageCache) (st id : List ℕ) → (lookup_number (lookup_answer c st id) ≢ 0)
    → get_part c st id ≡ []
unfolding lookup_answer get_part
get_refused c st id n =
    get_by (found c st id) (Ok (nat_lt (index_in c id) c.count)) (lent_of c st)
    (either (nat_lt (index_in c id) c.count) (λ t. rw t) (λ t. rw t)) n

gossip_by : (n : ℕ) (rows : List ℕ) (r : Result (Unit {0}) GossipError) → (gossip_number r ≢ 0) → (when_told r n 0 ≡ 0)
    × (when_told r rows (replicate message_limit 0) ≡ replicate message_limit 0)
gossip_by n rows (Ok tt) k = absurd (k refl)
gossip_by n rows (Err why) k = (refl, refl)

gossip_none : (c : MessageCache) (st topic : List ℕ) (windows : ℕ) → (gossip_number (gossip_answer c st topic) ≢ 0)
    → (gossip_count c st topic windows ≡ 0) × (gossip_rows c st topic windows ≡ replicate message_limit 0)
unfolding gossip_count gossip_rows
gossip_none c st topic windows n =
    gossip_by (length (gossip_list c st topic windows)) (gossip_array c st topic windows) (gossip_answer c st topic) n

pub gossip_refused : (c : MessageCache) (st topic : List ℕ) (windows : ℕ) (r : GossipIds)
    → Gossips c st topic windows r → (gossip_number r.answer ≢ 0)
    → (r.count ≡ 0) × (r.rows ≡ replicate message_limit 0)
gossip_refused c st topic windows r g n =
    let e = gossip_none c st topic windows (λ z. n (ap gossip_number g.answer ∙ z)) in
    (g.count ∙ e.0, g.rows ∙ e.1)
