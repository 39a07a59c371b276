-- The answers, case by case as the code comes to them.
use Rattle.std.specs.Prelude.{Result, Ok, Err, nat_lt}
use Rattle.std.specs.Result.{is_err}
use Rattle.std.proofs.Common.{◌≡◌, ℕ, ◌+◌, ◌-◌, ◌*◌, ◌/◌, ◌%◌, ◌<◌, ◌≤◌, Bool, true, false, eqb, List, [], length, get_or, take, drop, replicate, sym, refl, ap, ◌∙◌, arith, take_at, le-ltb, lt-ltb, eq-eqb, ne_eqb, le-leb}
use lib.Seq.{sets, sets-eq, length-sets}
use borrow.Author.Tests.{lt-leb}
use Rattle.basis.specs.declared.Edition.{Edition}
use Rattle.basis.specs.declared.Mode.{Mode}
use Rattle.basis.specs.Dialect.{mode_of, spoken}
use Rattle.basis.specs.Cases.{clash}
use Rattle.basis.specs.Writing.{set_in}
use Rattle.basis.specs.Lists.{answer-fits, answer-short, written-fits, written-short, set-fits}
use Rattle.rows.specs.Rows.{place_of}
use Rattle.rows.specs.RowsLaws.{place-lt}
use Rattle.rows.specs.Store.{in_use, id_at, all_up_to, InStore}
use Rattle.rows.specs.StoreLaws.{short_in}
use Rattle.protobuf.specs.declared.Refusal.{Refusal}
use Rattle.protobuf.specs.Walk.{between}
use Rattle.schema.specs.Accept.{accept_of}
use Rattle.ids.specs.Ids.{message_at, id_bytes}
use Rattle.admission.specs.declared.Unfit.{Unfit}
use Rattle.admission.specs.Flags.{known_flags}
use Rattle.admission.specs.Admission.{admission_of}
use Rattle.admission.specs.AdmissionLaws.{fit-limits, fit-id}
use Rattle.mcache.specs.declared.MessageCache.{MessageCache}
use Rattle.mcache.specs.declared.PutDone.{PutDone}
use Rattle.mcache.specs.declared.Offer.{Offer}
use Rattle.mcache.specs.declared.Offer.TheVariants as offer
use Rattle.mcache.specs.Messages.{offer_for}
use Rattle.mcache.specs.declared.GossipIds.{GossipIds}
use Rattle.basis.specs.declared.Fault.{Fault}
use Rattle.basis.specs.declared.Fault.TheVariants as fault
use Rattle.mcache.specs.declared.GossipError.TheVariants as gossip
use Rattle.mcache.specs.declared.GossipError.{GossipError}
use Rattle.mcache.specs.declared.Kept.TheVariants as kept
use Rattle.mcache.specs.declared.Kept.{Kept}
use Rattle.mcache.specs.declared.PutError.TheVariants as put
use Rattle.mcache.specs.declared.PutError.{PutError}
use Rattle.basis.specs.Writing.{no_room}
use Rattle.mcache.specs.State.{message_in, rows_fit, legal, well_formed, Laid, Placed, Usable, message_size, message_id_size, message_limit, max_history, ids_size, ring_of, topics_size, Roomy, table_of, has_topic}
use Rattle.mcache.specs.Calls.{lent_of, index_in, entered, entered_store, rows_lie, keepable, plan_kept, kept_under, stored_under, found}
use Rattle.mcache.specs.Calls.{gossip_list, gossip_array, Plan, no, answered, kept_in, stored_in, plan_fit, planned, get_part, lookup_answer, offer_at, offer_in, gossip_answer, gossip_count, gossip_rows}
use Rattle.mcache.specs.Unique.{Puts, Keeps, Gossips, Forms, WritesId}
use Rattle.mcache.specs.StateLaws.{lent-kept}
use Rattle.mcache.specs.GuardLaws.{lie_rows, when_keeps, keep_usable, form-fit}
use Rattle.mcache.proofs.Walks.{part-from}

-- ---- the arrays of the topics' places
pub roomy : (c : MessageCache) → length c.topic_count ≡ message_limit → length c.topic_start ≡ topics_size → length c.topic_len ≡
    topics_size → Roomy (table_of c)
roomy c x y z = record { counts = x; starts = y; sizes = z }

-- ---- the rows
module _ (c : MessageCache) (st : List ℕ) where
  abbrev shorts : Bool
  shorts = all_up_to message_id_size (in_use (ring_of c) c.id_len)

  -- what the walks need of the rows
  module _ (few : c.max_messages ≤ message_limit) (starts : c.start ≤ c.max_messages) (within : c.count ≤ c.max_messages) where
    pub ring_of_lem : (l : List ℕ) → length l ≡ message_limit → InStore (ring_of c) l
    ring_of_lem l z = record { starts = starts; within = within; size = omega arith }

    pub rows_of : length c.len ≡ message_limit → length c.id_len ≡ message_limit → length c.ids ≡ ids_size → Roomy (table_of c) → length st ≡ c.max_messages * message_size → shorts ≡ true
        → Laid (ring_of c) c.len c.id_len c.ids (table_of c) st
    rows_of x y z t r s =
        record {
          few = few;
          starts = starts;
          within = within;
          lengths = x;
          id-lengths = y;
          id-room = z;
          topics = t;
          room = r;
          id-short = short_in message_id_size c.id_len (ring_of c) s;
        }

-- ---- the lent state
pub no_fault : (l : Result (Unit {0}) Fault) → is_err l ≡ false → Ok tt ≡ l
no_fault (Ok tt) h = refl
no_fault (Err why) h = clash (cc)

module _ (c : MessageCache) (st : List ℕ) where
  pub lent_other : (length st / message_size ≡ c.max_messages → ⊥) → Err fault.BadStore ≡ lent_of c st
  unfolding lent_of
  lent_other h = simp (ne_eqb (length st) (c.max_messages * message_size) (λ e. h (omega arith)))

  pub lent-part : (length st % message_size ≡ 0 → ⊥) → Err fault.BadStore ≡ lent_of c st
  unfolding lent_of
  lent-part h = simp (ne_eqb (length st) (c.max_messages * message_size) (λ e. h (omega arith)))

  module _ (w : length st / message_size ≡ c.max_messages) (z : length st % message_size ≡ 0) where
    whole : eqb (length st) (c.max_messages * message_size) ≡ true
    whole = eq-eqb (length st) (c.max_messages * message_size) (omega arith)

    pub lent_none : c.history_len ≡ 0 → Err fault.Malformed ≡ lent_of c st
    unfolding lent_of well_formed legal
    lent_none h = simp (whole, lt-leb 1 c.history_len (omega arith))

    module _ (n : c.history_len ≡ 0 → ⊥) where
      pub lent-long : max_history < c.history_len → Err fault.Malformed ≡ lent_of c st
      unfolding lent_of well_formed legal
      lent-long h = simp (whole, le-leb 1 c.history_len (omega (arith, n)), lt-leb c.history_len max_history h)

      module _ (a : c.history_len ≤ max_history) where
        pub lent-many : message_limit < c.max_messages → Err fault.Malformed ≡ lent_of c st
        unfolding lent_of well_formed legal
        lent-many h = simp (
          whole,
          le-leb 1 c.history_len (omega (arith, n)),
          le-leb c.history_len max_history a,
          lt-leb c.max_messages
              message_limit h,
        )

        pub lent-unknown : c.max_messages ≤ message_limit → known_flags c.flags ≡ false → Err fault.Malformed ≡ lent_of c st
        unfolding lent_of well_formed legal
        lent-unknown m h = simp (
          whole,
          le-leb 1 c.history_len (omega (arith, n)),
          le-leb c.history_len max_history a,
          le-leb c.max_messages message_limit m,
          h,
        )

        module _ (m : c.max_messages ≤ message_limit) (known : known_flags c.flags ≡ true) where
          settings : legal c.history_len c.max_messages c.flags ≡ true
          unfolding legal
          settings = simp (
            le-leb 1 c.history_len (omega (arith, n)),
            le-leb c.history_len max_history a,
            le-leb c.max_messages message_limit m,
            known,
          )

          pub lent-start : c.max_messages < c.start → Err fault.Malformed ≡ lent_of c st
          unfolding lent_of well_formed
          lent-start h = simp (whole, settings, lt-leb c.start c.max_messages h)

          module _ (s : c.start ≤ c.max_messages) where
            pub lent-count : c.max_messages < c.count → Err fault.Malformed ≡ lent_of c st
            unfolding lent_of well_formed
            lent-count h = simp (whole, settings, le-leb c.start c.max_messages s, lt-leb c.count c.max_messages h)

            pub lent_rows_lem : c.count ≤ c.max_messages → rows_fit c st ≡ false → Err fault.Malformed ≡ lent_of c st
            unfolding lent_of well_formed
            lent_rows_lem k h = simp (whole, settings, le-leb c.start c.max_messages s, le-leb c.count c.max_messages k, h)

            pub lent-fine : c.count ≤ c.max_messages → rows_fit c st ≡ true → Ok tt ≡ lent_of c st
            unfolding lent_of well_formed
            lent-fine k h = simp (whole, settings, le-leb c.start c.max_messages s, le-leb c.count c.max_messages k, h)

-- ---- get
module _ (c : MessageCache) (st id : List ℕ) where
  pub found_none : c.count ≤ index_in c id → [] ≡ found c st id
  unfolding found
  found_none h = sym (simp (le-ltb (index_in c id) c.count h))

  pub found_at : (i p : ℕ) → i ≡ index_in c id → i < c.count → p ≡ place_of (ring_of c) i → take ((p * message_size + get_or c.len p 0) - p *
      message_size) (drop (p * message_size) st) ≡ found c st id
  unfolding found message_in
  found_at i p e h k =
      part-from (p * message_size) (get_or c.len p 0) (drop (p * message_size) st)
      ∙ ap (λ (q : ℕ). message_in c.len st q) (k ∙ ap (place_of (ring_of c)) e)
      ∙ sym (simp (lt-ltb (index_in c id) c.count (omega arith)))

  pub found_lies : (i p : ℕ) → Usable c st → i < c.count → p ≡ place_of (ring_of c) i → (p < message_limit) × (p < length c.len) × (p * message_size +
      get_or c.len p 0 ≤ length st)
  found_lies i p ok h e =
      let r = ok.rows in
      let l : p < c.max_messages = rw e (place-lt (ring_of c) i r.starts (omega (arith, r.within))) in
      let s : get_or c.len p 0 ≤ message_size = rw e (ok.short i h) in
      (omega (arith, r.few), omega (arith, r.few, r.lengths), omega (arith, r.room))

  pub get-fault : (l : Result (Unit {0}) Fault) → l ≡ lent_of c st → is_err l ≡ true → [] ≡ get_part c st id
  unfolding get_part
  get-fault (Ok tt) e h = clash (cc)
  get-fault (Err why) e h = rw (← e)

  pub get-found : Ok tt ≡ lent_of c st → (r : List ℕ) → r ≡ found c st id → r ≡ get_part c st id
  unfolding get_part
  get-found e r h = rw (← e) h

  pub lookup_fault : (why : Fault) → Err why ≡ lent_of c st → Err why ≡ lookup_answer c st id
  unfolding lookup_answer
  lookup_fault why e = rw (← e)

  pub lookup_found : (Ok tt) ≡ lent_of c st → (i : ℕ) → i ≡ index_in c id → Ok (nat_lt i c.count) ≡ lookup_answer c st id
  unfolding lookup_answer
  lookup_found e i f = rw (← e, f)

-- ---- why an id is told of or not
module _ (c : MessageCache) (st id topic : List ℕ) (windows : ℕ) where
  pub offer_not : rows_lie (ring_of c) ≡ false → offer.NotCached ≡ offer_in c st id topic windows
  unfolding offer_in
  offer_not l = rw l

  module _ (l : rows_lie (ring_of c) ≡ true) (i : ℕ) (f : i ≡ index_in c id) where
    pub offer_lost : c.count ≤ i → offer.NotCached ≡ offer_in c st id topic windows
    unfolding offer_in
    offer_lost h = rw (l, le-ltb (index_in c id) c.count (omega arith))

    pub offer_found : i < c.count → (p : ℕ) → p ≡ place_of (ring_of c) i → (b : Bool) → b ≡ has_topic c.len (table_of c) st topic p → (o : Offer)
        → o ≡ offer_for b (get_or c.window p 0) windows → o ≡ offer_in c st id topic windows
    unfolding offer_in offer_at
    offer_found h p g b e o q = q ∙ rw (l, lt-ltb (index_in c id) c.count (omega arith), ← f, ← g, e)

-- ---- gossip_ids
abbrev Tells : (c : MessageCache) (st topic : List ℕ) (windows : ℕ) → Result (Unit {0}) GossipError → ℕ → List ℕ → Type 0
Tells c st topic windows a n rows = Gossips c st topic windows (record { answer = a; count = n; rows = rows })

module _ (c : MessageCache) (st topic : List ℕ) (windows : ℕ) where
  untold : (a : Result (Unit {0}) GossipError) → gossip_answer c st topic ≡ a → (a ≡ Ok tt → ⊥) → Tells c st topic windows a 0 (replicate message_limit 0)
  unfolding gossip_count gossip_rows
  untold (Ok _) e n = absurd (n refl)
  untold (Err why) e n = record { answer = sym e; count = rw e; rows = rw e }

  says-fault : (why : Fault) → Err why ≡ lent_of c st → gossip_answer c st topic ≡ Err (gossip.Faulty why)
  unfolding gossip_answer
  says-fault why e = rw (← e)

  says-long : (Ok tt) ≡ lent_of c st → 1024 < length topic → gossip_answer c st topic ≡ Err (gossip.TopicTooLong (length topic))
  unfolding gossip_answer
  says-long e h = rw (← e, lt-ltb 1024 (length topic) h)

  says-ids : (Ok tt) ≡ lent_of c st → length topic ≤ 1024 → gossip_answer c st topic ≡ Ok tt
  unfolding gossip_answer
  says-ids e h = rw (← e, le-ltb 1024 (length topic) h)

  pub gossip_fault : (why : Fault) → Err why ≡ lent_of c st
      → Tells c st topic windows (Err (gossip.Faulty why)) 0 (replicate message_limit 0)
  gossip_fault why e = untold (Err (gossip.Faulty why)) (says-fault why e) (λ k. clash (cc))

  pub gossip_long : (Ok tt) ≡ lent_of c st → 1024 < length topic → Tells c st topic windows (Err (gossip.TopicTooLong (length topic))) 0 (replicate
      message_limit 0)
  gossip_long e h = untold (Err (gossip.TopicTooLong (length topic))) (says-long e h) (λ k. clash (cc))

  pub gossip_told_lem : (Ok tt) ≡ lent_of c st → length topic ≤ 1024 → (n : ℕ) (rows : List ℕ) → n ≡ length (gossip_list c st topic windows) → rows ≡
      gossip_array c st topic windows
      → Tells c st topic windows (Ok tt) n rows
  unfolding gossip_count gossip_rows
  gossip_told_lem e h n rows f g = let s = says-ids e h in record { answer = sym s; count = rw s f; rows = rw s g }

-- ---- put
-- what a plan says of the answer, the cache and the store
abbrev Does : MessageCache → List ℕ → Plan → Result Kept PutError → MessageCache → List ℕ → Type 0
Does c st plan a r s = (a ≡ answered plan) × ((r ≡ kept_in c plan) × (s ≡ stored_in c st plan))

pub puts_as : (c : MessageCache) (st : List ℕ) (plan other : Plan) (a : Result Kept PutError) (r : MessageCache) (s : List ℕ) → plan ≡ other → Does c st other a r s →
    Does c st plan a r s
puts_as c st plan other a r s e p = (rw e p.0, (rw e p.1.0, rw e p.1.1))

pub put-done : (c : MessageCache) (st : List ℕ) (ed : Edition) (body : List ℕ) (i : ℕ) (r : PutDone) (left : List ℕ)
    → Does c st (planned c st ed body i) r.answer r.cache left → Puts c st ed body i r left
put-done c st ed body i r left p = record { answer = p.0; cache = p.1.0; store = p.1.1 }

-- a refusal, with the cache as it was
pub not-put : (c : MessageCache) (st : List ℕ) (plan : Plan) (why : PutError) (r : PutDone)
    → r ≡ record { answer = Err why; cache = c } → plan ≡ no (Err why) → Does c st plan r.answer r.cache st
not-put c st plan why r e p = (
  ap (λ (d : PutDone). d.answer) e ∙ rw p,
  (ap (λ (d : PutDone). d.cache) e ∙ rw p, rw p),
)

module _ (c : MessageCache) (p : List ℕ) where
  pub plan_unfit : (why : Unfit) → Err why ≡ admission_of c.flags p true → plan_fit c p (admission_of c.flags p true) ≡ no (Err (put.Unfit why))
  plan_unfit why e = rw (← e)

module _ (c : MessageCache) (st : List ℕ) (ed : Edition) (body : List ℕ) (i : ℕ) where
  pub plan_fault : (why : Fault) → Err why ≡ lent_of c st → planned c st ed body i ≡ no (Err (put.Faulty why))
  unfolding planned
  plan_fault why e = rw (← e)

  pub plan_refused : {mode : Mode} (why : Refusal) → Ok tt ≡ lent_of c st → mode ≡ mode_of c.flags
      → Err why ≡ accept_of (spoken mode ed) body → planned c st ed body i ≡ no (Err (put.Refused why))
  unfolding planned
  plan_refused why e m f = rw (← e, ← m, ← f)

  pub plan_missing : {mode : Mode} (n : ℕ) → Ok tt ≡ lent_of c st → mode ≡ mode_of c.flags
      → Ok tt ≡ accept_of (spoken mode ed) body → Err n ≡ message_at mode body i → planned c st ed body i ≡ no (Err (put.NoMessage n))
  unfolding planned
  plan_missing n e m f g = rw (← e, ← m, ← f, ← m, ← g)

  pub plan_at_lem : {mode : Mode} (a b : ℕ) → Ok tt ≡ lent_of c st → mode ≡ mode_of c.flags
      → Ok tt ≡ accept_of (spoken mode ed) body → Ok (a, b) ≡ message_at mode body i
      → planned c st ed body i ≡ plan_fit c (between body a b) (admission_of c.flags (between body a b) true)
  unfolding planned
  plan_at_lem a b e m f g = rw (← e, ← m, ← f, ← m, ← g)

-- ---- a state that was tested
module _ (c : MessageCache) (st : List ℕ) (h : (Ok tt) ≡ lent_of c st) (g : length c.generation ≡ message_limit) (w : length c.window ≡
    message_limit) (l : length c.len ≡ message_limit) (i : length c.id_len ≡ message_limit) (r : length c.ids ≡ ids_size) (t : Roomy (table_of c))
  where
    pub tested : Usable c st
    tested = lent-kept c st (sym h) (record { generations = g; windows = w; lengths = l; id-lengths = i; id-room = r; topics = t })

pub told_as : (c : MessageCache) (st topic : List ℕ) (windows : ℕ) (b : Result (Unit {0}) GossipError) (r : GossipIds) → (r.answer ≡ b) × ((r.count ≡ 0) × (r.rows ≡
    replicate message_limit 0))
    → Tells c st topic windows b 0 (replicate message_limit 0) → Gossips c st topic windows r
told_as c st topic windows b r e t = record { answer = e.0 ∙ t.answer; count = e.1.0 ∙ t.count; rows = e.1.1 ∙ t.rows }

-- ---- the id of a message that may be taken
module _ (flags : ℕ) (p : List ℕ) (a e b f : ℕ) (h : admission_of flags p true ≡ Ok ((a, e), (b, f))) where
  module _ (n : ℕ) (first out : List ℕ) (z : length first ≡ message_id_size) (forms : Forms p a e b f first n out) where
    k : (n ≡ length (id_bytes p a e b f)) × (out ≡ sets first 0 (id_bytes p a e b f))
    k = form-fit flags p true a e b f first n out h (omega (arith, fit-id flags p true a e b f h)) forms

    pub id-whole : take n out ≡ id_bytes p a e b f
    id-whole =
        let l = fit-id flags p true a e b f h in
        rw (k.1, sets-eq (id_bytes p a e b f) first 0 (omega arith)) (take_at (id_bytes p a e b f) (drop (0 + length (id_bytes p a e b f)) first) n (sym
        k.0))

    pub id-fits_in : n ≤ length out
    id-fits_in = let l = fit-id flags p true a e b f h in let o : length out ≡ length first = ap length k.1 ∙ length-sets first 0 (id_bytes p a e b f) in
        omega (arith, k.0)

    pub id-counts : n ≡ length (take n out)
    id-counts = k.0 ∙ sym (ap length id-whole)

    id-small : (length p ≤ message_size) × (length (take n out) ≤ message_id_size)
    id-small = let l = fit-id flags p true a e b f h in ((fit-limits flags p true a e b f h).small, omega (arith, id-counts, k.0))

    -- a put under that id is a put of the message
    pub put_under : (c : MessageCache) (st : List ℕ) → Usable c st → (r : PutDone) (s : List ℕ) → Keeps c st p (take n out) r s
        → Does c st (plan_fit c p (admission_of flags p true)) r.answer r.cache s
    unfolding kept_under stored_under
    put_under c st u r s g = rw (h, ← id-whole) (keep_usable c st p (take n out) id-small.0 id-small.1 u r s g)

-- ---- a message under its id
module _ (c : MessageCache) (st m id : List ℕ) where
  pub kept-not : (r : PutDone) → r ≡ record { answer = Err (put.Faulty fault.Malformed); cache = c }
      → keepable (ring_of c) (length st) (length m) (length id) ≡ false → Keeps c st m id r st
  unfolding plan_kept
  kept-not r e h = rw e (record { answer = rw h; cache = rw h; store = rw h })

  module _ (g : keepable (ring_of c) (length st) (length m) (length id) ≡ true) where
    pub kept-placed : length c.generation ≡ message_limit → length c.window ≡ message_limit → length c.len ≡ message_limit → length c.id_len ≡
        message_limit → length c.ids ≡ ids_size → Roomy (table_of c) → Placed c st
    kept-placed x w l i r y =
        let k = when_keeps (ring_of c) (length st) (length m) (length id) g in
        let t = lie_rows (ring_of c) k.0 in
        record {
          few = t.0;
          starts = t.1;
          within = t.2;
          room = k.1;
          lengths = l;
          id-lengths = i;
          id-room = r;
          topics = y;
          windows = w;
          generations
              = x;
        }

    pub kept-short : (length m ≤ message_size) × (length id ≤ message_id_size)
    kept-short = let k = when_keeps (ring_of c) (length st) (length m) (length id) g in (k.2, k.3)

    module _ (r : ℕ) (e : r ≡ index_in c id) where
      pub under-held : r < c.count → Keeps c st m id (record { answer = Ok kept.Held; cache = c }) st
      unfolding plan_kept
      under-held h = let t = lt-ltb (index_in c id) c.count (omega (arith, e)) in record {
        answer = rw (g, t);
        cache = rw (g, t);
        store = rw (g, t);
      }

      pub under-new : c.count ≤ r → (d : MessageCache) (st2 : List ℕ) → (d ≡ entered m id c) × (st2 ≡ entered_store c st m)
          → Keeps c st m id (record { answer = Ok kept.Stored; cache = d }) st2
      unfolding plan_kept
      under-new h d st2 w = let t = le-ltb (index_in c id) c.count (omega (arith, e)) in record {
        answer = rw (g, t);
        cache = rw (g, t) w.0;
        store = rw (g, t) w.1;
      }

-- ---- the id in a place
module _ (c : MessageCache) (row : ℕ) (out id : List ℕ) (e : id ≡ id_at message_id_size c.id_len c.ids row) where
  pub id-room : length out < length id → WritesId c row out (Err (no_room (length id))) out
  id-room h = record { answer = rw (← e) (sym (answer-short id out h)); buffer = rw (← e) (sym (written-short id out h)) }

  pub id_wrote : length id ≤ length out → (left : List ℕ) → left ≡ set_in (length id) 0 id out → WritesId c row out (Ok (length id)) left
  id_wrote h left f =
      record {
        answer = rw (← e) (sym (answer-fits id out h));
        buffer = f ∙ set-fits (length id) 0 id out (omega arith) ∙ rw (← e) (sym (written-fits id out h));
      }
