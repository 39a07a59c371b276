-- No answer of a node depends on where the arrival number stands: each call answers the same from a node whose arrival
-- numbers stand k further, leaves the same stores and buffer, and leaves the node that stands k further.
use Rattle.std.specs.Prelude.{Result, Ok, Err, ℕ, ◌*◌, ◌≡◌, List, Bool, true, false, cond, length, eqb}
use Rattle.std.proofs.Math.Path.{refl, sym, ap}
use Rattle.std.proofs.Common.{◌∙◌, arith}
use Rattle.basis.specs.declared.Edition.{Edition}
use Rattle.basis.specs.Dialect.{mode_of, spoken}
use Rattle.basis.specs.Cases.{either, clash, both}
use Rattle.protobuf.specs.Walk.{between}
use Rattle.schema.specs.Accept.{accept_of}
use Rattle.ids.specs.Ids.{message_at}
use Rattle.admission.specs.Admission.{admission_of}
use Rattle.seen.specs.State.{id_size}
use Rattle.seen.specs.Laws.{insert_sized}
use Rattle.mcache.specs.declared.MessageCache.{MessageCache}
use Rattle.mcache.specs.State.{well_formed as cacheWellFormed, message_size}
use Rattle.mcache.specs.Calls.{lent_of as cacheLentOf, index_in, plan_under, kept_in, stored_in, kept_under, stored_under}
use Rattle.mcache.specs.Calls.{Plan as PutPlan, planned as putPlanned, shifted, shift_cache, gossip_list, offer_at, offer_in}
use Rattle.mcache.specs.WellFormed.{Typed as cacheTyped}
use Rattle.mcache.specs.FineLaws.{under-typed}
use Rattle.mcache.specs.WrapLaws.{moved, wrap_free, wrap_free-put, wrap_free-kept, wrap_free-stored, wrap_free-shift}
use Rattle.node.specs.declared.Node.{Node}
use Rattle.protobuf.specs.declared.Refusal.{Refusal}
use Rattle.admission.specs.declared.Unfit.{Unfit}
use Rattle.basis.specs.declared.Fault.{Fault}
use Rattle.basis.specs.declared.Fault.TheVariants as fault
use Rattle.node.specs.declared.BeatError.TheVariants as beat
use Rattle.node.specs.declared.BeatError.{BeatError}
use Rattle.node.specs.Gateway.{form_of}
use Rattle.node.specs.State.{well_formed, seen_fits}
use Rattle.node.specs.Calls.{right_sizes, lent_of, later_node, Plan, no, taken, plan_fit, plan_at, plan_body, planned}
use Rattle.node.specs.Calls.{swept, held_at, admit_answer, admit_node, admit_seen, admit_cache, beat_answer, when_done}
use Rattle.node.specs.Calls.{beat_node, told_in, advertise_bytes, advertise_answer, advertise_left, unseen_of, ask_bytes}
use Rattle.node.specs.Calls.{explain_answer, ask_answer, ask_left, remaining, cached_of, serve_answer, serve_left}
use Rattle.node.specs.WellFormed.{Typed}
use Rattle.node.specs.StateLaws.{fine-tests}
use Rattle.node.specs.Laws.{Takes, plan_takes, takes-id-small, swept-fine, swept-sized, seen-inserted, beat-done}
use Rattle.node.specs.WellFormedLaws.{beat-typed}
use Rattle.node.specs.Freed.{plan_put}

-- every arrival number, and the next, k further, mod 2^64
unfoldable pub moved_node : ℕ → Node → Node
moved_node k n =
    record {
      ttl = n.ttl;
      max_seen = n.max_seen;
      clock = n.clock;
      seen = n.seen;
      cache = moved k n.cache;
    }

-- ---- the test
inner_same : (a b : Bool) → ◌≡◌ {A = Result (Unit {0}) Fault} (cond a (Ok tt) (Err fault.Malformed))
    (cond b (Ok tt) (Err fault.Malformed)) → a ≡ b
inner_same true true h = refl
inner_same true false h = clash (cc)
inner_same false true h = clash (cc)
inner_same false false h = refl

sizes-moved : (k : ℕ) (n : Node) (ss cs : List ℕ) → right_sizes (moved_node k n) ss cs ≡ right_sizes n ss cs
unfolding right_sizes moved_node moved
sizes-moved k n ss cs = refl

seen-moved : (k : ℕ) (n : Node) (ss : List ℕ) → seen_fits (moved_node k n) ss ≡ seen_fits n ss
unfolding seen_fits moved_node
seen-moved k n ss = refl

right_length : (c : MessageCache) (cs : List ℕ) → eqb (length cs) (c.max_messages * message_size) ≡ true
    → cacheLentOf c cs ≡ cond (cacheWellFormed c cs) (Ok tt) (Err fault.Malformed)
unfolding cacheLentOf
right_length c cs t = rw t

cache-moved : (k : ℕ) (c : MessageCache) (cs : List ℕ) → cacheTyped c
    → eqb (length cs) (c.max_messages * message_size) ≡ true
    → cacheWellFormed (moved k c) cs ≡ cacheWellFormed c cs
unfolding moved
cache-moved k c cs y t =
    inner_same (cacheWellFormed (moved k c) cs) (cacheWellFormed c cs)
    (sym (right_length (moved k c) cs t) ∙ wrap_free k c cs y ∙ right_length c cs t)

module _ (k : ℕ) (n : Node) (ss cs : List ℕ) (typed : Typed n) where
  form-moved : right_sizes n ss cs ≡ true → well_formed (moved_node k n) ss cs ≡ well_formed n ss cs
  unfolding well_formed right_sizes moved_node
  form-moved u =
      let e = (both (eqb (length ss) (n.max_seen * id_size)) _ u).1 in
      rw (cache-moved k n.cache cs typed.messages e, seen-moved k n ss)

  pub lent-moved : lent_of (moved_node k n) ss cs ≡ lent_of n ss cs
  unfolding lent_of moved_node
  lent-moved = rw (sizes-moved k n ss cs)
      (either (right_sizes n ss cs) (λ u. rw (u, form-moved u)) (λ u. rw u))

  -- ---- the mode
  mode_moved : mode_of (moved_node k n).cache.flags ≡ mode_of n.cache.flags
  unfolding moved_node moved
  mode_moved = refl

  -- ---- admit
  module _ (ed : Edition) (body : List ℕ) (i : ℕ) (word : Bool) (at : ℕ) where
    fit-moved : (p : List ℕ) (r : Result ((ℕ × ℕ) × (ℕ × ℕ)) Unfit) → plan_fit (moved_node k n) at p r ≡ plan_fit n at p r
    unfolding moved_node
    fit-moved p (Err why) = refl
    fit-moved p (Ok ((a, e), (b, f))) = refl

    at_moved : (r : Result (ℕ × ℕ) ℕ) → plan_at (moved_node k n) at word body r ≡ plan_at n at word body r
    unfolding moved_node moved
    at_moved (Err c) = refl
    at_moved (Ok (a, e)) = fit-moved (between body a e) (admission_of n.cache.flags (between body a e) word)

    body-moved : (r : Result (Unit {0}) Refusal) → plan_body (moved_node k n) at word body i r ≡ plan_body n at word body i r
    unfolding moved_node moved
    body-moved (Err why) = refl
    body-moved (Ok _) = at_moved (message_at (mode_of n.cache.flags) body i)

    pub plan_moved : planned (moved_node k n) ss cs ed body i word at ≡ planned n ss cs ed body i word at
    unfolding planned
    plan_moved =
        rw (lent-moved, mode_moved, body-moved (accept_of (spoken (mode_of n.cache.flags) ed) body))

    module _ (m id : List ℕ) (t : Takes n ss cs ed body i word at m id) where
      under_moved : plan_under (moved k n.cache) m id ≡ putPlanned (moved k n.cache) cs ed body i
      unfolding index_in moved
      under_moved = sym (wrap_free-put k n.cache cs typed.messages ed body i ∙ plan_put t)

      kept-moved : kept_under m id (moved k n.cache) ≡ moved k (kept_under m id n.cache)
      unfolding kept_under
      kept-moved =
          ap (kept_in (moved k n.cache)) under_moved
          ∙ wrap_free-kept k n.cache cs typed.messages ed body i
          ∙ ap (λ (x : PutPlan). moved k (kept_in n.cache x)) (plan_put t)

      stored_moved : stored_under (moved k n.cache) cs m id ≡ stored_under n.cache cs m id
      unfolding stored_under
      stored_moved =
          ap (stored_in (moved k n.cache) cs) under_moved
          ∙ wrap_free-stored k n.cache cs typed.messages ed body i
          ∙ ap (stored_in n.cache cs) (plan_put t)

      node-moved : admit_node (moved_node k n) ss at (taken m id) ≡ moved_node k (admit_node n ss at (taken m id))
      unfolding held_at swept later_node moved_node moved
      node-moved = rw kept-moved (either (held_at n ss at (form_of (mode_of n.cache.flags) m id)) (λ u. rw u)
          (λ u. rw u))

      store-moved : admit_cache (moved_node k n) ss cs at (taken m id) ≡ admit_cache n ss cs at (taken m id)
      unfolding held_at swept moved_node moved
      store-moved = rw stored_moved

    answer-moved : (m id : List ℕ) → admit_answer (moved_node k n) ss at (taken m id) ≡ admit_answer n ss at (taken m id)
    unfolding held_at swept moved_node moved
    answer-moved m id = refl

    ids-moved : (m id : List ℕ) → admit_seen (moved_node k n) ss at (taken m id) ≡ admit_seen n ss at (taken m id)
    unfolding held_at swept moved_node moved
    ids-moved m id = refl

    admit-by : (r : Plan) → planned n ss cs ed body i word at ≡ r
        → (admit_answer (moved_node k n) ss at r ≡ admit_answer n ss at r)
        × (admit_node (moved_node k n) ss at r ≡ moved_node k (admit_node n ss at r))
        × (admit_seen (moved_node k n) ss at r ≡ admit_seen n ss at r)
        × (admit_cache (moved_node k n) ss cs at r ≡ admit_cache n ss cs at r)
    admit-by (no r) e = (refl, refl, refl, refl)
    admit-by (taken m id) e =
        let t = (plan_takes n ss cs ed body i word at m id).0 e in
        (answer-moved m id, node-moved m id t, ids-moved m id, store-moved m id t)

    pub admit-moved :
        (admit_answer (moved_node k n) ss at (planned (moved_node k n) ss cs ed body i word at)
        ≡ admit_answer n ss at (planned n ss cs ed body i word at))
        × (admit_node (moved_node k n) ss at (planned (moved_node k n) ss cs ed body i word at)
        ≡ moved_node k (admit_node n ss at (planned n ss cs ed body i word at)))
        × (admit_seen (moved_node k n) ss at (planned (moved_node k n) ss cs ed body i word at)
        ≡ admit_seen n ss at (planned n ss cs ed body i word at))
        × (admit_cache (moved_node k n) ss cs at (planned (moved_node k n) ss cs ed body i word at)
        ≡ admit_cache n ss cs at (planned n ss cs ed body i word at))
    admit-moved = rw plan_moved (admit-by (planned n ss cs ed body i word at) refl)

  -- ---- heartbeat
  module _ (at : ℕ) where
    pub beat_answer-moved : beat_answer (moved_node k n) ss cs at ≡ beat_answer n ss cs at
    unfolding beat_answer moved_node
    beat_answer-moved = rw lent-moved

    shifted-moved : lent_of n ss cs ≡ Ok tt → shifted (moved k n.cache) ≡ moved k (shifted n.cache)
    unfolding shift_cache
    shifted-moved f =
        rw (wrap_free k n.cache cs typed.messages, (fine-tests n ss cs f).messages)
        at (wrap_free-shift k n.cache cs typed.messages)

    beat-by : (r : Result (Unit {0}) BeatError) → beat_answer n ss cs at ≡ r
        → when_done r (later_node at (swept (moved_node k n) at) (shifted (moved k n.cache)) (moved_node k n))
        (moved_node k n)
        ≡ moved_node k (when_done r (later_node at (swept n at) (shifted n.cache) n) n)
    unfolding swept later_node moved_node
    beat-by (Err (beat.Faulty why)) e = refl
    beat-by (Err (beat.ClockBack clock)) e = refl
    beat-by (Ok _) e = rw (shifted-moved (beat-done n ss cs at e).0)

    pub beat-moved : (beat_answer (moved_node k n) ss cs at ≡ beat_answer n ss cs at)
        × (beat_node (moved_node k n) ss cs at ≡ moved_node k (beat_node n ss cs at))
    unfolding beat_node moved_node
    beat-moved = (beat_answer-moved, rw beat_answer-moved (beat-by (beat_answer n ss cs at) refl))

  -- ---- the writers, which leave the node as it is
  told_moved : (topic : List ℕ) (windows : ℕ) → advertise_bytes (moved_node k n) cs topic windows ≡ advertise_bytes n cs
      topic windows
  unfolding advertise_bytes told_in gossip_list moved_node moved
  told_moved topic windows = refl

  pub advertise-moved : (topic : List ℕ) (windows : ℕ) (out : List ℕ)
      → (advertise_answer (moved_node k n) ss cs topic windows out ≡ advertise_answer n ss cs topic windows out)
      × (advertise_left (moved_node k n) ss cs topic windows out ≡ advertise_left n ss cs topic windows out)
  unfolding advertise_answer advertise_left
  advertise-moved topic windows out =
      let t = told_moved topic windows in
      (rw (lent-moved, t), rw (lent-moved, t))

  -- and explain
  offer_moved : (id topic : List ℕ) (windows : ℕ)
      → offer_in (moved k n.cache) cs id topic windows ≡ offer_in n.cache cs id topic windows
  unfolding offer_in offer_at index_in moved
  offer_moved id topic windows = refl

  pub explain-moved : (id topic : List ℕ) (windows : ℕ)
      → explain_answer (moved_node k n) ss cs id topic windows ≡ explain_answer n ss cs id topic windows
  unfolding explain_answer moved_node
  explain-moved id topic windows = rw (lent-moved, offer_moved id topic windows)

  asked-moved : (body : List ℕ) → ask_bytes (moved_node k n) ss body ≡ ask_bytes n ss body
  unfolding ask_bytes unseen_of moved_node moved
  asked-moved body = refl

  pub ask-moved : (ed : Edition) (body out : List ℕ)
      → (ask_answer (moved_node k n) ss cs ed body out ≡ ask_answer n ss cs ed body out)
      × (ask_left (moved_node k n) ss cs ed body out ≡ ask_left n ss cs ed body out)
  unfolding ask_answer ask_left
  ask-moved ed body out =
      let a = asked-moved body in (rw (lent-moved, mode_moved, a), rw (lent-moved, mode_moved, a))

  served-moved : (is : List (List ℕ)) → cached_of (moved_node k n).cache cs is ≡ cached_of n.cache cs is
  unfolding cached_of moved_node moved
  served-moved is = refl

  pub serve-moved : (ed : Edition) (body second out : List ℕ)
      → (serve_answer (moved_node k n) ss cs ed body second out ≡ serve_answer n ss cs ed body second out)
      × (serve_left (moved_node k n) ss cs ed body second out ≡ serve_left n ss cs ed body second out)
  unfolding serve_answer serve_left
  serve-moved ed body second out =
      let s = served-moved (remaining (mode_of n.cache.flags) body second) in
      (rw (lent-moved, mode_moved, s), rw (lent-moved, mode_moved, s))

-- ---- what a call leaves has the types of a node, so that the same holds for the calls after it
module _ (n : Node) (ss cs : List ℕ) (typed : Typed n) where
  admit-by_plan : (ed : Edition) (body : List ℕ) (i : ℕ) (word : Bool) (at : ℕ) (r : Plan)
      → planned n ss cs ed body i word at ≡ r → Typed (admit_node n ss at r)
  unfolding later_node
  admit-by_plan ed body i word at (no r) e = typed
  admit-by_plan ed body i word at (taken m id) e =
      let t = (plan_takes n ss cs ed body i word at m id).0 e in
      let z = swept-sized n ss cs t.fine at typed.ids in
      let f = swept-fine n ss cs t.fine at typed.ids in
      let s = seen-inserted n ss cs t.fine at typed.ids (form_of (mode_of n.cache.flags) m id)
      (omega (arith, takes-id-small t)) in
      either (held_at n ss at (form_of (mode_of n.cache.flags) m id))
      (λ u. rw u (record { ids = z; messages = typed.messages }))
      (λ u. rw u
      (record {
        ids = rw (rw u at s) (insert_sized (swept n at) ss f z n.max_seen at n.ttl
            (form_of (mode_of n.cache.flags) m id));
        messages = under-typed m id n.cache typed.messages;
      }))

  pub admit-typed : (ed : Edition) (body : List ℕ) (i : ℕ) (word : Bool) (at : ℕ)
      → Typed (admit_node n ss at (planned n ss cs ed body i word at))
  admit-typed ed body i word at = admit-by_plan ed body i word at (planned n ss cs ed body i word at) refl

  beat-by-answer : (at : ℕ) (r : Result (Unit {0}) BeatError) → beat_answer n ss cs at ≡ r → Typed (beat_node n ss cs at)
  unfolding beat_node
  beat-by-answer at (Err (beat.Faulty why)) e = rw e typed
  beat-by-answer at (Err (beat.ClockBack clock)) e = rw e typed
  beat-by-answer at (Ok _) e = beat-typed n ss cs at typed e

  pub beaten-typed : (at : ℕ) → Typed (beat_node n ss cs at)
  beaten-typed at = beat-by-answer at (beat_answer n ss cs at) refl
