-- What the calls on a node mean: they do to the gateway what the scope says, they speak of what it holds, and a refused
-- call changes nothing.
use Rattle.std.specs.Prelude.{false, Result, Ok, Err, ℕ, ◌≤◌, ◌≡◌, Bool, true, cond, ◌↔◌, length, leb, ltb, eqb}
use Rattle.std.proofs.Math.Path.{refl, ap}
use Rattle.std.proofs.Common.{sym, ◌∙◌, arith}
use mathlib.Core.List.{List, [], ◌∷◌}
use Rattle.std.proofs.Math.Bool.{not}
use Rattle.std.proofs.lemmas.List.Edits.{sets}
use borrow.Author.Tests.{ltb-false, le-ltb, eqb-true, eqb-false}
use Rattle.basis.specs.declared.Edition.{Edition}
use Rattle.basis.specs.declared.Edition.TheVariants.{V12}
use Rattle.basis.specs.Dialect.{mode_of, spoken}
use Rattle.basis.specs.Cases.{either, clash}
use Rattle.basis.specs.Writing.{answer, written}
use Rattle.rows.specs.Rows.{place_of, rows_in}
use Rattle.rows.specs.RowsLaws.{length_ring}
use Rattle.rows.specs.Store.{id_at, ids_in}
use Rattle.node.specs.Parts.{at_path}
use Rattle.protobuf.specs.Walk.{between}
use Rattle.schema.specs.Accept.{accept_of}
use Rattle.ids.specs.Ids.{message_at, id_bytes}
use Rattle.admission.specs.Admission.{admission_of, vouched, gives_id}
use Rattle.admission.specs.AdmissionLaws.{fit-vouched, fit-true, fit-limits, fit-id, gives-own, gives-only, message-read}
use Rattle.seen.specs.Entries.{ids_of, holds, until, inserted, live}
use Rattle.seen.specs.State.{entries_in, id_size, fresh as noIds}
use Rattle.seen.specs.Calls.{lent_of as seenLentOf, entered, entered_store, insert_answer, insert_cache, insert_store}
use Rattle.seen.specs.Calls.{gc_cache}
use Rattle.seen.specs.WellFormed.{Sized}
use Rattle.seen.specs.EntriesLaws.{ids-entries, holds-entries}
use Rattle.seen.specs.Laws.{gc_entries, gc_fine, gc_sized, insert_says, insert_entries}
use Rattle.mcache.specs.declared.MessageCache.{MessageCache}
use Rattle.mcache.specs.Messages.{Cached, held, get}
use Rattle.mcache.specs.State.{message_in, cached_in, fresh as noMessages, message_size, message_id_size, ring_of}
use Rattle.mcache.specs.Calls.{index_in, found as foundIn, shifted}
use Rattle.mcache.specs.StateLaws.{fine-tests as cacheTests}
use Rattle.mcache.specs.CachedLaws.{cached-shifted}
use Rattle.mcache.specs.GossipLaws.{gossip_ids_lem}
use Rattle.mcache.specs.Laws.{under-settings, under-cached, shifted-settings, held-index, found-cached}
use Rattle.node.specs.declared.Node.{Node}
use Rattle.protobuf.specs.declared.Refusal.{Refusal}
use Rattle.admission.specs.declared.Unfit.{Unfit}
use Rattle.basis.specs.declared.Fault.{Fault}
use Rattle.node.specs.declared.BeatError.TheVariants as beat
use Rattle.node.specs.declared.BeatError.{BeatError}
use Rattle.node.specs.declared.Novelty.TheVariants as novelty
use Rattle.seen.specs.declared.Entry.TheVariants as entry
use Rattle.node.specs.Gateway.{Gateway, started, form_of, is_new, after_admit, after_beat, told_of, knows, lacking}
use Rattle.node.specs.Gateway.{having}
use Rattle.node.specs.Gateway.{rpc_bytes, advertise_of, ask_of, serve_of, sent_bytes}
use Rattle.node.specs.State.{gateway_in, legal_settings, fresh_node}
use Rattle.node.specs.Calls.{admit_number, beat_number, advertise_number, ask_number, serve_number, start_answer}
use Rattle.node.specs.Calls.{start_node, lent_of, later_node, Plan, no, taken, plan_fit, plan_at, plan_body, planned}
use Rattle.node.specs.Calls.{swept, held_at, admit_answer, admit_node, admit_seen, admit_cache, when_done, beat_answer}
use Rattle.node.specs.Calls.{beat_node, told_in, advertise_bytes, advertised, advertise_answer}
use Rattle.node.specs.Calls.{advertise_left, offered, known_in, unseen_from, unseen_of, ask_bytes, asked, ask_answer, ask_left}
use Rattle.node.specs.Calls.{wanted, unwanted_in, remaining, rows_for, cached_of, room_of, served_of, reply_bytes}
use Rattle.node.specs.Calls.{replied, reply_to, serve_answer, serve_left}
use Rattle.node.specs.WellFormed.{Typed}
use Rattle.node.specs.StateLaws.{fine-tests, room_cap}
use Rattle.node.specs.ReplyLaws.{reply_bytes_lem, reply-some, sent_bytes_lem}

-- ---- start
pub fresh-gateway : (ttl max_seen history max flags : ℕ) (ss cs : List ℕ)
    → gateway_in (fresh_node ttl max_seen history max flags) ss cs ≡ started ttl max_seen history max flags
unfolding gateway_in fresh_node started noIds noMessages entries_in cached_in rows_in
fresh-gateway ttl max_seen history max flags ss cs = refl

pub start-gateway : (ttl max_seen history max flags : ℕ) (ss cs : List ℕ)
    → legal_settings max_seen history max flags ≡ true
    → gateway_in (start_node ttl max_seen history max flags) ss cs ≡ started ttl max_seen history max flags
unfolding start_node
start-gateway ttl max_seen history max flags ss cs h = rw h (fresh-gateway ttl max_seen history max flags ss cs)

pub start-says : (max_seen history max flags : ℕ) → legal_settings max_seen history max flags ≡ true
    → start_answer max_seen history max flags ≡ Ok tt
unfolding start_answer
start-says max_seen history max flags h = rw h

-- ---- what an admit takes
-- a message and its id: the state is fine, the body accepted, m the message at the index, fit under the node's flags and
-- with the host's word; its id is from + seqno; and the clock is not ahead
pub record Takes (n : Node) (ss cs : List ℕ) (ed : Edition) (body : List ℕ) (i : ℕ) (word : Bool) (at : ℕ)
    (m id : List ℕ) : Type 0 where
  pub fine : lent_of n ss cs ≡ Ok tt
  pub accepted : accept_of (spoken (mode_of n.cache.flags) ed) body ≡ Ok tt
  pub start : ℕ
  pub next : ℕ
  pub there : message_at (mode_of n.cache.flags) body i ≡ Ok (start, next)
  pub bytes : m ≡ between body start next
  pub from_start : ℕ
  pub from_end : ℕ
  pub seqno-start : ℕ
  pub seqno-end : ℕ
  pub fit : admission_of n.cache.flags m word ≡ Ok ((from_start, from_end), (seqno-start, seqno-end))
  pub named : id ≡ id_bytes m from_start from_end seqno-start seqno-end
  pub forward : n.clock ≤ at

module _ (n : Node) (ss cs : List ℕ) (ed : Edition) (body : List ℕ) (i : ℕ) (word : Bool) (at : ℕ) (m id : List ℕ) where
  module _ (fine : lent_of n ss cs ≡ Ok tt) (ok : accept_of (spoken (mode_of n.cache.flags) ed) body
      ≡ Ok tt) where
    of-fit : (a e : ℕ) (r : Result ((ℕ × ℕ) × (ℕ × ℕ)) Unfit) → message_at (mode_of n.cache.flags) body i ≡ Ok (a, e)
        → admission_of n.cache.flags (between body a e) word ≡ r
        → plan_fit n at (between body a e) r ≡ taken m id → Takes n ss cs ed body i word at m id
    of-fit a e (Err why) there f h = clash (cc)
    of-fit a e (Ok ((x, y), (z, w))) there f h =
        let p = between body a e in
        either (ltb at n.clock)
        (λ t. clash (let q = rw t at h in cc))
        (λ t.
        let q : taken p (id_bytes p x y z w) ≡ taken m id = rw t at h in
        let b : m ≡ p = cc in
        let c : id_bytes p x y z w ≡ id = cc in
        record {
          fine = fine;
          accepted = ok;
          start = a;
          next = e;
          there = there;
          bytes = b;
          from_start = x;
          from_end = y;
          seqno-start = z;
          seqno-end = w;
          fit = rw b f;
          named = rw b (sym c);
          forward = ltb-false at n.clock t;
        })

    of_at : (r : Result (ℕ × ℕ) ℕ) → message_at (mode_of n.cache.flags) body i ≡ r → plan_at n at word body r ≡ taken m id
        → Takes n ss cs ed body i word at m id
    of_at (Err k) there h = clash (cc)
    of_at (Ok (a, e)) there h = of-fit a e (admission_of n.cache.flags (between body a e) word) there refl h

  of-body : lent_of n ss cs ≡ Ok tt → (r : Result (Unit {0}) Refusal) → accept_of (spoken (mode_of n.cache.flags) ed) body ≡ r
      → plan_body n at word body i r ≡ taken m id → Takes n ss cs ed body i word at m id
  of-body fine (Err why) ok h = clash (cc)
  of-body fine (Ok _) ok h = of_at fine ok (message_at (mode_of n.cache.flags) body i) refl h

  of_lent_lem : (l : Result (Unit {0}) Fault) → lent_of n ss cs ≡ l → planned n ss cs ed body i word at ≡ taken m id
      → Takes n ss cs ed body i word at m id
  unfolding planned
  of_lent_lem (Err why) e h = clash (let q = rw e at h in cc)
  of_lent_lem (Ok _) e h = of-body e (accept_of (spoken (mode_of n.cache.flags) ed) body) refl (rw e at h)

  takes_plan : Takes n ss cs ed body i word at m id → planned n ss cs ed body i word at ≡ taken m id
  unfolding planned
  takes_plan t =
      rw (t.fine, t.accepted, t.there, ← t.bytes, t.fit, le-ltb at n.clock t.forward)
      (ap (λ (j : List ℕ). taken m j) (sym t.named))

  -- exactly then
  pub plan_takes : (planned n ss cs ed body i word at ≡ taken m id) ↔ Takes n ss cs ed body i word at m id
  plan_takes = (of_lent_lem (lent_of n ss cs) refl, takes_plan)

-- what follows for the message and its id
module _ {n : Node} {ss cs : List ℕ} {ed : Edition} {body : List ℕ} {i : ℕ} {word : Bool} {at : ℕ} {m id : List ℕ}
    (t : Takes n ss cs ed body i word at m id) where
  pub takes-vouched : vouched n.cache.flags m word ≡ true
  takes-vouched = fit-vouched n.cache.flags m word t.from_start t.from_end t.seqno-start t.seqno-end
      t.fit

  -- it would be taken with the host's word
  pub takes-true : admission_of n.cache.flags m true
      ≡ Ok ((t.from_start, t.from_end), (t.seqno-start, t.seqno-end))
  takes-true = fit-true n.cache.flags m word t.from_start t.from_end t.seqno-start t.seqno-end t.fit

  pub takes-small : length m ≤ message_size
  takes-small = (fit-limits n.cache.flags m word t.from_start t.from_end t.seqno-start t.seqno-end
      t.fit).small

  pub takes-id-small : length id ≤ message_id_size
  takes-id-small = rw t.named (fit-id n.cache.flags m word t.from_start t.from_end t.seqno-start
      t.seqno-end
      t.fit).1

  pub takes-own : gives_id n.cache.flags m id ≡ true
  takes-own =
      let r = message-read (spoken (mode_of n.cache.flags) ed) body i t.start t.next t.accepted
      t.there in
      rw t.named (gives-own n.cache.flags m r.0 t.from_start t.from_end t.seqno-start t.seqno-end
      (rw t.bytes r.1) takes-true)

-- where nothing is refused, the message at the index is taken, under its id
pub plan_taken : (n : Node) (ss cs : List ℕ) (ed : Edition) (body : List ℕ) (i at a e x y z w : ℕ)
    → lent_of n ss cs ≡ Ok tt → accept_of (spoken (mode_of n.cache.flags) ed) body ≡ Ok tt
    → message_at (mode_of n.cache.flags) body i ≡ Ok (a, e)
    → admission_of n.cache.flags (between body a e) true ≡ Ok ((x, y), (z, w)) → n.clock ≤ at
    → planned n ss cs ed body i true at ≡ taken (between body a e) (id_bytes (between body a e) x y z w)
unfolding planned
plan_taken n ss cs ed body i at a e x y z w fine ok there fit h = rw (fine, ok, there, fit, le-ltb at n.clock h)

-- a message that gives an id is taken under it, where the clock does not go back
pub fit_plan : (n : Node) (at : ℕ) (m id : List ℕ) → gives_id n.cache.flags m id ≡ true → n.clock ≤ at
    → plan_fit n at m (admission_of n.cache.flags m true) ≡ taken m id
fit_plan n at m id own h = let g = gives-only n.cache.flags m id own in
    rw (g.taken, le-ltb at n.clock h) (ap (λ (i : List ℕ). taken m i) (sym g.named))

-- ---- the ids seen, after a clean-up and an insert: what the seen cache's own calls leave
module _ (n : Node) (ss cs : List ℕ) (fine : lent_of n ss cs ≡ Ok tt) (at : ℕ) where
  pub swept_gc : swept n at ≡ gc_cache at n.seen ss
  unfolding swept gc_cache
  swept_gc = let t = fine-tests n ss cs fine in rw (t.ids, room_cap n ss t.room)

  pub entries-swept : entries_in n.max_seen (swept n at) ss ≡ live at (entries_in n.max_seen n.seen ss)
  entries-swept = let t = fine-tests n ss cs fine in
      rw (swept_gc, ← room_cap n ss t.room) (gc_entries n.seen ss t.ids at)

  pub held-swept : (form : List ℕ) → holds form (live at (entries_in n.max_seen n.seen ss))
      ≡ held_at n ss at form
  unfolding held_at
  held-swept form = ap (holds form) (sym entries-swept) ∙ holds-entries n.max_seen (swept n at) ss form

  pub is_new_lem : (m id : List ℕ) → is_new at m id (gateway_in n ss cs)
      ≡ not (held_at n ss at (form_of (mode_of n.cache.flags) m id))
  unfolding is_new gateway_in
  is_new_lem m id = ap not (held-swept (form_of (mode_of n.cache.flags) m id))

  module _ (z : Sized n.seen) where
    pub swept-fine : seenLentOf (swept n at) ss ≡ Ok tt
    swept-fine = rw swept_gc (gc_fine n.seen ss (fine-tests n ss cs fine).ids z at)

    pub swept-sized : Sized (swept n at)
    swept-sized = rw swept_gc (gc_sized n.seen ss (fine-tests n ss cs fine).ids z at)

    module _ (form : List ℕ) (k : length form ≤ id_size) where
      insert_answer_lem : insert_answer n.max_seen (swept n at) ss form
          ≡ Ok (cond (held_at n ss at form) entry.Held entry.Fresh)
      unfolding held_at
      insert_answer_lem =
          let c = room_cap n ss (fine-tests n ss cs fine).room in
          rw (← holds-entries n.max_seen (swept n at) ss form)
          (rw c at (insert_says (swept n at) ss swept-fine n.max_seen form (omega arith) k))

      -- what an admit leaves
      pub seen-inserted : cond (held_at n ss at form) (swept n at)
          (entered n.max_seen n.max_seen (length form) (until at n.ttl) (swept n at))
          ≡ insert_cache n.max_seen at n.ttl (swept n at) ss form
      unfolding insert_cache
      seen-inserted =
          let c = room_cap n ss (fine-tests n ss cs fine).room in
          rw (insert_answer_lem, c) (either (held_at n ss at form) (λ t. rw t) (λ t. rw t))

      pub store-inserted : cond (held_at n ss at form) ss (entered_store n.max_seen n.max_seen (swept n at) ss
          form)
          ≡ insert_store n.max_seen (swept n at) ss form
      unfolding insert_store
      store-inserted =
          let c = room_cap n ss (fine-tests n ss cs fine).room in
          rw (insert_answer_lem, c) (either (held_at n ss at form) (λ t. rw t) (λ t. rw t))

      pub entries-inserted : entries_in n.max_seen
          (insert_cache n.max_seen at n.ttl (swept n at) ss form)
          (insert_store n.max_seen (swept n at) ss form)
          ≡ inserted n.max_seen form at n.ttl (live at (entries_in n.max_seen n.seen ss))
      entries-inserted =
          let c = room_cap n ss (fine-tests n ss cs fine).room in
          rw (← entries-swept)
          (rw c at (insert_entries (swept n at) ss swept-fine swept-sized n.max_seen at n.ttl form
          (omega arith) k))

-- ---- admit
module _ (n : Node) (ss cs : List ℕ) (ed : Edition) (body : List ℕ) (i : ℕ) (word : Bool) (at : ℕ) (m id : List ℕ)
    (typed : Typed n) (plan : planned n ss cs ed body i word at ≡ taken m id) where
  pub admit-says : admit_answer n ss at (planned n ss cs ed body i word at) ≡ cond (is_new at m id (gateway_in n ss cs))
      (Ok novelty.New) (Ok novelty.Duplicate)
  admit-says =
      let t = (plan_takes n ss cs ed body i word at m id).0 plan in
      rw (plan, is_new_lem n ss cs t.fine at m id) (either (held_at n ss at (form_of (mode_of n.cache.flags) m id))
      (λ u. rw u) (λ u. rw u))

  pub admit-gateway : gateway_in (admit_node n ss at (planned n ss cs ed body i word at))
      (admit_seen n ss at (planned n ss cs ed body i word at))
      (admit_cache n ss cs at (planned n ss cs ed body i word at))
      ≡ after_admit at m id (gateway_in n ss cs)
  unfolding gateway_in after_admit later_node
  admit-gateway =
      let t = (plan_takes n ss cs ed body i word at m id).0 plan in
      let f = fine-tests n ss cs t.fine in
      let a = seen-inserted n ss cs t.fine at typed.ids (form_of (mode_of n.cache.flags) m id)
      (omega (arith, takes-id-small t)) in
      let b = store-inserted n ss cs t.fine at typed.ids (form_of (mode_of n.cache.flags) m id)
      (omega (arith, takes-id-small t)) in
      let e = entries-inserted n ss cs t.fine at typed.ids (form_of (mode_of n.cache.flags) m id)
      (omega (arith, takes-id-small t)) in
      let s = under-settings m id n.cache in
      let c = under-cached n.cache cs m id f.messages typed.messages.sized (takes-id-small t)
      (takes-small t) in
      rw (plan, is_new_lem n ss cs t.fine at m id, ← e, ← a, ← b)
      (either (held_at n ss at (form_of (mode_of n.cache.flags) m id)) (λ u. rw u) (λ u. rw (u, c, s.0, s.1, s.2)))

-- ---- heartbeat
beat-passes : (n : Node) (ss cs : List ℕ) (at : ℕ) (l : Result (Unit {0}) Fault) → lent_of n ss cs ≡ l → beat_answer n ss cs at ≡ Ok tt
    → lent_of n ss cs ≡ Ok tt
unfolding beat_answer
beat-passes n ss cs at (Err why) e h = clash (let q = rw e at h in cc)
beat-passes n ss cs at (Ok _) e h = e

-- a heartbeat that is done: the node passed, and the clock did not go back
pub beat-done : (n : Node) (ss cs : List ℕ) (at : ℕ) → beat_answer n ss cs at ≡ Ok tt → (lent_of n ss cs ≡ Ok tt)
    × (n.clock ≤ at)
unfolding beat_answer
beat-done n ss cs at h =
    let f = beat-passes n ss cs at (lent_of n ss cs) refl h in
    (f, either (ltb at n.clock) (λ t. clash (let q = rw (f, t) at h in cc)) (λ t. ltb-false at n.clock t))

-- and where it is done
pub beat-says : (n : Node) (ss cs : List ℕ) (at : ℕ) → lent_of n ss cs ≡ Ok tt → n.clock ≤ at
    → beat_answer n ss cs at ≡ Ok tt
unfolding beat_answer
beat-says n ss cs at f h = rw (f, le-ltb at n.clock h)

-- it sets the clock
pub beat-clock : (n : Node) (ss cs : List ℕ) (at : ℕ) → beat_answer n ss cs at ≡ Ok tt
    → (beat_node n ss cs at).clock ≡ at
unfolding beat_node later_node
beat-clock n ss cs at h = rw h

pub beat-gateway : (n : Node) (ss cs : List ℕ) (at : ℕ) → Typed n → beat_answer n ss cs at ≡ Ok tt
    → gateway_in (beat_node n ss cs at) ss cs ≡ after_beat at (gateway_in n ss cs)
unfolding beat_node gateway_in after_beat later_node
beat-gateway n ss cs at typed h =
    let d = beat-done n ss cs at h in
    let t = fine-tests n ss cs d.0 in
    let e = entries-swept n ss cs d.0 at in
    let c = cached-shifted n.cache cs (cacheTests n.cache cs t.messages) typed.messages.sized in
    let s = shifted-settings n.cache in
    rw (h, e, c, s.0, s.1, s.2)

-- ---- what the other calls speak of
-- the ids that are told of
pub told-gateway : (n : Node) (ss cs topic : List ℕ) (windows : ℕ) → lent_of n ss cs ≡ Ok tt
    → told_in n cs topic windows ≡ told_of topic windows (gateway_in n ss cs)
unfolding told_in gateway_in
told-gateway n ss cs topic windows f = gossip_ids_lem n.cache cs topic windows (fine-tests n ss cs f).messages

-- the ids that are asked for
known-knows : (g : Gateway) (l : List (List ℕ)) (i : List ℕ) → ids_of g.seen ≡ l → known_in g.flags l i ≡ knows g i
unfolding known_in knows holds
known-knows g l i e = rw e

unseen_lacking : (g : Gateway) (l is : List (List ℕ)) → ids_of g.seen ≡ l → unseen_from g.flags l is ≡ lacking g is
unfolding unseen_from lacking
unseen_lacking g l [] e = refl
unseen_lacking g l (i ∷ is) e = rw (known-knows g l i e, unseen_lacking g l is e)

pub unseen_gateway : (n : Node) (ss cs : List ℕ) (is : List (List ℕ))
    → unseen_of n ss is ≡ lacking (gateway_in n ss cs) is
unfolding unseen_of gateway_in
unseen_gateway n ss cs is = unseen_lacking (gateway_in n ss cs) _ is (ids-entries n.max_seen n.seen ss)

-- the messages that are served
found_here : (c : MessageCache) (cs i : List ℕ) → ltb (index_in c i) c.count ≡ true
    → message_in c.len cs (place_of (ring_of c) (index_in c i)) ≡ get i (cached_in c cs)
unfolding foundIn
found_here c cs i t = rw t at (found-cached c cs i)

cached-more : (c : MessageCache) (cs i : List ℕ) (is l : List (List ℕ)) → cached_of c cs is ≡ l
    → cached_of c cs (i ∷ is) ≡ cond (ltb (index_in c i) c.count) (get i (cached_in c cs) ∷ l) l
unfolding cached_of rows_for index_in ids_in
cached-more c cs i is l e =
    let n = length_ring (id_at message_id_size c.id_len c.ids) (ring_of c) in
    rw n
    (either (ltb (index_in c i) c.count)
    (λ t. rw (t, e, found_here c cs i t))
    (λ t. rw (t, e)))

cached-having : (g : Gateway) (c : MessageCache) (cs : List ℕ) (is : List (List ℕ)) → g.cache ≡ cached_in c cs
    → cached_of c cs is ≡ having g is
unfolding cached_of rows_for having
cached-having g c cs [] e = refl
cached-having g c cs (i ∷ is) e =
    let l = having g is in
    cached-more c cs i is l (cached-having g c cs is e)
    ∙ ap (λ (b : Bool). cond b (get i (cached_in c cs) ∷ l) l) (sym (held-index c cs i))
    ∙ ap (λ (ms : List Cached). cond (held i ms) (get i ms ∷ l) l) (sym e)

pub cached-gateway : (n : Node) (ss cs : List ℕ) (is : List (List ℕ))
    → cached_of n.cache cs is ≡ having (gateway_in n ss cs) is
unfolding gateway_in
cached-gateway n ss cs is = cached-having (gateway_in n ss cs) n.cache cs is refl

-- ---- what is written, where nothing is refused before
module _ (n : Node) (ss cs out : List ℕ) (fine : lent_of n ss cs ≡ Ok tt) where
  pub advertise-says : (topic : List ℕ) (windows : ℕ) → length topic ≤ 1024
      → (advertise_answer n ss cs topic windows out
      ≡ advertised (answer (rpc_bytes (advertise_of topic windows (gateway_in n ss cs))) out))
      × (advertise_left n ss cs topic windows out
      ≡ written (rpc_bytes (advertise_of topic windows (gateway_in n ss cs))) out)
  unfolding advertise_answer advertise_left advertise_bytes advertise_of
  advertise-says topic windows h =
      rw (fine, le-ltb 1024 (length topic) h, told-gateway n ss cs topic windows fine) (refl, refl)

  module _ (ed : Edition) (body : List ℕ) (ok : accept_of (spoken (mode_of n.cache.flags) ed) body
      ≡ Ok tt) where
    pub ask-says : (ask_answer n ss cs ed body out
        ≡ asked (answer (rpc_bytes (ask_of (at_path (mode_of n.cache.flags) (3 ∷ 1 ∷ 2 ∷ []) body)
        (gateway_in n ss cs))) out))
        × (ask_left n ss cs ed body out
        ≡ written (rpc_bytes (ask_of (at_path (mode_of n.cache.flags) (3 ∷ 1 ∷ 2 ∷ []) body) (gateway_in n ss cs))) out)
    unfolding ask_answer ask_left ask_bytes ask_of offered
    ask-says = rw (fine, ok, unseen_gateway n ss cs (offered (mode_of n.cache.flags) body)) (refl, refl)

    -- the second body too
    pub serve-says : (second : List ℕ) → accept_of (spoken (mode_of n.cache.flags) V12) second ≡ Ok tt
        → (serve_answer n ss cs ed body second out
        ≡ replied (serve_of (at_path (mode_of n.cache.flags) (3 ∷ 2 ∷ 1 ∷ []) body)
        (unwanted_in (mode_of n.cache.flags) second) (length out) (gateway_in n ss cs)))
        × (serve_left n ss cs ed body second out
        ≡ sets out 0
        (sent_bytes (serve_of (at_path (mode_of n.cache.flags) (3 ∷ 2 ∷ 1 ∷ []) body)
        (unwanted_in (mode_of n.cache.flags) second) (length out) (gateway_in n ss cs))))
    unfolding serve_answer serve_left serve_of remaining wanted room_of
    serve-says second too =
        let ms = having (gateway_in n ss cs) (remaining (mode_of n.cache.flags) body second) in
        rw (fine, ok, too, cached-gateway n ss cs (remaining (mode_of n.cache.flags) body second))
        (refl, ap (sets out 0) (sym (sent_bytes_lem ms out)))

-- ---- a refused call changes nothing
plan_refused : (n : Node) (ss cs : List ℕ) (at : ℕ) (r : Plan) → (admit_number (admit_answer n ss at r) ≡ 0 → ⊥)
    → (admit_node n ss at r ≡ n) × (admit_seen n ss at r ≡ ss) × (admit_cache n ss cs at r ≡ cs)
plan_refused n ss cs at (no r) h = (refl, refl, refl)
plan_refused n ss cs at (taken m id) h = absurd (h (either (held_at n ss at (form_of (mode_of n.cache.flags) m id))
    (λ t. rw t) (λ t. rw t)))

pub admit-refused : (n : Node) (ss cs : List ℕ) (ed : Edition) (body : List ℕ) (i : ℕ) (word : Bool) (at : ℕ)
    → (admit_number (admit_answer n ss at (planned n ss cs ed body i word at)) ≡ 0 → ⊥)
    → (admit_node n ss at (planned n ss cs ed body i word at) ≡ n)
    × (admit_seen n ss at (planned n ss cs ed body i word at) ≡ ss)
    × (admit_cache n ss cs at (planned n ss cs ed body i word at) ≡ cs)
admit-refused n ss cs ed body i word at h = plan_refused n ss cs at (planned n ss cs ed body i word at) h

-- a heartbeat is not given the stores to write
done-or-not : (n d : Node) (r : Result (Unit {0}) BeatError) → (beat_number r ≡ 0 → ⊥) → when_done r d n ≡ n
done-or-not n d (Ok _) h = absurd (h refl)
done-or-not n d (Err (beat.Faulty why)) h = refl
done-or-not n d (Err (beat.ClockBack clock)) h = refl

pub beat-refused : (n : Node) (ss cs : List ℕ) (at : ℕ) → (beat_number (beat_answer n ss cs at) ≡ 0 → ⊥)
    → beat_node n ss cs at ≡ n
unfolding beat_node
beat-refused n ss cs at h = done-or-not n (later_node at (swept n at) (shifted n.cache) n) (beat_answer n ss cs at) h

-- the writers are given no node and no store to write, and leave the buffer as it was
written-not : (xs out : List ℕ) → (leb (length xs) (length out) ≡ true → ⊥) → written xs out ≡ out
unfolding written
written-not xs out h = either (leb (length xs) (length out)) (λ t. absurd (h t)) (λ t. rw t)

module _ (n : Node) (ss cs out : List ℕ) where
  advertise-by : (topic : List ℕ) (windows : ℕ) (l : Result (Unit {0}) Fault) → lent_of n ss cs ≡ l
      → (advertise_number (advertise_answer n ss cs topic windows out) ≡ 0 → ⊥)
      → advertise_left n ss cs topic windows out ≡ out
  unfolding advertise_answer advertise_left answer
  advertise-by topic windows (Err why) e h = rw e
  advertise-by topic windows (Ok _) e h =
      either (ltb 1024 (length topic)) (λ t. rw (e, t))
      (λ t. rw (e, t) (written-not (advertise_bytes n cs topic windows) out (λ u. h (rw (e, t, u)))))

  pub advertise-refused : (topic : List ℕ) (windows : ℕ)
      → (advertise_number (advertise_answer n ss cs topic windows out) ≡ 0 → ⊥)
      → advertise_left n ss cs topic windows out ≡ out
  advertise-refused topic windows h = advertise-by topic windows (lent_of n ss cs) refl h

  ask-by : (ed : Edition) (body : List ℕ) (l : Result (Unit {0}) Fault) (r : Result (Unit {0}) Refusal) → lent_of n ss cs ≡ l
      → accept_of (spoken (mode_of n.cache.flags) ed) body ≡ r
      → (ask_number (ask_answer n ss cs ed body out) ≡ 0 → ⊥) → ask_left n ss cs ed body out ≡ out
  unfolding ask_answer ask_left answer
  ask-by ed body (Err why) r e a h = rw e
  ask-by ed body (Ok _) (Err why) e a h = rw (e, a)
  ask-by ed body (Ok _) (Ok _) e a h = rw (e, a) (written-not (ask_bytes n ss body) out (λ u. h (rw (e, a, u))))

  pub ask-refused : (ed : Edition) (body : List ℕ) → (ask_number (ask_answer n ss cs ed body out) ≡ 0 → ⊥)
      → ask_left n ss cs ed body out ≡ out
  ask-refused ed body h = ask-by ed body (lent_of n ss cs)
      (accept_of (spoken (mode_of n.cache.flags) ed) body) refl refl h

  -- where the first message does not fit, none is written
  reply-refused : (ms : List (List ℕ)) → (serve_number (reply_to ms out) ≡ 0 → ⊥) → sets out 0 (reply_bytes ms out) ≡ out
  reply-refused [] h = absurd (h refl)
  reply-refused (m ∷ ms) h =
      either (eqb (served_of (m ∷ ms) out) 0)
      (λ t. rw (reply_bytes_lem (m ∷ ms) out, eqb-true (served_of (m ∷ ms) out) 0 t))
      (λ t. absurd (h (rw (reply-some m ms out (eqb-false (served_of (m ∷ ms) out) 0 t)))))

  serve-by : (ed : Edition) (body second : List ℕ) (l : Result (Unit {0}) Fault) (r q : Result (Unit {0}) Refusal) → lent_of n ss cs ≡ l
      → accept_of (spoken (mode_of n.cache.flags) ed) body ≡ r
      → accept_of (spoken (mode_of n.cache.flags) V12) second ≡ q
      → (serve_number (serve_answer n ss cs ed body second out) ≡ 0 → ⊥) → serve_left n ss cs ed body second out ≡ out
  unfolding serve_answer serve_left
  serve-by ed body second (Err why) r q e a b h = rw e
  serve-by ed body second (Ok _) (Err why) q e a b h = rw (e, a)
  serve-by ed body second (Ok _) (Ok _) (Err why) e a b h = rw (e, a, b)
  serve-by ed body second (Ok _) (Ok _) (Ok _) e a b h =
      rw (e, a, b) (reply-refused (cached_of n.cache cs (remaining (mode_of n.cache.flags) body second))
      (λ u. h (rw (e, a, b) u)))

  pub serve-refused : (ed : Edition) (body second : List ℕ)
      → (serve_number (serve_answer n ss cs ed body second out) ≡ 0 → ⊥) → serve_left n ss cs ed body second out ≡ out
  serve-refused ed body second h =
      serve-by ed body second (lent_of n ss cs) (accept_of (spoken (mode_of n.cache.flags) ed) body)
      (accept_of (spoken (mode_of n.cache.flags) V12) second) refl refl refl
      h
