-- Short theorems on the node, for readers: what is ruled out, and what the easy errors would get wrong.
use Rattle.std.specs.Prelude.{Result, Ok, Err, ℕ, ◌+◌, ◌-◌, ◌^◌, ◌<◌, ◌≡◌, refl, List, [], ◌∷◌, ◌++◌, Bool, true, false, ◌&&◌, length, drop, leb}
use Rattle.std.proofs.Math.Path.{sym, ap}
use Rattle.std.proofs.Common.{◌∙◌, arith, drop_of_length-le}
use Rattle.std.proofs.lemmas.List.{map-append}
use Rattle.std.proofs.Math.Bool.{not, or-true, and-false, not-not}
use Rattle.std.proofs.lemmas.List.Edits.{sets}
use Rattle.basis.specs.declared.Edition.{Edition}
use Rattle.basis.specs.declared.Edition.TheVariants.{V12}
use Rattle.basis.specs.Dialect.{mode_of, spoken}
use Rattle.basis.specs.Cases.{either, clash, both}
use Rattle.rows.specs.Rows.{newest}
use Rattle.rows.specs.Ids.{same_bytes, among}
use Rattle.rows.specs.IdsLaws.{same_self, same_equal, among-append, among-drop}
use Rattle.rows.specs.ListLaws.{map-drop}
use Rattle.rows.specs.Store.{all_up_to}
use Rattle.seen.specs.Entries.{Entry, holds, until, inserted, live}
use Rattle.seen.specs.Entries as entries
use Rattle.mcache.specs.Messages.{Cached, held, put, shift, get}
use Rattle.mcache.specs.Messages as messages
use Rattle.rows.specs.RowsLaws.{newest-more}
use Rattle.mcache.specs.CachedLaws.{new}
use Rattle.protobuf.specs.Walk.{between}
use Rattle.rpc.specs.Rpc.{Rpc}
use Rattle.rpc.specs.Encode.{encode_rpc}
use Rattle.schema.specs.Accept.{accept_of}
use Rattle.ids.specs.Ids.{message_at, id_bytes}
use Rattle.admission.specs.Flags.{allows_unsigned}
use Rattle.admission.specs.Admission.{admission_of, is_signed}
use Rattle.admission.specs.AdmissionLaws.{fit-signed}
use Rattle.seen.specs.State.{entries_in}
use Rattle.seen.specs.EntriesLaws.{length-entries}
use Rattle.seen.specs.Laws.{well_formed-exactly as seen-exactly}
use Rattle.mcache.specs.State.{cached_in}
use Rattle.node.specs.declared.Node.{Node}
use Rattle.node.specs.declared.Advertised.{Advertised}
use Rattle.node.specs.declared.Asked.{Asked}
use Rattle.node.specs.declared.Served.{Served}
use Rattle.protobuf.specs.declared.Refusal.{Refusal}
use Rattle.basis.specs.declared.Fault.{Fault}
use Rattle.node.specs.declared.Novelty.TheVariants as novelty
use Rattle.node.specs.State.{gateway_in}
use Rattle.node.specs.Calls.{lent_of, when_fine, taken, planned, admit_answer, admit_node, admit_seen, admit_cache}
use Rattle.node.specs.Calls.{beat_answer, beat_node, bytes_for, advertise_answer, offered, unseen_of, ask_bytes}
use Rattle.node.specs.Calls.{ask_answer, when_taken, remaining, cached_of, room_of, served_of, reply_bytes, reply_to}
use Rattle.node.specs.Calls.{serve_answer, serve_left}
use Rattle.node.specs.WellFormed.{Typed}
use Rattle.node.specs.StateLaws.{fine-tests, room_cap}
use Rattle.node.specs.Laws.{plan_takes, plan_taken, admit-says, admit-gateway, beat-says, beat-clock}
use Rattle.node.specs.Laws.{unseen_gateway, cached-gateway}
use Rattle.node.specs.Gateway.{Gateway, started, marked, form_of, is_new, after_admit, after_beat, knows, lacking}
use Rattle.node.specs.Gateway.{having, request}
use Rattle.node.specs.WellFormedLaws.{expiries_of, beat-fine}

-- ---- a node that stores nothing
holds-last : (i : List ℕ) (es : List Entry) (e : ℕ) → holds i (es ++ (record { id = i; expiry = e } ∷ [])) ≡ true
unfolding holds among
holds-last i es e =
    rw (
      map-append (λ (x : Entry). x.id) es (record { id = i; expiry = e } ∷ []),
      among-append i (entries.ids_of es) (i ∷ []),
      same_self i,
    ) (or-true (among i (entries.ids_of es)))

held-last : (i m : List ℕ) (ms : List Cached) → held i (ms ++ (new i m ∷ [])) ≡ true
unfolding held among
held-last i m ms =
    rw (map-append (λ (x : Cached). x.id) ms (new i m ∷ []), among-append i (messages.ids_of ms) (i ∷ []), same_self i)
    (or-true (among i (messages.ids_of ms)))

get-last : (i m : List ℕ) (ms : List Cached) → held i ms ≡ false → get i (ms ++ (new i m ∷ [])) ≡ m
unfolding held among get
get-last i m [] h = rw (same_self i)
get-last i m (x ∷ ms) h =
    either (same_bytes x.id i) (λ t. clash (let z = simp t at h in cc))
    (λ t. rw t (get-last i m ms (simp t at h)))

held-drop : (i : List ℕ) (k : ℕ) (ms : List Cached) → held i ms ≡ false → held i (drop k ms) ≡ false
unfolding held
held-drop i k ms h = rw (map-drop (λ (x : Cached). x.id) k ms) (among-drop i k (messages.ids_of ms) h)

module _ (at : ℕ) (m id : List ℕ) (g : Gateway) (fresh : is_new at m id g ≡ true) where
  -- an id that was new is seen afterwards
  pub new-is-seen : (g.max_seen ≡ 0 → ⊥) → holds (form_of (mode_of g.flags) m id) (after_admit at m id g).seen ≡ true
  unfolding after_admit is_new inserted
  new-is-seen some =
      let es = live at g.seen in
      rw (
        sym (not-not (holds (form_of (mode_of g.flags) m id) es)) ∙ ap not fresh,
        newest-more g.max_seen es (record { id = form_of (mode_of g.flags) m id; expiry = until at g.ttl }) some,
      )
      (holds-last (form_of (mode_of g.flags) m id) (drop ((length es + 1) - g.max_seen) es) (until at g.ttl))

  -- and its message is served
  pub new-is-served : (g.max_messages ≡ 0 → ⊥) → held id g.cache ≡ false
      → having (after_admit at m id g) (id ∷ []) ≡ m ∷ []
  unfolding having after_admit put
  new-is-served some h =
      let k = (length g.cache + 1) - g.max_messages in
      rw (
        fresh,
        h,
        newest-more g.max_messages g.cache (new id m) some,
        held-last id m (drop k g.cache),
        get-last id m (drop k g.cache) (held-drop id k g.cache h),
      )

-- an id that is held is not asked for
seen-not-asked : (g : Gateway) (id : List ℕ) → knows g id ≡ true → lacking g (id ∷ []) ≡ []
unfolding lacking
seen-not-asked g id h = rw h

-- an id counts as held in the form of a message with a signature; in that of one without, where these are allowed
form-known : (g : Gateway) (id : List ℕ) (signed : Bool) → (signed ≡ false → allows_unsigned g.flags ≡ true)
    → holds (marked signed id) g.seen ≡ true → knows g id ≡ true
unfolding knows
form-known g id true on h = rw h
form-known g id false on h = rw (on refl, h) (or-true (holds (marked true id) g.seen))

-- the same of the calls: after an admit that answers new, the id is not asked for, and its message is served
module _ (n : Node) (ss cs : List ℕ) (ed : Edition) (body : List ℕ) (i : ℕ) (word : Bool) (at : ℕ) (m id : List ℕ)
    (typed : Typed n) (plan : planned n ss cs ed body i word at ≡ taken m id)
    (says : admit_answer n ss at (planned n ss cs ed body i word at) ≡ Ok novelty.New)
  where
    was_new : is_new at m id (gateway_in n ss cs) ≡ true
    was_new =
        let s = admit-says n ss cs ed body i word at m id typed plan in
        either (is_new at m id (gateway_in n ss cs)) (λ t. t) (λ t. clash (let z = rw (t, says) at s in cc))

    -- what was taken without a signature was allowed
    allowed : is_signed (mode_of n.cache.flags) m ≡ false → allows_unsigned n.cache.flags ≡ true
    allowed u =
        let t = (plan_takes n ss cs ed body i word at m id).0 plan in
        either (allows_unsigned n.cache.flags) (λ on. on)
        (λ off. clash (let z = fit-signed n.cache.flags m word t.from_start t.from_end t.seqno-start
        t.seqno-end
        t.fit off in cc))

    pub admitted-not-asked : (n.max_seen ≡ 0 → ⊥)
        → unseen_of (admit_node n ss at (planned n ss cs ed body i word at))
        (admit_seen n ss at (planned n ss cs ed body i word at)) (id ∷ []) ≡ []
    unfolding gateway_in after_admit
    admitted-not-asked some =
        unseen_gateway (admit_node n ss at (planned n ss cs ed body i word at))
        (admit_seen n ss at (planned n ss cs ed body i word at))
        (admit_cache n ss cs at (planned n ss cs ed body i word at)) (id ∷ [])
        ∙ ap (λ (g : Gateway). lacking g (id ∷ [])) (admit-gateway n ss cs ed body i word at m id typed plan)
        ∙ seen-not-asked (after_admit at m id (gateway_in n ss cs)) id
        (form-known (after_admit at m id (gateway_in n ss cs)) id (is_signed (mode_of n.cache.flags) m) allowed
        (new-is-seen at m id (gateway_in n ss cs) was_new some))

    pub admitted-served : (n.cache.max_messages ≡ 0 → ⊥) → held id (cached_in n.cache cs) ≡ false
        → cached_of (admit_node n ss at (planned n ss cs ed body i word at)).cache
        (admit_cache n ss cs at (planned n ss cs ed body i word at)) (id ∷ []) ≡ m ∷ []
    unfolding gateway_in
    admitted-served some h =
        cached-gateway (admit_node n ss at (planned n ss cs ed body i word at))
        (admit_seen n ss at (planned n ss cs ed body i word at))
        (admit_cache n ss cs at (planned n ss cs ed body i word at)) (id ∷ [])
        ∙ ap (λ (g : Gateway). having g (id ∷ [])) (admit-gateway n ss cs ed body i word at m id typed plan)
        ∙ new-is-served at m id (gateway_in n ss cs) was_new some h

-- ---- an ask that never asks
-- an id that is not held is asked for
pub unseen_asked : (g : Gateway) (id : List ℕ) → knows g id ≡ false → lacking g (id ∷ []) ≡ id ∷ []
unfolding lacking
unseen_asked g id h = rw h

-- of the ids named, those and no others
pub asked-exactly : (g : Gateway) (i : List ℕ) (is : List (List ℕ))
    → among i (lacking g is) ≡ (among i is && not (knows g i))
unfolding lacking among
asked-exactly g i [] = refl
asked-exactly g i (j ∷ is) =
    let r = asked-exactly g i is in
    either (same_bytes j i)
    (λ t.
    let e : j ≡ i = same_equal j i t in
    either (knows g i) (λ u. rw (e, u, same_self i) (rw u at r ∙ and-false (among i is)))
    (λ u. rw (e, u, same_self i)))
    (λ t. either (knows g j) (λ u. rw (u, t) r) (λ u. rw (u, t) r))

-- where such an id is named, an RPC is written that asks for it
written_for : (i : List ℕ) (is : List (List ℕ)) (x : Rpc) → among i is ≡ true → bytes_for is x ≡ encode_rpc x
unfolding among
written_for i [] x h = clash (cc)
written_for i (j ∷ is) x h = refl

pub ask-asks : (n : Node) (ss cs body i : List ℕ) → among i (offered (mode_of n.cache.flags) body) ≡ true
    → knows (gateway_in n ss cs) i ≡ false
    → (among i (unseen_of n ss (offered (mode_of n.cache.flags) body)) ≡ true)
    × (ask_bytes n ss body ≡ encode_rpc (request (unseen_of n ss (offered (mode_of n.cache.flags) body))))
unfolding ask_bytes
ask-asks n ss cs body i h k =
    let is = offered (mode_of n.cache.flags) body in
    let e : among i (unseen_of n ss is) ≡ true = ap (among i) (unseen_gateway n ss cs is)
    ∙ asked-exactly (gateway_in n ss cs) i is ∙ rw (h, k) in
    (e, written_for i (unseen_of n ss is) (request (unseen_of n ss is)) e)

-- ---- serve sends again in every round
-- node k comes after any number of advertises, asks and serves from node n on, as their contracts have them; the stores
-- are lent to be read
pub data Quiet (n : Node) (ss cs : List ℕ) : Node → Type 0 where
  first : Quiet n ss cs n
  advertises : {k : Node} → Quiet n ss cs k → (topic : List ℕ) (windows : ℕ) (out : List ℕ) (r : Advertised)
      → r.answer ≡ advertise_answer k ss cs topic windows out → r.node ≡ k → Quiet n ss cs r.node
  asks : {k : Node} → Quiet n ss cs k → (ed : Edition) (body out : List ℕ) (r : Asked)
      → r.answer ≡ ask_answer k ss cs ed body out → r.node ≡ k → Quiet n ss cs r.node
  serves : {k : Node} → Quiet n ss cs k → (ed : Edition) (body second out : List ℕ) (r : Served)
      → r.answer ≡ serve_answer k ss cs ed body second out → r.node ≡ k → Quiet n ss cs r.node

quiet_same : {n : Node} {ss cs : List ℕ} {k : Node} → Quiet n ss cs k → k ≡ n
quiet_same first = refl
quiet_same (advertises q topic windows out r a e) = e ∙ quiet_same q
quiet_same (asks q ed body out r a e) = e ∙ quiet_same q
quiet_same (serves q ed body second out r a e) = e ∙ quiet_same q

-- a buffer's length is all that a reply takes from it
reply-same : (ms : List (List ℕ)) (out out2 : List ℕ) → length out2 ≡ length out → (reply_to ms out2 ≡ reply_to ms out)
    × (reply_bytes ms out2 ≡ reply_bytes ms out)
unfolding reply_bytes served_of room_of
reply-same [] out out2 e = (refl, rw e)
reply-same (m ∷ ms) out out2 e = (rw e, rw e)

-- the bytes that a serve writes at the front of the buffer; none where it is refused
unfoldable pub served_bytes : Node → List ℕ → List ℕ → Edition → List ℕ → List ℕ → List ℕ → List ℕ
served_bytes n ss cs ed body second out =
    when_fine (lent_of n ss cs)
    (when_taken (accept_of (spoken (mode_of n.cache.flags) ed) body)
    (when_taken (accept_of (spoken (mode_of n.cache.flags) V12) second)
    (reply_bytes (cached_of n.cache cs (remaining (mode_of n.cache.flags) body second)) out) []) [])
    []

module _ (n : Node) (ss cs : List ℕ) (ed : Edition) (body second : List ℕ) where
  writes-by : (out : List ℕ) (l : Result (Unit {0}) Fault) (r q : Result (Unit {0}) Refusal) → lent_of n ss cs ≡ l
      → accept_of (spoken (mode_of n.cache.flags) ed) body ≡ r
      → accept_of (spoken (mode_of n.cache.flags) V12) second ≡ q
      → serve_left n ss cs ed body second out ≡ sets out 0 (served_bytes n ss cs ed body second out)
  unfolding serve_left served_bytes
  writes-by out (Err why) r q e a b = rw e
  writes-by out (Ok _) (Err why) q e a b = rw (e, a)
  writes-by out (Ok _) (Ok _) (Err why) e a b = rw (e, a, b)
  writes-by out (Ok _) (Ok _) (Ok _) e a b = rw (e, a, b)

  pub serve-writes : (out : List ℕ)
      → serve_left n ss cs ed body second out ≡ sets out 0 (served_bytes n ss cs ed body second out)
  serve-writes out =
      writes-by out (lent_of n ss cs) (accept_of (spoken (mode_of n.cache.flags) ed) body)
      (accept_of (spoken (mode_of n.cache.flags) V12) second) refl refl refl

  same_length : (out out2 : List ℕ) → length out2 ≡ length out
      → (serve_answer n ss cs ed body second out2 ≡ serve_answer n ss cs ed body second out)
      × (served_bytes n ss cs ed body second out2 ≡ served_bytes n ss cs ed body second out)
  unfolding serve_answer served_bytes
  same_length out out2 e =
      let r = reply-same (cached_of n.cache cs (remaining (mode_of n.cache.flags) body second)) out out2 e in
      rw (r.0, r.1) (refl, refl)

-- the same request later, with the same second body and a buffer as long, gets the same answer and the same bytes
pub serve-again : {n k : Node} {ss cs : List ℕ} → Quiet n ss cs k → (ed : Edition) (body second out out2 : List ℕ)
    → length out2 ≡ length out
    → (serve_answer k ss cs ed body second out2 ≡ serve_answer n ss cs ed body second out)
    × (served_bytes k ss cs ed body second out2 ≡ served_bytes n ss cs ed body second out)
serve-again {n} {k} {ss} {cs} q ed body second out out2 e =
    rw (quiet_same q) (same_length n ss cs ed body second out out2 e)

-- ---- line 8: an id whose entry has expired is new, whatever the cache holds
live-none : (at : ℕ) (es : List Entry) → all_up_to at (expiries_of es) ≡ true → live at es ≡ []
unfolding live all_up_to
live-none at [] h = refl
live-none at (e ∷ es) h = let b = both (leb e.expiry at) (all_up_to at (expiries_of es)) h in
    rw b.0 (live-none at es b.1)

pub expired-new : (at : ℕ) (m id : List ℕ) (g : Gateway) → all_up_to at (expiries_of g.seen) ≡ true
    → is_new at m id g ≡ true
unfolding is_new holds among
expired-new at m id g h = rw (live-none at g.seen h)

-- the sample: after the heartbeat at 1100 the message is still cached, and an admit at 1100 is new
unfoldable pub sample : List ℕ → List ℕ → Gateway
sample m id = after_beat 1100 (after_admit 100 m id (started 1000 4 2 4 0))

pub line_8_cached : (m id : List ℕ) → having (sample m id) (id ∷ []) ≡ m ∷ []
unfolding sample having after_beat after_admit started is_new inserted live holds among held put shift get newest until
line_8_cached m id = rw (same_self id)

pub line_8_new : (m id : List ℕ) → is_new 1100 m id (sample m id) ≡ true
unfolding sample after_beat after_admit started is_new inserted live holds among newest until
line_8_new m id = refl

-- ---- readings at the edge
-- a second heartbeat at the same reading is taken
pub beat-twice-done : (n : Node) (ss cs : List ℕ) (at : ℕ) → Typed n → beat_answer n ss cs at ≡ Ok tt
    → beat_answer (beat_node n ss cs at) ss cs at ≡ Ok tt
beat-twice-done n ss cs at typed h = beat-says (beat_node n ss cs at) ss cs at (beat-fine n ss cs at typed h)
    (omega (arith, beat-clock n ss cs at h))

-- the last reading, 2^64 - 1, is taken: by a heartbeat, and by an admit
pub last-beat : (n : Node) (ss cs : List ℕ) → lent_of n ss cs ≡ Ok tt → n.clock < 2 ^ 64
    → beat_answer n ss cs (2 ^ 64 - 1) ≡ Ok tt
last-beat n ss cs fine h = beat-says n ss cs (2 ^ 64 - 1) fine (omega arith)

pub last-admit : (n : Node) (ss cs : List ℕ) (ed : Edition) (body : List ℕ) (i a e x y z w : ℕ)
    → lent_of n ss cs ≡ Ok tt → accept_of (spoken (mode_of n.cache.flags) ed) body ≡ Ok tt
    → message_at (mode_of n.cache.flags) body i ≡ Ok (a, e)
    → admission_of n.cache.flags (between body a e) true ≡ Ok ((x, y), (z, w)) → n.clock < 2 ^ 64
    → planned n ss cs ed body i true (2 ^ 64 - 1) ≡ taken (between body a e) (id_bytes (between body a e) x y z w)
last-admit n ss cs ed body i a e x y z w fine ok there fit h =
    plan_taken n ss cs ed body i (2 ^ 64 - 1) a e x y z w fine ok there fit (omega arith)

-- with max_seen 0 every admit is new, and nothing is kept as seen
pub none_seen : (at : ℕ) (m id : List ℕ) (g : Gateway) → g.max_seen ≡ 0 → g.seen ≡ [] → (is_new at m id g ≡ true)
    × ((after_admit at m id g).seen ≡ [])
unfolding is_new after_admit inserted live holds among newest
none_seen at m id g z e = rw (e, z) (refl, refl)

-- of a node that passes, with max_seen 0
pub no_room-none_seen : (n : Node) (ss cs : List ℕ) → lent_of n ss cs ≡ Ok tt → n.max_seen ≡ 0
    → (gateway_in n ss cs).seen ≡ []
unfolding gateway_in
no_room-none_seen n ss cs fine z =
    let t = fine-tests n ss cs fine in
    let w = (seen-exactly n.seen ss).0 t.ids in
    let c = room_cap n ss t.room in
    drop_of_length-le (entries_in n.max_seen n.seen ss) {i = 0}
    (omega (arith, length-entries n.max_seen n.seen ss, w.within))

pub no_room-admit : (n : Node) (ss cs : List ℕ) (ed : Edition) (body : List ℕ) (i : ℕ) (word : Bool) (at : ℕ)
    (m id : List ℕ) → Typed n → planned n ss cs ed body i word at ≡ taken m id → n.max_seen ≡ 0
    → (admit_answer n ss at (planned n ss cs ed body i word at) ≡ Ok novelty.New)
    × ((gateway_in (admit_node n ss at (planned n ss cs ed body i word at))
    (admit_seen n ss at (planned n ss cs ed body i word at))
    (admit_cache n ss cs at (planned n ss cs ed body i word at))).seen ≡ [])
unfolding gateway_in
no_room-admit n ss cs ed body i word at m id typed plan z =
    let t = (plan_takes n ss cs ed body i word at m id).0 plan in
    let e = no_room-none_seen n ss cs t.fine z in
    let b = none_seen at m id (gateway_in n ss cs) z e in (
      admit-says n ss cs ed body i word at m id typed plan ∙ rw b.0,
      ap (λ (g : Gateway). g.seen) (admit-gateway n ss cs ed body i word at m id typed plan) ∙ b.1,
    )
