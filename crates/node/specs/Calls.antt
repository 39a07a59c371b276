-- What each call on a node answers and leaves. Refusals come in the order of the scope's table: 40, 41, 42 for the lent
-- node and stores; then what concerns the call. A refused call leaves the node and every lent byte as they were.
use Rattle.std.specs.Prelude.{Result, Ok, Err, ℕ, ◌*◌, List, [], ◌∷◌, map, Bool, true, false, cond, ◌&&◌, ◌||◌, length, ltb, eqb}
use Rattle.std.proofs.lemmas.List.Edits.{sets}
use Rattle.basis.specs.declared.Mode.{Mode}
use Rattle.basis.specs.declared.Edition.{Edition}
use Rattle.basis.specs.declared.Edition.TheVariants.{V12}
use Rattle.basis.specs.Dialect.{mode_of, spoken}
use Rattle.basis.specs.Writing.{answer, written}
use Rattle.rows.specs.declared.Ring.{Ring}
use Rattle.rows.specs.Rows.{place_of}
use Rattle.rows.specs.Ids.{among, index_of}
use Rattle.rows.specs.Store.{id_at, ids_in}
use Rattle.protobuf.specs.Walk.{between}
use Rattle.protobuf.specs.Encode.{bytes_field}
use Rattle.rpc.specs.Rpc.{Rpc}
use Rattle.rpc.specs.Encode.{repeated}
use Rattle.schema.specs.Accept.{accept_of}
use Rattle.ids.specs.Ids.{message_at, id_bytes}
use Rattle.admission.specs.Flags.{allows_unsigned}
use Rattle.admission.specs.Admission.{admission_of}
use Rattle.node.specs.Parts.{at_path, once, without}
use Rattle.seen.specs.State.{id_size}
use Rattle.seen.specs.declared.SeenCache.{SeenCache}
use Rattle.seen.specs.Entries.{until}
use Rattle.seen.specs.Calls.{cap_of, held_in, cleaned, entered, entered_store}
use Rattle.mcache.specs.declared.MessageCache.{MessageCache}
use Rattle.mcache.specs.State.{message_in, message_size, message_id_size, ring_of}
use Rattle.mcache.specs.Calls.{kept_under, stored_under, shifted, gossip_list, offer_in}
use Rattle.node.specs.declared.Node.{Node}
use Rattle.basis.specs.declared.ShortRoom.{ShortRoom}
use Rattle.protobuf.specs.declared.Refusal.{Refusal}
use Rattle.admission.specs.declared.Unfit.{Unfit}
use Rattle.basis.specs.declared.Fault.TheVariants as fault
use Rattle.basis.specs.declared.Fault.{Fault}
use Rattle.mcache.specs.declared.Offer.{Offer}
use Rattle.node.specs.declared.AdmitError.TheVariants as admit
use Rattle.node.specs.declared.AdmitError.{AdmitError}
use Rattle.node.specs.declared.AdvertiseError.TheVariants as advertise
use Rattle.node.specs.declared.AdvertiseError.{AdvertiseError}
use Rattle.node.specs.declared.AskError.TheVariants as ask
use Rattle.node.specs.declared.AskError.{AskError}
use Rattle.node.specs.declared.BeatError.TheVariants as beat
use Rattle.node.specs.declared.BeatError.{BeatError}
use Rattle.node.specs.declared.ExplainError.TheVariants as explain
use Rattle.node.specs.declared.ExplainError.{ExplainError}
use Rattle.node.specs.declared.Novelty.TheVariants as novelty
use Rattle.node.specs.declared.Novelty.{Novelty}
use Rattle.node.specs.declared.Reply.{Reply as Counts}
use Rattle.node.specs.declared.ServeError.TheVariants as serve
use Rattle.node.specs.declared.ServeError.{ServeError}
use Rattle.node.specs.Told.{admit_told, beat_told, advertise_told, explain_told, ask_told, serve_told}
use Rattle.node.specs.Gateway.{marked, form_of, if_any, rpc_bytes, advertisement_for, request_for, reply_room, written_in, sent_in}
use Rattle.node.specs.Gateway.{Reply, sent, short, reply_for}
unfoldable pub use Rattle.node.specs.Gateway.{max_rpc_size}
use Rattle.node.specs.State.{legal_settings, fresh_node, well_formed, seen_ring}

-- ---- the scope's numbers
abbrev pub admit_number : Result Novelty AdmitError → ℕ
admit_number r = (admit_told r).number

abbrev pub beat_number : Result (Unit {0}) BeatError → ℕ
beat_number r = (beat_told r).number

abbrev pub advertise_number : Result ℕ AdvertiseError → ℕ
advertise_number r = (advertise_told r).number

abbrev pub explain_number : Result Offer ExplainError → ℕ
explain_number r = (explain_told r).number

abbrev pub ask_number : Result ℕ AskError → ℕ
ask_number r = (ask_told r).number

abbrev pub serve_number : Result Counts ServeError → ℕ
serve_number r = (serve_told r).number

-- ---- start: 40
unfoldable pub start_answer : ℕ → ℕ → ℕ → ℕ → Result (Unit {0}) Fault
start_answer max_seen history max flags = cond (legal_settings max_seen history max flags) (Ok tt) (Err fault.BadSetting)

-- where the settings are refused, a node that keeps nothing
unfoldable pub start_node : ℕ → ℕ → ℕ → ℕ → ℕ → Node
start_node ttl max_seen history max flags =
    cond (legal_settings max_seen history max flags) (fresh_node ttl max_seen history max flags) (fresh_node 0 0 1 0 0)

-- ---- the lent node and its stores: 40, 41, 42
unfoldable pub right_sizes : Node → List ℕ → List ℕ → Bool
right_sizes n ss cs = eqb (length ss) (n.max_seen * id_size)
    && eqb (length cs) (n.cache.max_messages * message_size)

unfoldable pub lent_of : Node → List ℕ → List ℕ → Result (Unit {0}) Fault
lent_of n ss cs =
    cond (ltb (cap_of ss) n.max_seen) (Err fault.BadSetting)
    (cond (right_sizes n ss cs) (cond (well_formed n ss cs) (Ok tt) (Err fault.Malformed))
    (Err fault.BadStore))

abbrev pub on_lent : {A : Type 0} → (Fault → A) → Result (Unit {0}) Fault → A → A
on_lent bad (Ok _) r = r
on_lent bad (Err why) r = bad why

abbrev pub when_fine : {A : Type 0} → Result (Unit {0}) Fault → A → A → A
when_fine (Ok _) new old = new
when_fine (Err _) new old = old

-- ---- the node with another clock, seen cache and message cache
unfoldable pub later_node : ℕ → SeenCache → MessageCache → Node → Node
later_node at seen cache n = record { ttl = n.ttl; max_seen = n.max_seen; clock = at; seen = seen; cache = cache }

-- ---- admit
-- what an admit is to do: take a message under an id; or nothing, and answer so
pub data Plan : Type 0 where
  no : Result Novelty AdmitError → Plan
  taken : List ℕ → List ℕ → Plan

-- 21 to 30 and 34 to 36, and then 31
abbrev pub plan_fit : Node → ℕ → List ℕ → Result ((ℕ × ℕ) × (ℕ × ℕ)) Unfit → Plan
plan_fit n at p (Err why) = no (Err (admit.Unfit why))
plan_fit n at p (Ok ((a, e), (b, f))) =
    cond (ltb at n.clock) (no (Err (admit.ClockBack n.clock))) (taken p (id_bytes p a e b f))

-- 20
abbrev pub plan_at : Node → ℕ → Bool → List ℕ → Result (ℕ × ℕ) ℕ → Plan
plan_at n at word body (Err k) = no (Err (admit.NoMessage k))
plan_at n at word body (Ok (a, e)) =
    plan_fit n at (between body a e) (admission_of n.cache.flags (between body a e) word)

-- 10, 1 to 7 and 14 to 16, 11
abbrev pub plan_body : Node → ℕ → Bool → List ℕ → ℕ → Result (Unit {0}) Refusal → Plan
plan_body n at word body i (Err why) = no (Err (admit.Refused why))
plan_body n at word body i (Ok _) = plan_at n at word body (message_at (mode_of n.cache.flags) body i)

-- 40, 41, 42
unfoldable pub planned : Node → List ℕ → List ℕ → Edition → List ℕ → ℕ → Bool → ℕ → Plan
planned n ss cs e body i word at =
    on_lent (λ (why : Fault). no (Err (admit.Faulty why))) (lent_of n ss cs)
    (plan_body n at word body i (accept_of (spoken (mode_of n.cache.flags) e) body))

-- the ids that are seen after the clean-up
unfoldable pub swept : Node → ℕ → SeenCache
swept n at = cleaned n.max_seen at n.seen

-- an id is seen then, in this form
unfoldable pub held_at : Node → List ℕ → ℕ → List ℕ → Bool
held_at n ss at form = held_in n.max_seen (swept n at) ss form

abbrev pub admit_answer : Node → List ℕ → ℕ → Plan → Result Novelty AdmitError
admit_answer n ss at (no r) = r
admit_answer n ss at (taken m id) =
    cond (held_at n ss at (form_of (mode_of n.cache.flags) m id)) (Ok novelty.Duplicate) (Ok novelty.New)

abbrev pub admit_node : Node → List ℕ → ℕ → Plan → Node
admit_node n ss at (no r) = n
admit_node n ss at (taken m id) =
    cond (held_at n ss at (form_of (mode_of n.cache.flags) m id)) (later_node at (swept n at) n.cache n)
    (later_node at (entered n.max_seen n.max_seen (length (form_of (mode_of n.cache.flags) m id))
    (until at n.ttl) (swept n at))
    (kept_under m id n.cache) n)

abbrev pub admit_seen : Node → List ℕ → ℕ → Plan → List ℕ
admit_seen n ss at (no r) = ss
admit_seen n ss at (taken m id) =
    cond (held_at n ss at (form_of (mode_of n.cache.flags) m id)) ss
    (entered_store n.max_seen n.max_seen (swept n at) ss (form_of (mode_of n.cache.flags) m id))

abbrev pub admit_cache : Node → List ℕ → List ℕ → ℕ → Plan → List ℕ
admit_cache n ss cs at (no r) = cs
admit_cache n ss cs at (taken m id) =
    cond (held_at n ss at (form_of (mode_of n.cache.flags) m id)) cs (stored_under n.cache cs m id)

-- ---- heartbeat: 40, 41, 42, 31
unfoldable pub beat_answer : Node → List ℕ → List ℕ → ℕ → Result (Unit {0}) BeatError
beat_answer n ss cs at =
    on_lent (λ (why : Fault). Err (beat.Faulty why)) (lent_of n ss cs)
    (cond (ltb at n.clock) (Err (beat.ClockBack n.clock)) (Ok tt))

abbrev pub when_done : {A : Type 0} → Result (Unit {0}) BeatError → A → A → A
when_done (Ok _) new old = new
when_done (Err _) new old = old

unfoldable pub beat_node : Node → List ℕ → List ℕ → ℕ → Node
beat_node n ss cs at = when_done (beat_answer n ss cs at) (later_node at (swept n at) (shifted n.cache) n) n

-- ---- writers: the bytes of an RPC where there are ids to name, and else none
abbrev pub bytes_for : List (List ℕ) → Rpc → List ℕ
bytes_for ids x = rpc_bytes (if_any ids x)

-- ---- advertise: 40, 41, 42, 29, 12
-- the ids that are told of, sorted
unfoldable pub told_in : Node → List ℕ → List ℕ → ℕ → List (List ℕ)
told_in n cs topic windows =
    map (id_at message_id_size n.cache.id_len n.cache.ids) (gossip_list n.cache cs topic windows)

unfoldable pub advertise_bytes : Node → List ℕ → List ℕ → ℕ → List ℕ
advertise_bytes n cs topic windows =
    rpc_bytes (advertisement_for topic (told_in n cs topic windows))

abbrev pub advertised : Result ℕ ShortRoom → Result ℕ AdvertiseError
advertised (Ok n) = Ok n
advertised (Err room) = Err (advertise.Room room.needed)

unfoldable pub advertise_answer : Node → List ℕ → List ℕ → List ℕ → ℕ → List ℕ → Result ℕ AdvertiseError
advertise_answer n ss cs topic windows out =
    on_lent (λ (why : Fault). Err (advertise.Faulty why)) (lent_of n ss cs)
    (cond (ltb 1024 (length topic)) (Err (advertise.TopicTooLong (length topic)))
    (advertised (answer (advertise_bytes n cs topic windows) out)))

unfoldable pub advertise_left : Node → List ℕ → List ℕ → List ℕ → ℕ → List ℕ → List ℕ
advertise_left n ss cs topic windows out =
    when_fine (lent_of n ss cs) (cond (ltb 1024 (length topic)) out (written (advertise_bytes n cs topic windows) out)) out

-- ---- explain: 40, 41, 42, 29
unfoldable pub explain_answer : Node → List ℕ → List ℕ → List ℕ → List ℕ → ℕ → Result Offer ExplainError
explain_answer n ss cs id topic windows =
    on_lent (λ (why : Fault). Err (explain.Faulty why)) (lent_of n ss cs)
    (cond (ltb 1024 (length topic)) (Err (explain.TopicTooLong (length topic)))
    (Ok (offer_in n.cache cs id topic windows)))

-- ---- ask: 40, 41, 42, 10, 1 to 7 and 14 to 16, 11, 12
-- the ids in the IHAVEs of a body, each at its first mention
unfoldable pub offered : Mode → List ℕ → List (List ℕ)
offered mode body = once (at_path mode (3 ∷ 1 ∷ 2 ∷ []) body)

-- one counts as held among the ids seen: in the form of a signed message; where unsigned ones are allowed, in either
unfoldable pub known_in : ℕ → List (List ℕ) → List ℕ → Bool
known_in flags seen i = among (marked true i) seen || (allows_unsigned flags && among (marked false i) seen)

unfoldable pub unseen_from : ℕ → List (List ℕ) → List (List ℕ) → List (List ℕ)
unseen_from flags seen [] = []
unseen_from flags seen (i ∷ is) =
    cond (known_in flags seen i) (unseen_from flags seen is) (i ∷ unseen_from flags seen is)

unfoldable pub unseen_of : Node → List ℕ → List (List ℕ) → List (List ℕ)
unseen_of n ss is = unseen_from n.cache.flags (ids_in id_size (seen_ring n) n.seen.len ss) is

unfoldable pub ask_bytes : Node → List ℕ → List ℕ → List ℕ
ask_bytes n ss body = rpc_bytes (request_for (unseen_of n ss (offered (mode_of n.cache.flags) body)))

abbrev pub asked : Result ℕ ShortRoom → Result ℕ AskError
asked (Ok n) = Ok n
asked (Err room) = Err (ask.Room room.needed)

abbrev pub ask_on : Result ℕ AskError → Result (Unit {0}) Refusal → Result ℕ AskError
ask_on r (Ok _) = r
ask_on r (Err why) = Err (ask.Refused why)

unfoldable pub ask_answer : Node → List ℕ → List ℕ → Edition → List ℕ → List ℕ → Result ℕ AskError
ask_answer n ss cs e body out =
    on_lent (λ (why : Fault). Err (ask.Faulty why)) (lent_of n ss cs)
    (ask_on (asked (answer (ask_bytes n ss body) out)) (accept_of (spoken (mode_of n.cache.flags) e) body))

abbrev pub when_taken : {A : Type 0} → Result (Unit {0}) Refusal → A → A → A
when_taken (Ok _) new old = new
when_taken (Err _) new old = old

unfoldable pub ask_left : Node → List ℕ → List ℕ → Edition → List ℕ → List ℕ → List ℕ
ask_left n ss cs e body out =
    when_fine (lent_of n ss cs)
    (when_taken (accept_of (spoken (mode_of n.cache.flags) e) body) (written (ask_bytes n ss body) out) out) out

-- ---- serve: 40, 41, 42; 10, 1 to 7 and 14 to 16, 11 of the body that asks; the same of the second body, which is read
-- in 1.2; 12
-- the ids in the IWANTs of a body, each at its first mention
unfoldable pub wanted : Mode → List ℕ → List (List ℕ)
wanted mode body = once (at_path mode (3 ∷ 2 ∷ 1 ∷ []) body)

-- the ids in the IDONTWANTs of a body
unfoldable pub unwanted_in : Mode → List ℕ → List (List ℕ)
unwanted_in mode body = at_path mode (3 ∷ 5 ∷ 1 ∷ []) body

-- the ids that a body asks for and a second one does not decline
unfoldable pub remaining : Mode → List ℕ → List ℕ → List (List ℕ)
remaining mode body second = without (unwanted_in mode second) (wanted mode body)

-- the places of the messages with these ids; `held` are the ids in use, the oldest first
unfoldable pub rows_for : Ring → List (List ℕ) → List (List ℕ) → List ℕ
rows_for ring held [] = []
rows_for ring held (i ∷ is) =
    cond (ltb (index_of i held) (length held)) (place_of ring (index_of i held) ∷ rows_for ring held is)
    (rows_for ring held is)

-- the cached messages among those named
unfoldable pub cached_of : MessageCache → List ℕ → List (List ℕ) → List (List ℕ)
cached_of c cs is =
    map (message_in c.len cs) (rows_for (ring_of c) (ids_in message_id_size (ring_of c) c.id_len c.ids) is)

-- the reply room of a buffer
unfoldable pub room_of : List ℕ → ℕ
room_of out = reply_room (length out)

-- how many messages are written, and their bytes
unfoldable pub served_of : List (List ℕ) → List ℕ → ℕ
served_of ms out = written_in (room_of out) ms

unfoldable pub reply_bytes : List (List ℕ) → List ℕ → List ℕ
reply_bytes ms out = repeated (bytes_field 2) (sent_in (room_of out) ms)

-- the bytes and the two counts of a reply
abbrev pub replied : Reply → Result Counts ServeError
replied (sent written left) =
    Ok (record {
      bytes = length (repeated (bytes_field 2) written);
      messages = length written;
      left = length left;
    })
replied (short needed) = Err (serve.Room needed)

abbrev pub reply_to : List (List ℕ) → List ℕ → Result Counts ServeError
reply_to ms out = replied (reply_for (room_of out) ms)

abbrev pub serve_on : Result Counts ServeError → Result (Unit {0}) Refusal → Result Counts ServeError
serve_on r (Ok _) = r
serve_on r (Err why) = Err (serve.Refused why)

unfoldable pub serve_answer : Node → List ℕ → List ℕ → Edition → List ℕ → List ℕ → List ℕ → Result Counts ServeError
serve_answer n ss cs e body second out =
    on_lent (λ (why : Fault). Err (serve.Faulty why)) (lent_of n ss cs)
    (serve_on
    (serve_on (reply_to (cached_of n.cache cs (remaining (mode_of n.cache.flags) body second)) out)
    (accept_of (spoken (mode_of n.cache.flags) V12) second))
    (accept_of (spoken (mode_of n.cache.flags) e) body))

unfoldable pub serve_left : Node → List ℕ → List ℕ → Edition → List ℕ → List ℕ → List ℕ → List ℕ
serve_left n ss cs e body second out =
    when_fine (lent_of n ss cs)
    (when_taken (accept_of (spoken (mode_of n.cache.flags) e) body)
    (when_taken (accept_of (spoken (mode_of n.cache.flags) V12) second)
    (sets out 0 (reply_bytes (cached_of n.cache cs (remaining (mode_of n.cache.flags) body second)) out)) out) out)
    out
