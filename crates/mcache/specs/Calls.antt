-- What each call on the message cache answers and leaves. Refusals come in the order of the scope's table: 40 at the
-- start; 41, 42; then for `put` 10, 1 to 7 and 14 to 16, 11, 20, 21, 22, 34, 23 to 26, 35, 36, 28, 29, 30, and for
-- `gossip_ids` 29. A refused call leaves the cache and the store as they were.
use Rattle.std.specs.Prelude.{Result, Ok, Err, ℕ, ◌+◌, ◌-◌, ◌*◌, Bool, true, cond, ◌&&◌, List, [], ◌++◌}
use Rattle.std.specs.Prelude.{length, drop, replicate, ◌==◌, nat_le, nat_lt, slice_index}
use Rattle.std.specs.Result.{result_and}
use Rattle.std.proofs.lemmas.List.Edits.{sets}
use Rattle.basis.specs.Told.{fine_told}
use Rattle.basis.specs.declared.Edition.{Edition}
use Rattle.basis.specs.Dialect.{mode_of, spoken}
use Rattle.rows.specs.declared.Ring.{Ring}
use Rattle.rows.specs.Rows.{place_of, rows_in}
use Rattle.rows.specs.Ids.{index_of}
use Rattle.rows.specs.Store.{id_at, ids_in, in_use}
use Rattle.protobuf.specs.Walk.{between}
use Rattle.schema.specs.Accept.{accept_of}
use Rattle.ids.specs.Ids.{message_at, id_bytes}
use Rattle.admission.specs.Admission.{admission_of}
use Rattle.mcache.specs.declared.MessageCache.{MessageCache}
use Rattle.mcache.specs.declared.Offer.{Offer}
use Rattle.mcache.specs.declared.Offer.TheVariants as offer
use Rattle.protobuf.specs.declared.Refusal.{Refusal}
use Rattle.admission.specs.declared.Unfit.{Unfit}
use Rattle.basis.specs.declared.Fault.TheVariants as fault
use Rattle.basis.specs.declared.Fault.{Fault}
use Rattle.mcache.specs.declared.GossipError.TheVariants as gossip
use Rattle.mcache.specs.declared.GossipError.{GossipError}
use Rattle.mcache.specs.declared.Kept.TheVariants as kept
use Rattle.mcache.specs.declared.Kept.{Kept}
use Rattle.mcache.specs.declared.PutError.TheVariants as put
use Rattle.mcache.specs.declared.PutError.{PutError}
use Rattle.mcache.specs.Messages.{offer_for}
use Rattle.mcache.specs.Told.{put_told, lookup_told, gossip_told}
use Rattle.mcache.specs.State.{message_in, legal, well_formed, fresh, dropped, appended, passed, aged, stale, told}
use Rattle.mcache.specs.State.{has_topic, gather_into, message_size, message_id_size, message_limit, ring_of, table_of}

-- ---- the scope's numbers
abbrev pub lent_number : Result (Unit {0}) Fault → ℕ
lent_number r = (fine_told r).number

abbrev pub start_number : Result (Unit {0}) Fault → ℕ
start_number r = (fine_told r).number

abbrev pub put_number : Result Kept PutError → ℕ
put_number r = (put_told r).number

abbrev pub lookup_number : Result Bool Fault → ℕ
lookup_number r = (lookup_told r).number

abbrev pub gossip_number : Result (Unit {0}) GossipError → ℕ
gossip_number r = (gossip_told r).number

-- ---- start: 40
unfoldable pub start_answer : ℕ → ℕ → ℕ → Result (Unit {0}) Fault
start_answer history max flags = cond (legal history max flags) (Ok tt) (Err fault.BadSetting)

-- where the settings are refused, a cache that keeps nothing
unfoldable pub start_cache : ℕ → ℕ → ℕ → MessageCache
start_cache history max flags = cond (legal history max flags) (fresh history max flags) (fresh 1 0 0)

-- ---- the lent state: 41, 42
unfoldable pub lent_of : MessageCache → List ℕ → Result (Unit {0}) Fault
lent_of c st = cond (length st == c.max_messages * message_size) (cond (well_formed c st) (Ok tt) (Err fault.Malformed))
    (Err fault.BadStore)

abbrev pub when_fine : {A : Type 0} → Result (Unit {0}) Fault → A → A → A
when_fine (Ok _) new old = new
when_fine (Err _) new old = old

-- ---- the calls on a state that was tested
-- which row holds an id, counted from the oldest; the count of rows where none does
unfoldable pub index_in : MessageCache → List ℕ → ℕ
index_in c id = index_of id (ids_in message_id_size (ring_of c) c.id_len c.ids)

-- the oldest leaves where there is no room; then a message more. With max_messages 0 none is kept.
unfoldable pub entered : List ℕ → List ℕ → MessageCache → MessageCache
entered m id c =
    cond (c.max_messages == 0) (passed c) (appended m id (dropped ((c.count + 1) - c.max_messages) c))

-- the bytes of the message are written where it is kept, and no others
unfoldable pub entered_store : MessageCache → List ℕ → List ℕ → List ℕ
entered_store c st m =
    cond (c.max_messages == 0) st
    (let d = dropped ((c.count + 1) - c.max_messages) c in sets st (place_of (ring_of d) d.count * message_size) m)

unfoldable pub shifted : MessageCache → MessageCache
shifted c = dropped (stale c.history_len (in_use (ring_of c) c.window)) (aged c)

unfoldable pub found : MessageCache → List ℕ → List ℕ → List ℕ
found c st id = cond (nat_lt (index_in c id) c.count) (message_in c.len st (place_of (ring_of c) (index_in c id))) []

-- the places of the messages that are told of, in the order of their ids
unfoldable pub gossip_list : MessageCache → List ℕ → List ℕ → ℕ → List ℕ
gossip_list c st topic windows =
    gather_into (told c.window c.len (table_of c) st windows topic) (id_at message_id_size c.id_len c.ids) []
    (rows_in (λ (p : ℕ). p) (ring_of c))

-- and zeros after them
unfoldable pub gossip_array : MessageCache → List ℕ → List ℕ → ℕ → List ℕ
gossip_array c st topic windows = gossip_list c st topic windows ++ drop (length (gossip_list c st topic windows))
    (replicate message_limit 0)

-- ---- put
-- what a put is to do: keep a message under an id; or nothing, and answer so
pub data Plan : Type 0 where
  no : Result Kept PutError → Plan
  keep : List ℕ → List ℕ → Plan

abbrev pub answered : Plan → Result Kept PutError
answered (no r) = r
answered (keep m id) = Ok kept.Stored

abbrev pub kept_in : MessageCache → Plan → MessageCache
kept_in c (no r) = c
kept_in c (keep m id) = entered m id c

abbrev pub stored_in : MessageCache → List ℕ → Plan → List ℕ
stored_in c st (no r) = st
stored_in c st (keep m id) = entered_store c st m

-- a message under its id: a held id changes nothing
abbrev pub plan_under : MessageCache → List ℕ → List ℕ → Plan
plan_under c m id = cond (nat_lt (index_in c id) c.count) (no (Ok kept.Held)) (keep m id)

unfoldable pub kept_under : List ℕ → List ℕ → MessageCache → MessageCache
kept_under m id c = kept_in c (plan_under c m id)

unfoldable pub stored_under : MessageCache → List ℕ → List ℕ → List ℕ → List ℕ
stored_under c st m id = stored_in c st (plan_under c m id)

-- ---- keep, tell, offer and form_id test no state: each asks something of constant cost first
-- the rows lie within the arrays
unfoldable pub rows_lie : Ring → Bool
rows_lie ring = nat_le ring.cap message_limit && (nat_le ring.start ring.cap && nat_le ring.count ring.cap)

-- and a store of s bytes has a place for each; a message of m bytes and an id of i fit theirs
unfoldable pub keepable : Ring → ℕ → ℕ → ℕ → Bool
keepable ring s m i =
    rows_lie ring && (s == ring.cap * message_size && (nat_le m message_size && nat_le i message_id_size))

unfoldable pub plan_kept : MessageCache → List ℕ → List ℕ → List ℕ → Plan
plan_kept c st m id =
    cond (keepable (ring_of c) (length st) (length m) (length id)) (plan_under c m id)
    (no (Err (put.Faulty fault.Malformed)))

unfoldable pub tell_answer : MessageCache → Result (Unit {0}) GossipError
tell_answer c = cond (rows_lie (ring_of c)) (Ok tt) (Err (gossip.Faulty fault.Malformed))

unfoldable pub tell_count : MessageCache → List ℕ → List ℕ → ℕ → ℕ
tell_count c st topic windows = cond (rows_lie (ring_of c)) (length (gossip_list c st topic windows)) 0

unfoldable pub tell_rows : MessageCache → List ℕ → List ℕ → ℕ → List ℕ
tell_rows c st topic windows = cond (rows_lie (ring_of c)) (gossip_array c st topic windows) (replicate message_limit 0)

-- what is said of the message in place p
unfoldable pub offer_at : MessageCache → List ℕ → List ℕ → ℕ → ℕ → Offer
offer_at c st topic windows p = offer_for (has_topic c.len (table_of c) st topic p) (slice_index c.window p) windows

-- and of an id
unfoldable pub offer_in : MessageCache → List ℕ → List ℕ → List ℕ → ℕ → Offer
offer_in c st id topic windows =
    cond (rows_lie (ring_of c))
    (cond (nat_lt (index_in c id) c.count) (offer_at c st topic windows (place_of (ring_of c) (index_in c id)))
    offer.NotCached)
    offer.NotCached

-- from at a to e and seqno at b to f lie within n bytes, and m bytes have room for both
unfoldable pub formable : ℕ → ℕ → ℕ → ℕ → ℕ → ℕ → Bool
formable n a e b f m = nat_le a e && (nat_le e n && (nat_le b f && (nat_le f n && nat_le ((e - a) + (f - b)) m)))

unfoldable pub form_count : List ℕ → ℕ → ℕ → ℕ → ℕ → List ℕ → ℕ
form_count part a e b f out = cond (formable (length part) a e b f (length out)) (length (id_bytes part a e b f)) 0

unfoldable pub form_left : List ℕ → ℕ → ℕ → ℕ → ℕ → List ℕ → List ℕ
form_left part a e b f out = cond (formable (length part) a e b f (length out)) (sets out 0 (id_bytes part a e b f)) out

-- a message p: 21 to 30 and 34 to 36 without 27; 25 where the flags do not allow unsigned messages
abbrev pub plan_fit : MessageCache → List ℕ → Result ((ℕ × ℕ) × (ℕ × ℕ)) Unfit → Plan
plan_fit c p (Err why) = no (Err (put.Unfit why))
plan_fit c p (Ok ((a, e), (b, f))) = plan_under c p (id_bytes p a e b f)

-- 20
abbrev pub plan_at : MessageCache → List ℕ → Result (ℕ × ℕ) ℕ → Plan
plan_at c body (Err n) = no (Err (put.NoMessage n))
plan_at c body (Ok (a, e)) = plan_fit c (between body a e) (admission_of c.flags (between body a e) true)

-- 10, 1 to 7 and 14 to 16, 11
abbrev pub plan_body : MessageCache → List ℕ → ℕ → Result (Unit {0}) Refusal → Plan
plan_body c body i (Err why) = no (Err (put.Refused why))
plan_body c body i (Ok tt) = plan_at c body (message_at (mode_of c.flags) body i)

-- 41, 42
abbrev pub plan_lent : Result (Unit {0}) Fault → Plan → Plan
plan_lent (Ok _) r = r
plan_lent (Err why) r = no (Err (put.Faulty why))

-- the body is read in the edition of the call and in the mode of the cache
unfoldable pub planned : MessageCache → List ℕ → Edition → List ℕ → ℕ → Plan
planned c st e body i = plan_lent (lent_of c st) (plan_body c body i (accept_of (spoken (mode_of c.flags) e) body))

-- ---- shift
unfoldable pub shift_cache : MessageCache → List ℕ → MessageCache
shift_cache c st = when_fine (lent_of c st) (shifted c) c

-- ---- get, and why
unfoldable pub get_part : MessageCache → List ℕ → List ℕ → List ℕ
get_part c st id = when_fine (lent_of c st) (found c st id) []

unfoldable pub lookup_answer : MessageCache → List ℕ → List ℕ → Result Bool Fault
lookup_answer c st id = result_and (lent_of c st) (Ok (nat_lt (index_in c id) c.count))

-- ---- gossip_ids: 41, 42, 29
abbrev pub gossip_on : Result (Unit {0}) Fault → Result (Unit {0}) GossipError → Result (Unit {0}) GossipError
gossip_on (Ok _) r = r
gossip_on (Err why) r = Err (gossip.Faulty why)

unfoldable pub gossip_answer : MessageCache → List ℕ → List ℕ → Result (Unit {0}) GossipError
gossip_answer c st topic =
    gossip_on (lent_of c st) (cond (nat_lt 1024 (length topic)) (Err (gossip.TopicTooLong (length topic))) (Ok tt))

abbrev pub when_told : {A : Type 0} → Result (Unit {0}) GossipError → A → A → A
when_told (Ok _) x y = x
when_told (Err _) x y = y

unfoldable pub gossip_count : MessageCache → List ℕ → List ℕ → ℕ → ℕ
gossip_count c st topic windows = when_told (gossip_answer c st topic) (length (gossip_list c st topic windows)) 0

unfoldable pub gossip_rows : MessageCache → List ℕ → List ℕ → ℕ → List ℕ
gossip_rows c st topic windows = when_told (gossip_answer c st topic) (gossip_array c st topic windows)
    (replicate message_limit 0)
