-- The example's two gateways after their calls: what the one lacks, its request, one round, and the advertisements
-- after it, to the byte.
use Rattle.std.specs.Prelude.{ℕ, ◌≡◌, refl, true, List, [], ◌∷◌, ◌++◌, length}
use Rattle.std.proofs.Common.{sym, ap, ap₂, subst, ◌∙◌, append-nil, arith}
use Rattle.basis.specs.Dialect.{mode_of}
use Rattle.basis.specs.declared.Edition.TheVariants.{V11, V12}
use Rattle.basis.specs.Cases.{either, clash}
use Rattle.peer_id.specs.Uvarint.{uvarint, bytes_of, read_uvarint, read_from, group_of}
use Rattle.protobuf.specs.Field.{read_tag, read_len, read_varint, skip_fixed, skip_field, read_value, read_field}
use Rattle.protobuf.specs.Walk.{walk_from, walk_at}
use Rattle.protobuf.specs.Encode.{tag, bytes_field}
use Rattle.rpc.specs.Encode.{encode_iHave, encode_iWant, encode_control, encode_rpc}
use Rattle.schema.specs.Schema.{role_of}
use Rattle.schema.specs.Slots.{set_place, with_field, slots_of}
use Rattle.admission.specs.Flags.{allows_unsigned}
use Rattle.admission.specs.Admission.{topics_of, is_signed}
use Rattle.rows.specs.Rows.{newest}
use Rattle.rows.specs.Ids.{same_bytes, precedes_bytes, among}
use Rattle.rows.specs.IdsLaws.{same_equal}
use Rattle.rows.specs.Store.{all_up_to}
use Rattle.seen.specs.Entries.{holds, until, inserted, live}
use Rattle.mcache.specs.Messages.{Cached, ids_of, held, put, shift, get, carrying, enter_id, in_order, gossip_ids}
use Rattle.node.specs.Gateway.{Gateway, started, marked, is_new, after_admit, after_beat, told_of, knows, lacking, having}
use Rattle.node.specs.Gateway.{advertisement, request}
use Rattle.node.specs.State.{rises_from}
use Rattle.node.specs.Calls.{told_in, bytes_for, advertise_bytes}
use Rattle.node.specs.Laws.{told-gateway}
use Rattle.history.specs.History.{State, gateway_of, Call, admit, ask, after, after_all, readings, first_of}
use Rattle.history.specs.Laws.{started_by}
use Rattle.history.specs.Script.{Act, gets, asks, calls_of, gateway_after, Written, nothing, got, asked}
use Rattle.history.proofs.ScriptLaws.{fresh-leaves}
use Rattle.history.specs.Samples.{signature, start}
use Rattle.agreement.specs.Premises.{Clock}
use Rattle.agreement.specs.Round.{missing, lacked, advert_by, advert_of, request_of, reply_of, asker_round}
use Rattle.agreement.specs.Round.{teller_round, asker_rounds, teller_rounds}
use Rattle.agreement.specs.Holding.{Holding, got_all, past_all}
use Rattle.agreement.proofs.Holding.{holding-all}
use Rattle.agreement.specs.HandOver.{request-is}
use Rattle.agreement.proofs.Lacking.{fine}
use Rattle.agreement.proofs.Played.{advertise-is, requested, one-replied, one_round as one-asked}
use Rattle.agreement.proofs.Request.{request-is_exact}
use Rattle.agreement.specs.CatchUp.{CaughtUp}
use Rattle.agreement.proofs.CatchUp.{caught_up, all-arrived}
use Rattle.agreement.specs.Identical.{Identical}
use Rattle.agreement.proofs.Identical.{identical-bytes}
use Rattle.agreement.specs.Example.{topic, first, second, messages, first-id, second-id, first_body, second-body}
use Rattle.agreement.specs.Example.{settings_a_lem, settings_b_lem, calls_a_lem, calls_b_lem, script_a, script_b}
use Rattle.agreement.specs.Example.{buffer, play}
use Rattle.agreement.proofs.Example.{first-carried, second-carried, message-set, fresh_a, fresh_b, calls_a-written}
use Rattle.agreement.proofs.Example.{calls_b-written, written_a, written_b, clock-by, premises_a, premises_b}
use Rattle.agreement.proofs.Example.{buffer_full, fair, alike}
use Rattle.agreement.specs.ExampleRound.{at_a_lem, at_b, reading, all_a, all_b, later_a, later_b}

-- ---- the gateways after these calls
unfoldable gateway_a_lem : Gateway
gateway_a_lem =
    record {
      ttl = 100;
      max_seen = 2;
      history_len = 2;
      max_messages = 2;
      flags = 0;
      clock = 12;
      seen = record { id = marked true first-id; expiry = 110 } ∷ [];
      cache = record { id = first-id; message = first; window = 0 } ∷ [];
    }

unfoldable gateway_b_lem : Gateway
gateway_b_lem =
    record {
      ttl = 50;
      max_seen = 3;
      history_len = 3;
      max_messages = 4;
      flags = 0;
      clock = 11;
      seen = record { id = marked true second-id; expiry = 57 }
          ∷ record { id = marked true first-id; expiry = 58 } ∷ [];
      cache = record { id = second-id; message = second; window = 1 }
          ∷ record { id = first-id; message = first; window = 1 } ∷ [];
    }

script_leaves_a : gateway_after script_a (started_by settings_a_lem) ≡ gateway_a_lem
unfolding signature first is_signed slots_of with_field set_place role_of walk_at walk_from read_field read_value skip_field
    skip_fixed read_varint read_len read_tag read_uvarint read_from group_of gateway_a_lem gateway_after started is_new after_admit
    holds among same_bytes live inserted newest until held put
script_leaves_a = refl

script_leaves_b : gateway_after script_b (started_by settings_b_lem) ≡ gateway_b_lem
unfolding signature first second is_signed slots_of with_field set_place role_of walk_at walk_from read_field read_value
    skip_field skip_fixed read_varint read_len read_tag read_uvarint read_from group_of gateway_b_lem gateway_after started is_new
    after_admit after_beat holds among same_bytes live inserted newest until held put shift
script_leaves_b = refl

a_is : gateway_of at_a_lem ≡ gateway_a_lem
a_is = ap (λ (cs : List Call). gateway_of (after_all cs (start settings_a_lem))) (sym calls_a-written)
    ∙ fresh-leaves script_a fresh_a written_a ∙ script_leaves_a

b_is : gateway_of at_b ≡ gateway_b_lem
b_is = ap (λ (cs : List Call). gateway_of (after_all cs (start settings_b_lem))) (sym calls_b-written)
    ∙ fresh-leaves script_b fresh_b written_b ∙ script_leaves_b

-- ---- a lacks the second message, and b lacks nothing
a_misses : missing (mode_of gateway_b_lem.flags) topic gateway_a_lem gateway_b_lem.cache
    ≡ record { id = second-id; message = second; window = 1 } ∷ []
unfolding gateway_a_lem gateway_b_lem missing knows allows_unsigned holds among same_bytes signature first second walk_at walk_from
    read_field read_value skip_field skip_fixed read_varint read_len read_tag read_uvarint read_from group_of topics_of
a_misses = refl

b_misses : missing (mode_of gateway_a_lem.flags) topic gateway_b_lem gateway_a_lem.cache ≡ []
unfolding gateway_a_lem gateway_b_lem missing knows allows_unsigned holds among same_bytes signature first second walk_at walk_from
    read_field read_value skip_field skip_fixed read_varint read_len read_tag read_uvarint read_from group_of topics_of
b_misses = refl

pub a_lacks_the_second : lacked topic at_a_lem at_b ≡ record { id = second-id; message = second; window = 1 } ∷ []
a_lacks_the_second = ap₂ (λ (g h : Gateway). missing (mode_of h.flags) topic g h.cache) a_is b_is ∙ a_misses

pub b_lacks-nothing : lacked topic at_b at_a_lem ≡ []
b_lacks-nothing = ap₂ (λ (g h : Gateway). missing (mode_of h.flags) topic g h.cache) b_is a_is ∙ b_misses

-- ---- a's request, given b's advertisement, names its id
holding_a : Holding messages settings_a_lem (first_of calls_a_lem) (past_all 0 calls_a_lem) [] 0
    (got_all 0 [] calls_a_lem) at_a_lem
holding_a = holding-all message-set premises_a

holding_b : Holding messages settings_b_lem (first_of calls_b_lem) (past_all 0 calls_b_lem) [] 0
    (got_all 0 [] calls_b_lem) at_b
holding_b = holding-all message-set premises_b

b_tells : told_of topic 3 gateway_b_lem ≡ first-id ∷ second-id ∷ []
unfolding gateway_b_lem gossip_ids in_order enter_id carrying precedes_bytes among same_bytes signature first second walk_at
    walk_from read_field read_value skip_field skip_fixed read_varint read_len read_tag read_uvarint read_from group_of topics_of
b_tells = refl

a_wants : lacking gateway_a_lem (first-id ∷ second-id ∷ []) ≡ second-id ∷ []
unfolding gateway_a_lem lacking knows allows_unsigned holds among same_bytes
a_wants = refl

wanted-is : lacking (gateway_of at_a_lem) (told_of topic 3 (gateway_of at_b)) ≡ second-id ∷ []
wanted-is = ap₂ (λ (g h : Gateway). lacking g (told_of topic 3 h)) a_is b_is ∙ ap (lacking gateway_a_lem) b_tells ∙ a_wants

-- 26 and 43: the control. 18 and 41: the IWANT. 10 and 39: the id
request-written : bytes_for (second-id ∷ []) (request (second-id ∷ [])) ≡ 26 ∷ 43 ∷ 18 ∷ 41 ∷ 10 ∷ 39 ∷ second-id
unfolding encode_rpc encode_control encode_iWant encode_iHave bytes_field tag uvarint bytes_of request advertisement
request-written = refl

pub request-bytes : request_of play at_a_lem at_b ≡ 26 ∷ 43 ∷ 18 ∷ 41 ∷ 10 ∷ 39 ∷ second-id
request-bytes =
    requested holding_a holding_b play fair
    ∙ request-is at_b.node at_b.ids at_b.messages topic 3 (fine holding_b topic 3 fair.windows_y)
    holding_b.bytes fair.topic-short at_a_lem.node at_a_lem.ids at_a_lem.messages
    ∙ ap (λ (l : List (List ℕ)). bytes_for l (request l)) wanted-is
    ∙ request-written

-- the theorem's ids are this one
only_one : (l : List (List ℕ)) (i : List ℕ) → length l ≡ 1 → among i l ≡ true → l ≡ i ∷ []
unfolding among
only_one [] i n h = absurd (omega arith)
only_one (j ∷ []) i n h = either (same_bytes j i) (λ t. ap (λ (k : List ℕ). k ∷ []) (same_equal j i t))
    (λ t. clash (let z = simp t at h in cc))
only_one (j ∷ k ∷ l) i n h = absurd (omega arith)

second-named : among second-id (second-id ∷ []) ≡ true
unfolding among same_bytes
second-named = refl

pub request-names : (request-is_exact message-set premises_a premises_b alike play fair).ids ≡ second-id ∷ []
request-names =
    let r = request-is_exact message-set premises_a premises_b alike play fair in
    only_one r.ids second-id (r.count ∙ ap length a_lacks_the_second)
    (r.exactly second-id ∙ ap (λ (l : List Cached). among second-id (ids_of l)) a_lacks_the_second ∙ second-named)

-- ---- b's reply is the body with the second message
b_has : having gateway_b_lem (second-id ∷ []) ≡ second ∷ []
unfolding gateway_b_lem having held get among same_bytes
b_has = refl

has_it : having (gateway_of at_b) (second-id ∷ []) ≡ second ∷ []
has_it = ap (λ (g : Gateway). having g (second-id ∷ [])) b_is ∙ b_has

body-written : bytes_field 2 second ≡ second-body
unfolding second-body bytes_field tag uvarint bytes_of signature second
body-written = refl

pub reply_bytes_lem : reply_of play at_a_lem at_b ≡ second-body
reply_bytes_lem = one-replied holding_a holding_b play fair second second-id wanted-is has_it ∙ body-written

-- ---- one round, a's admits at 20
-- a's calls in it: it asks, and admits the message served
pub one_round : asker_rounds play 1 reading at_a_lem at_b
    ≡ ask V12 (advert_of play at_b) (buffer 1 7) ∷ admit V12 second-body 0 true 20 ∷ []
unfolding asker_rounds
one_round =
    append-nil (asker_round play (reading 0) at_a_lem at_b)
    ∙ one-asked holding_a holding_b play fair second second-id wanted-is has_it (reading 0)
    ∙ ap (λ (body : List ℕ). ask V12 (advert_of play at_b) (buffer 1 7) ∷ admit V12 body 0 true 20 ∷ []) body-written

abbrev advert : List ℕ
advert = advert_of play at_b

abbrev script_all : List Act
script_all =
    gets V11 first_body first first-id 10 ∷ gets V12 first_body first first-id 12 ∷ asks V12 advert (buffer 1 7)
    ∷ gets V12 second-body second second-id 20 ∷ []

all_a_written : calls_of script_all ≡ all_a
unfolding calls_of calls_a_lem
all_a_written =
    ap (λ (cs : List Call). admit V11 first_body 0 true 10 ∷ admit V12 first_body 0 true 12 ∷ cs) (sym one_round)

written_all : Written 0 0 script_all
written_all =
    got 0 10 (first-carried V11) (omega arith)
    (got 10 12 (first-carried V12) (omega arith) (asked (got 12 20 (second-carried V12) (omega arith) nothing)))

clock_script : Clock settings_a_lem (readings (calls_of script_all))
unfolding calls_of readings rises_from all_up_to
clock_script = clock-by settings_a_lem (readings (calls_of script_all)) 20 refl refl (omega arith) (omega arith)

clock-all : Clock settings_a_lem (readings all_a)
clock-all = subst (λ (cs : List Call). Clock settings_a_lem (readings cs)) all_a_written clock_script

-- no call in the round is refused, and both histories, with the round, are under the premises
pub round_done : CaughtUp messages settings_a_lem settings_b_lem calls_a_lem calls_b_lem (start settings_a_lem) (start settings_b_lem) play 1
    reading
round_done = caught_up message-set premises_a premises_b alike play fair 1 reading clock-all

-- ---- after it neither lacks anything
one-lacking : length (lacked topic at_a_lem at_b) ≡ 1
one-lacking = ap length a_lacks_the_second

pub a_lacks-nothing-then : lacked topic later_a later_b ≡ []
a_lacks-nothing-then = all-arrived message-set premises_a premises_b alike play fair 1 reading clock-all 1
    (omega (arith, one-lacking)) (omega arith)

unfoldable gateway_a-then : Gateway
gateway_a-then =
    record {
      ttl = 100;
      max_seen = 2;
      history_len = 2;
      max_messages = 2;
      flags = 0;
      clock = 20;
      seen = record { id = marked true first-id; expiry = 110 }
          ∷ record { id = marked true second-id; expiry = 120 } ∷ [];
      cache = record { id = first-id; message = first; window = 0 }
          ∷ record { id = second-id; message = second; window = 0 } ∷ [];
    }

script_leaves-all : gateway_after script_all (started_by settings_a_lem) ≡ gateway_a-then
unfolding signature first second is_signed slots_of with_field set_place role_of walk_at walk_from read_field read_value
    skip_field skip_fixed read_varint read_len read_tag read_uvarint read_from group_of gateway_a-then gateway_after started
    is_new after_admit holds among same_bytes live inserted newest until held put
script_leaves-all = refl

a_is-then : gateway_of later_a ≡ gateway_a-then
a_is-then = ap (λ (cs : List Call). gateway_of (after_all cs (start settings_a_lem))) (sym all_a_written)
    ∙ fresh-leaves script_all fresh_a written_all ∙ script_leaves-all

-- advertise and serve leave b as it is
b_stays : later_b ≡ at_b
unfolding calls_b_lem after_all after teller_rounds teller_round
b_stays = refl

b_is-then : gateway_of later_b ≡ gateway_b_lem
b_is-then = ap gateway_of b_stays ∙ b_is

b_misses_then : missing (mode_of gateway_a-then.flags) topic gateway_b_lem gateway_a-then.cache ≡ []
unfolding gateway_a-then gateway_b_lem missing knows allows_unsigned holds among same_bytes signature first second walk_at
    walk_from read_field read_value skip_field skip_fixed read_varint read_len read_tag read_uvarint read_from group_of topics_of
b_misses_then = refl

pub b_lacks-nothing-then : lacked topic later_b later_a ≡ []
b_lacks-nothing-then = ap₂ (λ (g h : Gateway). missing (mode_of h.flags) topic g h.cache) b_is-then a_is-then
    ∙ b_misses_then

-- ---- and both advertise in the same bytes, each with another buffer
pub same_bytes_lem : Identical topic 2 3 (buffer 5 1) (buffer 0 2) later_a later_b
same_bytes_lem =
    identical-bytes message-set round_done.asker_history round_done.teller_history alike topic fair.topic-short
    a_lacks-nothing-then b_lacks-nothing-then 2 3 (omega arith) (omega arith) (buffer 5 1) (buffer 0 2)
    (buffer_full 5 1) (buffer_full 0 2)

-- 26 and 87: the control. 10 and 85: the IHAVE. 10 and 1: the topic `t`. 18 and 39: each id
advert-written : bytes_for (first-id ∷ second-id ∷ []) (advertisement topic (first-id ∷ second-id ∷ []))
    ≡ 26 ∷ 87 ∷ 10 ∷ 85 ∷ 10 ∷ 1 ∷ 116 ∷ 18 ∷ 39 ∷ (first-id ++ (18 ∷ 39 ∷ second-id))
unfolding encode_rpc encode_control encode_iWant encode_iHave bytes_field tag uvarint bytes_of request advertisement
advert-written = refl

later-holding_b : Holding messages settings_b_lem (first_of all_b) (past_all 0 all_b) [] 0
    (got_all 0 [] all_b) later_b
later-holding_b = holding-all message-set round_done.teller_history

told_bytes_lem : (s : State) (ids : List (List ℕ)) → told_in s.node s.messages topic 3 ≡ ids
    → advertise_bytes s.node s.messages topic 3 ≡ bytes_for ids (advertisement topic ids)
unfolding advertise_bytes
told_bytes_lem s ids e = ap (λ (l : List (List ℕ)). bytes_for l (advertisement topic l)) e

pub advert-bytes_b : advert_by topic 3 (buffer 0 2) later_b
    ≡ 26 ∷ 87 ∷ 10 ∷ 85 ∷ 10 ∷ 1 ∷ 116 ∷ 18 ∷ 39 ∷ (first-id ++ (18 ∷ 39 ∷ second-id))
advert-bytes_b =
    advertise-is later-holding_b topic fair.topic-short 3 (buffer 0 2) (buffer_full 0 2)
    ∙ told_bytes_lem later_b (first-id ∷ second-id ∷ [])
    (told-gateway later_b.node later_b.ids later_b.messages topic 3
    (fine later-holding_b topic 3 fair.windows_y) ∙ ap (told_of topic 3) b_is-then ∙ b_tells)
    ∙ advert-written

pub advert-bytes_a : advert_by topic 2 (buffer 5 1) later_a
    ≡ 26 ∷ 87 ∷ 10 ∷ 85 ∷ 10 ∷ 1 ∷ 116 ∷ 18 ∷ 39 ∷ (first-id ++ (18 ∷ 39 ∷ second-id))
advert-bytes_a = same_bytes_lem.same ∙ advert-bytes_b
