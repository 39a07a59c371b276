-- An example with groups: two gateways that pass over groups, two messages, of which the second has a group and is lost
-- on its way to the first gateway, and histories that meet every premise. One round brings the second message, with its
-- group.
use Rattle.std.specs.Prelude.{◌≡◌, refl, true, [], ◌∷◌}
use Rattle.std.proofs.Common.{sym}
use Rattle.basis.specs.declared.Edition.{Edition}
use Rattle.basis.specs.declared.Edition.TheVariants.{V12}
use Rattle.basis.specs.Dialect.{mode_of}
use Rattle.basis.specs.Bytes.{Bytes}
use Rattle.peer_id.specs.Uvarint.{read_uvarint, read_from, group_of}
use Rattle.peer_id.specs.PeerId.{hash_of, from_bytes}
use Rattle.key.specs.Decode.{type_of, on_total, on_data, decode_protobuf}
use Rattle.utf8.specs.Utf8.{is_utf8, run}
use Rattle.protobuf.specs.Field.{read_tag, read_len, read_varint, skip_fixed, skip_value, passed, skip_from, skip_group}
use Rattle.protobuf.specs.Field.{skip_field, read_value, read_field}
use Rattle.protobuf.specs.Walk.{walk_from, walk_at}
use Rattle.schema.specs.Schema.{role_of, rank, own_of}
use Rattle.schema.specs.Kinds.{to_depth, over_kinds}
use Rattle.schema.specs.Count.{text_count, counted}
use Rattle.schema.specs.Slots.{set_place, with_field, slots_of}
use Rattle.schema.specs.Accept.{body_records, accept_of}
use Rattle.ids.specs.Ids.{message_at, id_parts}
use Rattle.admission.specs.Flags.{known_flags, allows_unsigned}
use Rattle.admission.specs.Admission.{topics_of, first_long, on_limits, is_key, key_inside, is_peer_id, admission_of, is_signed}
use Rattle.admission.specs.Admission.{gives_id}
use Rattle.rows.specs.Rows.{newest}
use Rattle.rows.specs.Ids.{same_bytes, precedes_bytes, among}
use Rattle.rows.specs.Store.{all_up_to}
use Rattle.seen.specs.Entries.{holds, until, inserted, live}
use Rattle.mcache.specs.Messages.{held, put, get, carrying, enter_id, in_order, gossip_ids}
use Rattle.node.specs.Gateway.{Gateway, started, is_new, after_admit, told_of, knows, lacking, having}
use Rattle.history.specs.History.{after_all}
use Rattle.history.proofs.Laws.{carried-brought}
use Rattle.history.specs.Script.{Carries}
use Rattle.history.specs.Samples.{signature, start}
use Rattle.agreement.specs.Premises.{MessageSet, Alike, Premises}
use Rattle.agreement.specs.Round.{missing, lacked, Fair}
use Rattle.agreement.specs.CatchUp.{CaughtUp}
use Rattle.agreement.specs.Example.{topic, first, first-id, second-id, first_body, play}
use Rattle.agreement.proofs.Example.{upto-bytes, ids-differ}
use Rattle.agreement.specs.Pair.{Pair, settings_a, settings_b, at_a, at_b, gateway_a, gateway_b, reading}
use Rattle.agreement.proofs.Pair.{message-set, premises_a, premises_b, fair, a_lacks, round_done, none-lacking}
use Rattle.agreement.specs.ExampleGroups.{grouped, grouped-body, messages, calls_a_lem, calls_b_lem, all_a, all_b}

-- ---- the messages: the example's first, and one with seqno 2, topic `t` and, before its signature, a group of number
-- 15 with one field in it
pub first-carried : (ed : Edition) → Carries 2 ed first_body first first-id
unfolding signature first first_body accept_of body_records counted over_kinds to_depth text_count role_of rank own_of is_utf8
    run walk_at walk_from read_field read_value skip_field skip_fixed read_varint read_len read_tag read_uvarint read_from group_of
    message_at gives_id admission_of on_limits topics_of first_long id_parts slots_of with_field set_place same_bytes is_peer_id
    key_inside is_key from_bytes hash_of decode_protobuf type_of on_data on_total
first-carried ed =
    record { accepted = refl; placed = record { start = 2; next = 121; found = refl; bytes = refl }; own = refl }

pub grouped-carried : (ed : Edition) → Carries 2 ed grouped-body grouped second-id
unfolding mode_of signature grouped grouped-body accept_of body_records counted over_kinds to_depth text_count role_of rank
    own_of is_utf8 run walk_at walk_from read_field read_value skip_field passed skip_group skip_from skip_value skip_fixed
    read_varint read_len read_tag read_uvarint read_from group_of message_at gives_id admission_of on_limits topics_of first_long
    id_parts slots_of with_field set_place same_bytes is_peer_id key_inside is_key from_bytes hash_of decode_protobuf type_of on_data
    on_total
grouped-carried ed =
    record { accepted = refl; placed = record { start = 2; next = 118; found = refl; bytes = refl }; own = refl }

pub first-bytes : Bytes first
unfolding signature first all_up_to
first-bytes = upto-bytes first refl

pub grouped-bytes : Bytes grouped
unfolding signature grouped all_up_to
grouped-bytes = upto-bytes grouped refl

pub allowed : known_flags 2 ≡ true
unfolding known_flags
allowed = refl

pub two : Pair 2 true first first-id first_body grouped second-id grouped-body
two =
    record {
      known = allowed;
      first = first-carried;
      second = grouped-carried;
      comes = let c = first-carried V12 in carried-brought 2 V12 first_body 0 10 first c.accepted c.placed;
      bytes-first = first-bytes;
      bytes-second = grouped-bytes;
      differ = ids-differ;
    }

-- ---- the gateways pass over groups: a gets the first message, b both
-- their histories meet the premises
pub histories : MessageSet 2 messages × Premises messages (settings_a 2) calls_a_lem (start (settings_a 2))
    × Premises messages (settings_b 2) calls_b_lem (start (settings_b 2)) × Fair play (settings_a 2) (settings_b 2)
    × Alike (settings_a 2) (settings_b 2)
histories = (message-set two, premises_a two, premises_b two, fair two, refl)

-- ---- a lacks the message with the group
abbrev gateway_a_lem : Gateway
gateway_a_lem = gateway_a 2 first first-id

abbrev gateway_b_lem : Gateway
gateway_b_lem = gateway_b 2 first first-id grouped second-id

a_misses : missing (mode_of gateway_b_lem.flags) topic gateway_a_lem gateway_b_lem.cache
    ≡ record { id = second-id; message = grouped; window = 0 } ∷ []
unfolding mode_of gateway_a gateway_b started is_new after_admit live inserted newest until held put signature first grouped
    is_signed slots_of with_field set_place role_of missing knows allows_unsigned holds among same_bytes walk_at walk_from
    read_field read_value skip_field passed skip_group skip_from skip_value skip_fixed read_varint read_len read_tag read_uvarint
    read_from group_of topics_of
a_misses = refl

-- asks for it, and b has it
a_wants : lacking gateway_a_lem (told_of topic 3 gateway_b_lem) ≡ second-id ∷ []
unfolding mode_of gateway_a gateway_b started is_new after_admit live inserted newest until held put signature first grouped
    is_signed slots_of with_field set_place role_of lacking knows allows_unsigned holds among same_bytes precedes_bytes
    gossip_ids in_order enter_id carrying walk_at walk_from read_field read_value skip_field passed skip_group skip_from skip_value
    skip_fixed read_varint read_len read_tag read_uvarint read_from group_of topics_of
a_wants = refl

b_has : having gateway_b_lem (second-id ∷ []) ≡ grouped ∷ []
unfolding mode_of gateway_b started is_new after_admit live inserted newest until held put signature first grouped is_signed
    slots_of with_field set_place role_of having get holds among same_bytes walk_at walk_from read_field read_value skip_field
    passed skip_group skip_from skip_value skip_fixed read_varint read_len read_tag read_uvarint read_from group_of
b_has = refl

pub a_lacks_the_second : lacked topic (at_a 2 true first_body) (at_b 2 first_body grouped-body)
    ≡ record { id = second-id; message = grouped; window = 0 } ∷ []
a_lacks_the_second = a_lacks two a_wants b_has a_misses

-- ---- one round: no call in it is refused, and both histories, with it, are under the premises
pub round_brings : CaughtUp messages (settings_a 2) (settings_b 2) calls_a_lem calls_b_lem (start (settings_a 2))
    (start (settings_b 2)) play 1 reading
round_brings = round_done two a_wants b_has a_misses

-- after it a lacks nothing
pub a_lacks-nothing-then : lacked topic (after_all all_a (start (settings_a 2))) (after_all all_b (start (settings_b 2)))
    ≡ []
a_lacks-nothing-then = none-lacking two a_wants b_has a_misses

-- ---- a gateway that got the message with the group alone
pub turned : Pair 2 true grouped second-id grouped-body first first-id first_body
turned =
    record {
      known = allowed;
      first = grouped-carried;
      second = first-carried;
      comes = let c = grouped-carried V12 in carried-brought 2 V12 grouped-body 0 10 grouped c.accepted c.placed;
      bytes-first = grouped-bytes;
      bytes-second = first-bytes;
      differ = λ e. ids-differ (sym e);
    }
