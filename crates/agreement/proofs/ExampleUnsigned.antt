-- An example with unsigned messages: two gateways that allow them, two messages without a signature, of which the
-- second is lost on its way to the first gateway, and histories that meet every premise, one of them without the host's
-- word. One round brings the second message.
use Rattle.std.specs.Prelude.{Some, ℕ, ◌≡◌, refl, true, false, List, [], ◌∷◌, get_or}
use Rattle.std.proofs.Common.{ap, arith}
use Rattle.basis.specs.declared.Edition.{Edition}
use Rattle.basis.specs.declared.Edition.TheVariants.{V12}
use Rattle.basis.specs.Dialect.{mode_of}
use Rattle.basis.specs.Bytes.{Bytes}
use Rattle.peer_id.specs.Uvarint.{read_uvarint, read_from, group_of}
use Rattle.utf8.specs.Utf8.{is_utf8, run}
use Rattle.protobuf.specs.Field.{read_tag, read_len, read_varint, skip_fixed, skip_field, read_value, read_field}
use Rattle.protobuf.specs.Walk.{walk_from, walk_at}
use Rattle.schema.specs.Schema.{role_of, rank, own_of}
use Rattle.schema.specs.Kinds.{to_depth, over_kinds}
use Rattle.schema.specs.Count.{text_count, counted}
use Rattle.schema.specs.Slots.{set_place, with_field, slots_of}
use Rattle.schema.specs.Accept.{body_records, accept_of}
use Rattle.ids.specs.Ids.{message_at}
use Rattle.admission.specs.Flags.{known_flags, allows_unsigned}
use Rattle.admission.specs.Admission.{topics_of, is_signed, vouched}
use Rattle.rows.specs.Rows.{newest}
use Rattle.rows.specs.Ids.{same_bytes, precedes_bytes, among}
use Rattle.rows.specs.IdsLaws.{same_self}
use Rattle.rows.specs.Store.{all_up_to}
use Rattle.seen.specs.Entries.{holds, until, inserted, live}
use Rattle.mcache.specs.Messages.{held, put, get, carrying, enter_id, in_order, gossip_ids}
use Rattle.node.specs.Gateway.{Gateway, started, is_new, after_admit, told_of, knows, lacking, having}
use Rattle.history.specs.History.{admit, after_all, brought, times_got, times_new}
use Rattle.history.specs.Samples.{unsigned, id_of, unsigned_body, unsigned-carried, start}
use Rattle.agreement.specs.Premises.{MessageSet, Alike, Premises}
use Rattle.agreement.specs.Round.{missing, lacked, Fair}
use Rattle.agreement.proofs.Once.{new-exactly-once}
use Rattle.agreement.specs.CatchUp.{CaughtUp}
use Rattle.agreement.specs.Example.{topic, play}
use Rattle.agreement.proofs.Example.{upto-bytes}
use Rattle.agreement.specs.Pair.{Pair, settings_a, settings_b, calls_a, at_a, at_b, gateway_a, gateway_b, reading}
use Rattle.agreement.proofs.Pair.{message-set, premises_a, premises_b, fair, a_lacks, round_done, none-lacking}
use Rattle.agreement.specs.ExampleUnsigned.{messages, calls_a_lem, calls_b_lem, all_a, all_b}

-- ---- the messages: the samples without a signature, with seqno 1 and 2
first-bytes : Bytes (unsigned 1)
unfolding unsigned all_up_to
first-bytes = upto-bytes (unsigned 1) refl

second-bytes : Bytes (unsigned 2)
unfolding unsigned all_up_to
second-bytes = upto-bytes (unsigned 2) refl

differ : id_of 1 ≡ id_of 2 → ⊥
differ e = let z : ◌≡◌ {A = ℕ} 1 2 = ap (λ (l : List ℕ). get_or l 38 0) e in absurd (omega arith)

-- without the word, too, the first comes in
pub wordless : (ed : Edition) (at : ℕ) → brought 1 (admit ed (unsigned_body 1) 0 false at) ≡ Some (unsigned 1)
unfolding unsigned unsigned_body brought vouched allows_unsigned is_signed slots_of with_field set_place accept_of body_records
    counted over_kinds to_depth text_count role_of rank own_of is_utf8 run walk_at walk_from read_field read_value skip_field
    skip_fixed read_varint read_len read_tag read_uvarint read_from group_of message_at
wordless ed at = refl

allowed : known_flags 1 ≡ true
unfolding known_flags
allowed = refl

pub two : Pair 1 false (unsigned 1) (id_of 1) (unsigned_body 1) (unsigned 2) (id_of 2) (unsigned_body 2)
two =
    record {
      known = allowed;
      first = unsigned-carried 1;
      second = unsigned-carried 2;
      comes = wordless V12 10;
      bytes-first = first-bytes;
      bytes-second = second-bytes;
      differ = differ;
    }

-- ---- the gateways allow them: a gets the first message, without the host's word; b gets both, with it
-- their histories meet the premises
pub histories : MessageSet 1 messages × Premises messages (settings_a 1) calls_a_lem (start (settings_a 1))
    × Premises messages (settings_b 1) calls_b_lem (start (settings_b 1)) × Fair play (settings_a 1) (settings_b 1)
    × Alike (settings_a 1) (settings_b 1)
histories = (message-set two, premises_a two, premises_b two, fair two, refl)

-- ---- what came without the word is new once
one-got : times_got 1 (unsigned 1) calls_a_lem ≡ 1
unfolding calls_a times_got
one-got = rw (wordless V12 10, same_self (unsigned 1))

pub new-at_a : times_new 1 (unsigned 1) calls_a_lem (start (settings_a 1)) ≡ 1
new-at_a = (new-exactly-once (message-set two) (premises_a two) (unsigned 1) (omega (arith, one-got))).0

-- ---- a lacks the second message
abbrev gateway_a_lem : Gateway
gateway_a_lem = gateway_a 1 (unsigned 1) (id_of 1)

abbrev gateway_b_lem : Gateway
gateway_b_lem = gateway_b 1 (unsigned 1) (id_of 1) (unsigned 2) (id_of 2)

a_misses : missing (mode_of gateway_b_lem.flags) topic gateway_a_lem gateway_b_lem.cache
    ≡ record { id = id_of 2; message = unsigned 2; window = 0 } ∷ []
unfolding gateway_a gateway_b started is_new after_admit live inserted newest until held put unsigned is_signed slots_of
    with_field set_place role_of missing knows allows_unsigned holds among same_bytes walk_at walk_from read_field read_value
    skip_field skip_fixed read_varint read_len read_tag read_uvarint read_from group_of topics_of
a_misses = refl

-- asks for it, and b has it
a_wants : lacking gateway_a_lem (told_of topic 3 gateway_b_lem) ≡ id_of 2 ∷ []
unfolding gateway_a gateway_b started is_new after_admit live inserted newest until held put unsigned is_signed slots_of
    with_field set_place role_of lacking knows allows_unsigned holds among same_bytes precedes_bytes gossip_ids in_order enter_id
    carrying walk_at walk_from read_field read_value skip_field skip_fixed read_varint read_len read_tag read_uvarint read_from
    group_of topics_of
a_wants = refl

b_has : having gateway_b_lem (id_of 2 ∷ []) ≡ unsigned 2 ∷ []
unfolding gateway_b started is_new after_admit live inserted newest until held put unsigned is_signed slots_of with_field
    set_place role_of having get holds among same_bytes walk_at walk_from read_field read_value skip_field skip_fixed read_varint
    read_len read_tag read_uvarint read_from group_of
b_has = refl

pub a_lacks_the_second : lacked topic (at_a 1 false (unsigned_body 1)) (at_b 1 (unsigned_body 1) (unsigned_body 2))
    ≡ record { id = id_of 2; message = unsigned 2; window = 0 } ∷ []
a_lacks_the_second = a_lacks two a_wants b_has a_misses

-- ---- one round: no call in it is refused, and both histories, with it, are under the premises
pub round_brings : CaughtUp messages (settings_a 1) (settings_b 1) calls_a_lem calls_b_lem (start (settings_a 1))
    (start (settings_b 1)) play 1 reading
round_brings = round_done two a_wants b_has a_misses

-- after it a lacks nothing
pub a_lacks-nothing-then : lacked topic (after_all all_a (start (settings_a 1))) (after_all all_b (start (settings_b 1)))
    ≡ []
a_lacks-nothing-then = none-lacking two a_wants b_has a_misses
