-- The premises of demand 3 are needed: for each, gateways for which that one does not hold, and what then goes wrong.
-- The theorem is named after the premise. The messages pass admission, but for the one of that premise; that the other
-- premises hold is to be seen from the figures, and is not stated. 65,536 bytes are more than a reply needs: 61,485 are
-- enough for fifteen messages.
use Prim.Native.Nat.{ℕ, zero, suc, ◌-◌, ◌^◌, ◌≤◌, ◌<◌, min}
use Rattle.std.specs.Prelude.{Result, Ok, Err, ◌≡◌, Bool, false, length, get_or, replicate}
use Rattle.std.proofs.Math.Path.{refl, ap, ap₂}
use Rattle.std.proofs.Common.{◌∙◌, arith, lt-ltb, le-ltb}
use Rattle.std.proofs.Math.Bool.{true}
use mathlib.Core.List.{List, [], ◌∷◌}
use Rattle.std.proofs.lemmas.List.{length-replicate, get_or-replicate}
use Rattle.std.proofs.lemmas.Bool.{lt-leb}
use Rattle.basis.specs.declared.Mode.{Mode}
use Rattle.basis.specs.declared.Mode.TheVariants.{Plain, Groups}
use Rattle.basis.specs.declared.Edition.{Edition}
use Rattle.basis.specs.declared.Edition.TheVariants.{V11, V12}
use Rattle.basis.specs.declared.Fault.{Fault}
use Rattle.basis.specs.Dialect.{mode_of, spoken}
use Rattle.basis.specs.Cases.{either}
use Rattle.basis.specs.Writing.{answer}
use Rattle.peer_id.specs.Uvarint.{uvarint, bytes_of, read_uvarint, read_from, group_of}
use Rattle.peer_id.specs.PeerId.{hash_of, from_bytes}
use Rattle.key.specs.Decode.{type_of, on_total, on_data, decode_protobuf}
use Rattle.protobuf.specs.declared.WireError.TheVariants.{UnsupportedWireType}
use Rattle.protobuf.specs.Refusal.{standing}
use Rattle.protobuf.specs.Field.{read_tag, read_len, read_varint, skip_fixed, skip_value, passed, skip_from, skip_group}
use Rattle.protobuf.specs.Field.{skip_field, read_value, read_field}
use Rattle.protobuf.specs.Walk.{walk_from, walk_at, between}
use Rattle.protobuf.specs.Encode.{tag, bytes_field}
use Rattle.utf8.specs.Utf8.{is_utf8, run}
use Rattle.schema.specs.Schema.{role_of, rank, own_of}
use Rattle.schema.specs.Kinds.{to_depth, over_kinds}
use Rattle.schema.specs.Count.{text_count, counted}
use Rattle.schema.specs.Slots.{set_place, with_field, slots_of}
use Rattle.schema.specs.declared.Kind.TheVariants as kind
use Rattle.schema.specs.Spots.{spot_in}
use Rattle.schema.specs.Accept.{body_records, accept_of}
use Rattle.ids.specs.Ids.{message_at, id_parts}
use Rattle.admission.specs.declared.Unfit.{Unfit}
use Rattle.admission.specs.declared.Unfit.TheVariants.{MissingSignature, NotPeerId}
use Rattle.admission.specs.Flags.{allows_unsigned}
use Rattle.admission.specs.Admission.{topics_of, first_long, on_limits, is_key, key_inside, is_peer_id, admission_of}
use Rattle.admission.specs.Admission.{is_signed}
use Rattle.admission.specs.Admission.{vouched, gives_id}
use Rattle.admission.specs.AdmissionLaws.{vouched-same}
use Rattle.admission.specs.Told.{unfit_told}
use Rattle.rows.specs.Ids.{same_bytes, among}
use Rattle.rows.specs.Rows.{newest}
use Rattle.node.specs.declared.AdmitError.TheVariants as admit-error
use Rattle.node.specs.declared.AdvertiseError.TheVariants as advertise-error
use Rattle.node.specs.declared.AskError.TheVariants as ask-error
use Rattle.node.specs.declared.BeatError.TheVariants as beat-error
use Rattle.node.specs.declared.ServeError.TheVariants as serve-error
use Rattle.node.specs.Parts.{at_path, once_after, without, fitting}
use Rattle.node.specs.PartsLaws.{fitting-stop}
use Rattle.seen.specs.Entries.{holds, until, inserted, live}
use Rattle.mcache.specs.declared.MessageCache.{MessageCache}
use Rattle.mcache.specs.Messages.{held, put, shift, get, carrying, enter_id, in_order, gossip_ids}
use Rattle.node.specs.declared.Node.{Node}
use Rattle.node.specs.Gateway.{Gateway, started, marked, is_new, after_admit, after_beat, told_of, knows, lacking, having}
use Rattle.node.specs.State.{gateway_in, rises_from}
use Rattle.node.specs.Calls.{on_lent, lent_of, planned, no, admit_answer, beat_answer, advertise_bytes, advertise_answer}
use Rattle.node.specs.Calls.{ask_bytes, ask_answer}
use Rattle.node.specs.Calls.{wanted, unwanted_in, remaining, rows_for, cached_of, room_of, served_of, reply_to, serve_number}
use Rattle.node.specs.Calls.{serve_answer}
use Rattle.history.specs.History.{State, gateway_of, Settings, Call, admit, heartbeat, advertise, ask, serve}
use Rattle.history.specs.History.{explain, plan_in, after, after_all, refusal_at, brought, brings}
use Rattle.history.specs.History.{is_new as newAnswer, times}
use Rattle.history.specs.History.{times_new, admits}
use Rattle.history.specs.Laws.{started_by}
use Rattle.history.proofs.Laws.{after-append, history_keeps, fresh-starts, refused-stays, after-flags, history_flags}
use Rattle.history.proofs.Laws.{brings-exactly, fresh_keeps, fresh-flags}
use Rattle.history.specs.Samples.{signature, message, unsigned, id_of, unsigned_body, message-carried}
use Rattle.outputs.specs.Replied.{wrote}
use Rattle.agreement.specs.Round.{missing, lacked, Play, onward, Fair, fair-onward, reply_of}
use Rattle.agreement.specs.Round.{served_count, asker_round, teller_round, asker_rounds}
use Rattle.agreement.specs.Holding.{Holding}
use Rattle.agreement.proofs.Holding.{holding-fresh}
use Rattle.agreement.proofs.Played.{one-replied, one_round}
use Rattle.agreement.proofs.CatchUp.{teller-stays}
use Rattle.agreement.specs.Fifteen.{longest-field, some_fit, longest-fit}
use Rattle.agreement.specs.Example.{second-id, settings_a_lem, calls_b_lem, play}
use Rattle.agreement.proofs.Example.{fresh_a, fresh_b, fair_for}
use Rattle.agreement.proofs.ExampleRound.{a_lacks_the_second, request-bytes}
use Rattle.agreement.specs.ExampleRound.{at_a_lem as lacking-a, at_b as holding-it}
use Rattle.agreement.specs.Pair.{gateway_a}
use Rattle.agreement.proofs.Pair.{a_is, holding_a}
use Rattle.agreement.proofs.ExampleUnsigned.{two as unsigned-two}
use Rattle.agreement.specs.ExampleGroups.{grouped, grouped-body}
use Rattle.agreement.proofs.ExampleGroups.{turned as grouped-alone}
use Rattle.agreement.specs.Needed.{topic, with, NewTwice, other_message, NeverNew, Unanswered, stranger, stranger_body}
use Rattle.agreement.specs.Needed.{NeverArrives, asker, teller, group-teller, Apart, Untold, reply_with, asker_with}
use Rattle.agreement.specs.Needed.{teller_with, Withheld, unwanted_body}

-- ---- the small messages of the samples
-- they pass admission, under these ids
pub admissible : (n : ℕ) → gives_id 0 (message n) (id_of n) ≡ true
admissible n = (message-carried n V11).own

-- ---- the set is no larger than max_seen
-- two messages and room for one id: the second drives the first out, which is then new again
pub needs_set-seen : NewTwice 1 3 (started 100 1 2 4 0) (with 2 2 (with 1 1 (started 100 1 2 4 0)))
unfolding signature message is_signed slots_of with_field set_place role_of walk_at walk_from read_field read_value skip_field skip_fixed
    read_varint read_len read_tag read_uvarint read_from group_of started is_new after_admit holds among same_bytes live inserted
    newest until held put
needs_set-seen = record { first = refl; again = refl }

-- ---- admitting set members only
-- the set is message 1 alone and has room; a message from outside it drives the first out, which is then new again
pub needs_members : (length (message 1 ∷ []) ≡ 1) × (among (message 2) (message 1 ∷ []) ≡ false)
    × NewTwice 1 3 (started 100 1 2 4 0) (with 2 2 (with 1 1 (started 100 1 2 4 0)))
unfolding message among same_bytes
needs_members = (refl, refl, needs_set-seen)

-- ---- readings are less than ttl after the first
-- at ttl after the first reading its id is cleaned up, and the message is new again
pub needs_within-ttl : NewTwice 1 101 (started 100 4 2 4 0)
    (with 1 1 (started 100 4 2 4 0))
unfolding signature message is_signed slots_of with_field set_place role_of walk_at walk_from read_field read_value skip_field skip_fixed
    read_varint read_len read_tag read_uvarint read_from group_of started is_new after_admit holds among same_bytes live inserted
    newest until held put
needs_within-ttl = record { first = refl; again = refl }

-- ---- readings are below 2^64 - 1
-- an expiry stops at 2^64 - 1, which is at most that reading: the message is new again at once
pub needs_below_last : NewTwice (2 ^ 64 - 1) (2 ^ 64 - 1) (started 100 4 2 4 0)
    (with (2 ^ 64 - 1) 1 (started 100 4 2 4 0))
unfolding signature message is_signed slots_of with_field set_place role_of walk_at walk_from read_field read_value skip_field skip_fixed
    read_varint read_len read_tag read_uvarint read_from group_of started is_new after_admit holds among same_bytes live inserted
    newest until held put
needs_below_last = record { first = refl; again = refl }

-- ---- both nodes fresh
-- an id that was seen before the history: its message, got for the first time, is a duplicate
pub needs-fresh :
    is_new 1 (message 1) (id_of 1)
    (record {
      ttl = 100;
      max_seen = 4;
      history_len = 2;
      max_messages = 4;
      flags = 0;
      clock = 0;
      seen = record { id = marked true (id_of 1); expiry = 100 } ∷ [];
      cache = [];
    })
    ≡ false
unfolding signature message is_signed slots_of with_field set_place role_of walk_at walk_from read_field read_value skip_field skip_fixed
    read_varint read_len read_tag read_uvarint read_from group_of is_new holds among same_bytes live
needs-fresh = refl

-- ---- different messages of the set have different ids
-- the same from and seqno, and data beside them: another message with the same id; it is not new, and the first is what is
-- served in its place
pub needs_ids-differ : NeverNew (message 1) other_message (id_of 1) (started 100 4 2 4 0)
unfolding signature message is_signed slots_of with_field set_place role_of walk_at walk_from read_field read_value skip_field skip_fixed
    read_varint read_len read_tag read_uvarint read_from group_of started is_new after_admit holds among live inserted newest
    until held put having get counted over_kinds to_depth text_count rank own_of is_utf8 run gives_id admission_of on_limits
    topics_of first_long id_parts same_bytes is_peer_id key_inside is_key from_bytes hash_of decode_protobuf type_of on_data on_total
needs_ids-differ = record { differ = refl; one-id = refl; same_id = refl; not_new = refl; not-kept = refl }

-- ---- every one passes admission
-- the same sender, seqno 1, topic `t`, and no signature, where none is allowed; and a body with it
unsigned-unfit : (flags : ℕ) → allows_unsigned flags ≡ false
    → admission_of flags (unsigned 1) true ≡ Err MissingSignature
unfolding unsigned admission_of id_parts slots_of with_field set_place walk_at walk_from read_field read_value skip_field
    skip_fixed read_varint read_len read_tag read_uvarint read_from group_of role_of is_peer_id from_bytes hash_of
unsigned-unfit flags off = rw off

-- a message that does not pass under some flags is answered new in no state of a gateway with these
module _ (flags : ℕ) (m : List ℕ) (why : Unfit) (u : admission_of flags m true ≡ Err why) where
  unfit_plan : (s : State) → (gateway_of s).flags ≡ flags → (ed : Edition) (body : List ℕ) (i : ℕ) (word : Bool) (at : ℕ)
      → brings flags m (admit ed body i word at) ≡ true
      → plan_in s ed body i word at ≡ on_lent (λ (f : Fault). no (Err (admit-error.Faulty f)))
      (lent_of s.node s.ids s.messages) (no (Err (admit-error.Unfit why)))
  unfolding planned gateway_in
  unfit_plan s same ed body i word at t =
      let p = (brings-exactly flags m ed body i word at).0 t in
      let q = p.2 in
      let e : admission_of s.node.cache.flags m word ≡ Err why =
      ap (λ (f : ℕ). admission_of f m word) same ∙ vouched-same flags m word p.0 ∙ u in
      let k : mode_of s.node.cache.flags ≡ mode_of flags = ap mode_of same in
      rw (k, p.1, k, q.found, q.bytes, e)

  not_new : (s : State) (at : ℕ) (l : Result (Unit {0}) Fault) → newAnswer (admit_answer s.node s.ids at
      (on_lent (λ (f : Fault). no (Err (admit-error.Faulty f))) l (no (Err (admit-error.Unfit why))))) ≡ 0
  not_new s at (Ok tt) = refl
  not_new s at (Err f) = refl

  never-new : (calls : List Call) (s : State) → (gateway_of s).flags ≡ flags → times_new flags m calls s ≡ 0
  unfolding times
  never-new [] s same = refl
  never-new (admit ed body i word at ∷ cs) s same =
      let c = admit ed body i word at in
      let r = never-new cs (after c s) (after-flags c s ∙ same) in
      either (brings flags m c)
      (λ t. rw (t, unfit_plan s same ed body i word at t, not_new s at (lent_of s.node s.ids s.messages), r))
      (λ t. rw (t, r))
  never-new (heartbeat at ∷ cs) s same =
      rw (never-new cs (after (heartbeat at) s) (after-flags (heartbeat at) s ∙ same))
  never-new (advertise name windows out ∷ cs) s same =
      let c = advertise name windows out in rw (never-new cs (after c s) (after-flags c s ∙ same))
  never-new (ask ed body out ∷ cs) s same =
      let c = ask ed body out in rw (never-new cs (after c s) (after-flags c s ∙ same))
  never-new (serve ed body second out ∷ cs) s same =
      let c = serve ed body second out in rw (never-new cs (after c s) (after-flags c s ∙ same))
  never-new (explain id name windows ∷ cs) s same =
      let c = explain id name windows in rw (never-new cs (after c s) (after-flags c s ∙ same))

unanswered : (flags : ℕ) (m body : List ℕ) (why : Unfit) → admission_of flags m true ≡ Err why
    → ((ed : Edition) (at : ℕ) → brings flags m (admit ed body 0 true at) ≡ true)
    → Unanswered flags (unfit_told why).number m body
unanswered flags m body why u b =
    record {
      comes_in = b;
      never-new = never-new flags m why u;
      refused = λ {x} {s} f same before ed at.
          let e = unfit_plan flags m why u (after_all before s) (history_flags before f ∙ same) ed body 0 true at
          (b ed at) in
          rw (e, (history_keeps before f).fine);
    }

unsigned-brought : (flags : ℕ) (ed : Edition) (at : ℕ)
    → brings flags (unsigned 1) (admit ed (unsigned_body 1) 0 true at) ≡ true
unfolding unsigned unsigned_body brought vouched accept_of body_records counted over_kinds to_depth text_count role_of rank
    own_of is_utf8 run walk_at walk_from read_field read_value skip_field skip_fixed read_varint read_len read_tag read_uvarint
    read_from group_of message_at same_bytes
unsigned-brought flags ed at = refl

pub needs_admissible : (flags : ℕ) → allows_unsigned flags ≡ false → Unanswered flags 25 (unsigned 1) (unsigned_body 1)
needs_admissible flags off =
    unanswered flags (unsigned 1) (unsigned_body 1) MissingSignature (unsigned-unfit flags off) (unsigned-brought flags)

-- the same of a host's name, `gate`, as the sender of a message that is else as the others are, by 34, under all flags
stranger-unfit : (flags : ℕ) → admission_of flags stranger true ≡ Err NotPeerId
unfolding signature admission_of id_parts slots_of with_field set_place walk_at walk_from read_field read_value skip_field
    skip_fixed read_varint read_len read_tag read_uvarint read_from group_of role_of is_peer_id from_bytes hash_of
stranger-unfit flags = refl

stranger-brought : (flags : ℕ) (ed : Edition) (at : ℕ) → brings flags stranger (admit ed stranger_body 0 true at) ≡ true
unfolding signature brought vouched accept_of body_records counted over_kinds to_depth text_count role_of rank own_of is_utf8
    run walk_at walk_from read_field read_value skip_field skip_fixed read_varint read_len read_tag read_uvarint read_from group_of
    message_at same_bytes
stranger-brought flags ed at = refl

pub needs_peer_id : (flags : ℕ) → Unanswered flags 34 stranger stranger_body
needs_peer_id flags =
    unanswered flags stranger stranger_body NotPeerId (stranger-unfit flags) (stranger-brought flags)

-- ---- both nodes set alike
asker-is : gateway_of asker ≡ started_by settings_a_lem
asker-is = fresh-starts fresh_a

-- the teller holds a message alone, which the asker refuses by a number
module _ {set : List (List ℕ)} {y : Settings} {first past left : ℕ} {rs : List ℕ} {got : List (List ℕ)} {b : State}
    (hb : Holding set y first past rs left got b) (few : length set ≤ 2) (wide : y.history_len ≤ 3) {g : Gateway}
    (b_is : gateway_of b ≡ g) (m id : List ℕ) (wants : lacking (started_by settings_a_lem) (told_of topic 3 g) ≡ id ∷ [])
    (has : having g (id ∷ []) ≡ m ∷ [])
    (misses : missing (mode_of g.flags) topic (started_by settings_a_lem) g.cache
    ≡ record { id = id; message = m; window = 0 } ∷ []) (number : ℕ) (some : 0 < number)
    (refuses : (ed : Edition) (at : ℕ) → refusal_at asker (admit ed (bytes_field 2 m) 0 true at) ≡ number) where
  holding-asker : Holding set settings_a_lem 0 0 [] 0 [] asker
  unfolding rises_from
  holding-asker = holding-fresh [] 0 fresh_a few few
      (record { rises = refl; within-ttl = λ i h. absurd (omega arith); below_last = λ i h. absurd (omega arith) })
      (omega arith)

  mixed_fair : Fair play settings_a_lem y
  mixed_fair = fair_for settings_a_lem y (omega arith) wide

  asker-lacks : lacked topic asker b ≡ record { id = id; message = m; window = 0 } ∷ []
  asker-lacks = ap₂ (λ (a h : Gateway). missing (mode_of h.flags) topic a h.cache) asker-is b_is ∙ misses

  has_it : having (gateway_of b) (id ∷ []) ≡ m ∷ []
  has_it = ap (λ (h : Gateway). having h (id ∷ [])) b_is ∙ has

  -- rounds with such buffers
  module _ (p : Play) (fair : Fair p settings_a_lem y) (t : p.topic ≡ topic) (w : p.windows ≡ 3) where
    asked_for : lacking (gateway_of asker) (told_of p.topic p.windows (gateway_of b)) ≡ id ∷ []
    asked_for = rw (t, w, asker-is, b_is) wants

    one-stays : (at : ℕ → ℕ) → after_all (asker_round p at asker b) asker ≡ asker
    unfolding after_all after
    one-stays at =
        ap (λ (cs : List Call). after_all cs asker) (one_round holding-asker hb p fair m id asked_for has_it at)
        ∙ refused-stays (admit (p.admit_edition 0 0) (bytes_field 2 m) 0 true (at 0)) asker
        (λ z. let y = refuses (p.admit_edition 0 0) (at 0) in absurd (omega arith))

  told-stays : (p : Play) → after_all (teller_round p asker b) b ≡ b
  unfolding teller_round after_all after
  told-stays p = refl

  all_stay : (r : ℕ) (p : Play) → Fair p settings_a_lem y → p.topic ≡ topic → p.windows ≡ 3
      → (at : ℕ → ℕ → ℕ) → after_all (asker_rounds p r at asker b) asker ≡ asker
  unfolding asker_rounds after_all
  all_stay zero p fair t w at = refl
  all_stay (suc r) p fair t w at =
      let c = asker_round p (at 0) asker b in
      let u = after_all (teller_round p asker b) b in
      let next : State → State → List Call = λ s o. asker_rounds (onward p) r (λ k. at (suc k)) s o in
      after-append c (next (after_all c asker) u) asker
      ∙ ap₂ (λ (s o : State). after_all (next s o) s) (one-stays p fair t w (at 0)) (told-stays p)
      ∙ all_stay r (onward p) (fair-onward fair) t w (λ k. at (suc k))

  ever_stays : (r : ℕ) (at : ℕ → ℕ → ℕ) → after_all (asker_rounds play r at asker b) asker ≡ asker
  ever_stays r at = all_stay r play mixed_fair refl refl at

  served_it : reply_of play asker b ≡ bytes_field 2 m
  served_it = one-replied holding-asker hb play mixed_fair m id (asked_for play mixed_fair refl refl) has_it

  never_arrives : NeverArrives play number m id asker b
  never_arrives =
      record {
        asks = asked_for play mixed_fair refl refl;
        served = served_it;
        refused = λ ed at.
            ap (λ (body : List ℕ). refusal_at asker (admit ed body 0 true at)) served_it ∙ refuses ed at;
        stays = ever_stays;
        lacks = λ r at.
            ap₂ (λ (s o : State). lacked topic s o) (ever_stays r at) (teller-stays play r at asker b) ∙ asker-lacks;
      }

-- ---- unsigned messages are allowed by both or by neither
-- the teller allows unsigned messages and holds one, and the asker does not allow them: 25
abbrev teller-gateway : Gateway
teller-gateway = gateway_a 1 (unsigned 1) (id_of 1)

asker-wants : lacking (started_by settings_a_lem) (told_of topic 3 teller-gateway) ≡ id_of 1 ∷ []
unfolding gateway_a started is_new after_admit live inserted newest until held put unsigned is_signed slots_of with_field
    set_place role_of lacking knows allows_unsigned holds among same_bytes gossip_ids in_order enter_id carrying walk_at
    walk_from read_field read_value skip_field skip_fixed read_varint read_len read_tag read_uvarint read_from group_of topics_of
asker-wants = refl

teller-has : having teller-gateway (id_of 1 ∷ []) ≡ unsigned 1 ∷ []
unfolding gateway_a started is_new after_admit live inserted newest until held put unsigned is_signed slots_of with_field
    set_place role_of having get holds among same_bytes walk_at walk_from read_field read_value skip_field skip_fixed read_varint
    read_len read_tag read_uvarint read_from group_of
teller-has = refl

asker_misses : missing (mode_of teller-gateway.flags) topic (started_by settings_a_lem) teller-gateway.cache
    ≡ record { id = id_of 1; message = unsigned 1; window = 0 } ∷ []
unfolding gateway_a started is_new after_admit live inserted newest until held put unsigned is_signed slots_of with_field
    set_place role_of missing knows allows_unsigned holds among same_bytes walk_at walk_from read_field read_value skip_field
    skip_fixed read_varint read_len read_tag read_uvarint read_from group_of topics_of
asker_misses = refl

-- what is served
body-written : bytes_field 2 (unsigned 1) ≡ unsigned_body 1
unfolding unsigned unsigned_body bytes_field tag uvarint bytes_of
body-written = refl

zero_off : allows_unsigned 0 ≡ false
unfolding allows_unsigned
zero_off = refl

one_on : allows_unsigned 1 ≡ true
unfolding allows_unsigned
one_on = refl

asker-refuses : (ed : Edition) (at : ℕ) → refusal_at asker (admit ed (bytes_field 2 (unsigned 1)) 0 true at) ≡ 25
unfolding after_all
asker-refuses ed at =
    ap (λ (body : List ℕ). refusal_at asker (admit ed body 0 true at)) body-written
    ∙ (needs_admissible 0 zero_off).refused fresh_a refl [] ed at

pub needs_alike : (allows_unsigned (gateway_of asker).flags ≡ false) × (allows_unsigned (gateway_of teller).flags ≡ true)
    × NeverArrives play 25 (unsigned 1) (id_of 1) asker teller
needs_alike = (
  ap allows_unsigned (fresh-flags fresh_a) ∙ zero_off,
  ap allows_unsigned (holding_a unsigned-two).held.flags ∙ one_on,
  never_arrives (holding_a unsigned-two) (omega arith) (omega arith) (a_is unsigned-two) (unsigned 1) (id_of 1)
      asker-wants teller-has asker_misses 25 (omega arith) asker-refuses,
)

-- ---- both are in one mode
-- the teller passes over groups and holds a message with one, and the asker reads in the first mode: 5
abbrev group-gateway : Gateway
group-gateway = gateway_a 2 grouped second-id

group-wants : lacking (started_by settings_a_lem) (told_of topic 3 group-gateway) ≡ second-id ∷ []
unfolding mode_of gateway_a started is_new after_admit live inserted newest until held put signature grouped is_signed
    slots_of with_field set_place role_of lacking knows allows_unsigned holds among same_bytes gossip_ids in_order enter_id
    carrying walk_at walk_from read_field read_value skip_field passed skip_group skip_from skip_value skip_fixed read_varint
    read_len read_tag read_uvarint read_from group_of topics_of
group-wants = refl

group-has : having group-gateway (second-id ∷ []) ≡ grouped ∷ []
unfolding mode_of gateway_a started is_new after_admit live inserted newest until held put signature grouped is_signed
    slots_of with_field set_place role_of having get holds among same_bytes walk_at walk_from read_field read_value skip_field
    passed skip_group skip_from skip_value skip_fixed read_varint read_len read_tag read_uvarint read_from group_of
group-has = refl

group_misses : missing (mode_of group-gateway.flags) topic (started_by settings_a_lem) group-gateway.cache
    ≡ record { id = second-id; message = grouped; window = 0 } ∷ []
unfolding mode_of gateway_a started is_new after_admit live inserted newest until held put signature grouped is_signed
    slots_of with_field set_place role_of missing knows allows_unsigned holds among same_bytes walk_at walk_from read_field
    read_value skip_field passed skip_group skip_from skip_value skip_fixed read_varint read_len read_tag read_uvarint read_from
    group_of topics_of
group_misses = refl

group-written : bytes_field 2 grouped ≡ grouped-body
unfolding signature grouped grouped-body bytes_field tag uvarint bytes_of
group-written = refl

zero-plain : mode_of 0 ≡ Plain
unfolding mode_of
zero-plain = refl

two-groups : mode_of 2 ≡ Groups
unfolding mode_of
two-groups = refl

-- type 3, after the tag at 46 in the message
plain-refuses : (ed : Edition) → accept_of (spoken Plain ed) grouped-body
    ≡ Err (standing (spot_in Plain (kind.Rpc ed) grouped-body) (UnsupportedWireType 3 47))
unfolding signature grouped grouped-body accept_of body_records counted over_kinds to_depth text_count role_of rank own_of
    is_utf8 run walk_at walk_from read_field read_value skip_field skip_value skip_fixed read_varint read_len read_tag read_uvarint
    read_from group_of
plain-refuses ed = refl

asker-plain : mode_of asker.node.cache.flags ≡ Plain
unfolding gateway_in
asker-plain = ap mode_of (fresh-flags fresh_a) ∙ zero-plain

group-refuses : (ed : Edition) (at : ℕ) → refusal_at asker (admit ed (bytes_field 2 grouped) 0 true at) ≡ 5
unfolding planned
group-refuses ed at = rw (group-written, (fresh_keeps fresh_a).fine, asker-plain, plain-refuses ed)

pub needs_one_mode : (mode_of (gateway_of asker).flags ≡ Plain) × (mode_of (gateway_of group-teller).flags ≡ Groups)
    × NeverArrives play 5 grouped second-id asker group-teller
needs_one_mode = (
  ap mode_of (fresh-flags fresh_a) ∙ zero-plain,
  ap mode_of (holding_a grouped-alone).held.flags ∙ two-groups,
  never_arrives (holding_a grouped-alone) (omega arith) (omega arith) (a_is grouped-alone) grouped second-id group-wants
      group-has group_misses 5 (omega arith) group-refuses,
)

-- ---- the set is no larger than max_messages
-- two messages and room for one: both gateways have seen both, and each holds the one that it got last
pub needs_set-cached : Apart 2 (with 2 2 (with 1 1 (started 100 4 2 1 0))) (with 2 1 (with 1 2 (started 100 4 2 1 0)))
    (id_of 2 ∷ []) (id_of 1 ∷ [])
unfolding signature message is_signed slots_of with_field set_place role_of walk_at walk_from read_field read_value skip_field skip_fixed
    read_varint read_len read_tag read_uvarint read_from group_of started is_new after_admit holds among same_bytes live inserted
    newest until held put missing knows allows_unsigned gossip_ids in_order enter_id carrying topics_of
needs_set-cached = record { a_lacks = refl; b_lacks = refl; a_tells = refl; b_tells = refl }

-- ---- fewer heartbeats than history_len
-- both got the message; after as many heartbeats as history_len one holds it no more, and tells of nothing
pub needs_few_heartbeats : Apart 2 (after_beat 3 (after_beat 2 (with 1 1 (started 100 4 2 4 0))))
    (with 1 1 (started 100 4 2 4 0)) [] (id_of 1 ∷ [])
unfolding signature message is_signed slots_of with_field set_place role_of walk_at walk_from read_field read_value skip_field skip_fixed
    read_varint read_len read_tag read_uvarint read_from group_of started is_new after_admit after_beat holds among same_bytes
    live inserted newest until held put shift missing knows allows_unsigned gossip_ids in_order enter_id carrying topics_of
needs_few_heartbeats = record { a_lacks = refl; b_lacks = refl; a_tells = refl; b_tells = refl }

-- ---- windows at least both history_lens
-- after one heartbeat the message is in the second window, and one window is told of: it is lacking, and not asked for
pub needs_windows : Untold (told_of topic 1 (after_beat 2 (with 1 1 (started 100 4 2 4 0)))) (started 100 4 2 4 0)
    (after_beat 2 (with 1 1 (started 100 4 2 4 0)))
unfolding signature message is_signed slots_of with_field set_place role_of walk_at walk_from read_field read_value skip_field skip_fixed
    read_varint read_len read_tag read_uvarint read_from group_of started is_new after_admit after_beat holds among same_bytes
    live inserted newest until held put shift missing knows allows_unsigned lacking gossip_ids in_order enter_id carrying
    topics_of
needs_windows = record { lacks = refl; asks = refl }

-- ---- no other call from an advertisement to the ask given it
-- the teller gets a message after it told: it is lacking, and not asked for
pub needs_undisturbed : Untold (told_of topic 2 (started 100 4 2 4 0)) (started 100 4 2 4 0)
    (with 1 1 (started 100 4 2 4 0))
unfolding signature message is_signed slots_of with_field set_place role_of walk_at walk_from read_field read_value skip_field skip_fixed
    read_varint read_len read_tag read_uvarint read_from group_of started is_new after_admit holds among same_bytes live inserted
    newest until held put missing knows allows_unsigned lacking gossip_ids in_order enter_id carrying topics_of
needs_undisturbed = record { lacks = refl; asks = refl }

-- ---- no second body is lent in a round
-- a round as those of Round, but for the second body that its serve is lent
module _ (p : Play) (second : List ℕ) (a b : State) where
  withheld : length (lacked p.topic a b) ≡ 1 → reply_with p second a b ≡ wrote 0 0 0 → Withheld p second a b
  unfolding admits after_all after
  withheld one none = record { lacks = one; answers = none; still = λ at. rw none }

-- without one it is the round
pub with_none : (p : Play) (a b : State) (at : ℕ → ℕ)
    → (asker_with p [] a b at ≡ asker_round p at a b) × (teller_with p [] a b ≡ teller_round p a b)
unfolding asker_round teller_round reply_of served_count
with_none p a b at = (refl, refl)

abbrev wanted_body : List ℕ
wanted_body = 26 ∷ 43 ∷ 18 ∷ 41 ∷ 10 ∷ 39 ∷ second-id

bodies-taken : (mode : Mode)
    → (accept_of (spoken mode V11) wanted_body ≡ Ok tt) × (accept_of (spoken mode V12) unwanted_body ≡ Ok tt)
unfolding accept_of body_records counted over_kinds to_depth text_count role_of rank own_of is_utf8 run walk_at walk_from
    read_field read_value skip_field skip_fixed read_varint read_len read_tag read_uvarint read_from group_of
bodies-taken mode = (refl, refl)

none_remain : (mode : Mode) → remaining mode wanted_body unwanted_body ≡ []
unfolding remaining wanted unwanted_in at_path once_after without among same_bytes walk_at walk_from read_field read_value
    skip_field skip_fixed read_varint read_len read_tag read_uvarint read_from group_of
none_remain mode = refl

none-cached : (c : MessageCache) (st : List ℕ) → cached_of c st [] ≡ []
unfolding cached_of rows_for
none-cached c st = refl

none-served : reply_with play unwanted_body lacking-a holding-it ≡ wrote 0 0 0
unfolding serve_answer
none-served =
    let mode = mode_of holding-it.node.cache.flags in
    rw (
      request-bytes,
      (history_keeps calls_b_lem fresh_b).fine,
      (bodies-taken mode).0,
      (bodies-taken mode).1,
      none_remain mode,
      none-cached holding-it.node.cache holding-it.messages,
    )

pub needs_no-idontwant : Withheld play unwanted_body lacking-a holding-it
needs_no-idontwant = withheld play unwanted_body lacking-a holding-it (ap length a_lacks_the_second) none-served

-- ---- the clock never falls
-- a message that would be taken, and a heartbeat, are refused by 31 at a reading before the clock
pub needs_rises : (n : Node) (ss cs : List ℕ) (ed : Edition) (body : List ℕ) (i at a e x y z w : ℕ)
    → lent_of n ss cs ≡ Ok tt → accept_of (spoken (mode_of n.cache.flags) ed) body ≡ Ok tt
    → message_at (mode_of n.cache.flags) body i ≡ Ok (a, e)
    → admission_of n.cache.flags (between body a e) true ≡ Ok ((x, y), (z, w)) → at < n.clock
    → (planned n ss cs ed body i true at ≡ no (Err (admit-error.ClockBack n.clock)))
    × (beat_answer n ss cs at ≡ Err (beat-error.ClockBack n.clock))
unfolding planned beat_answer
needs_rises n ss cs ed body i at a e x y z w fine ok there fit h = let t = lt-ltb at n.clock h in
    (rw (fine, ok, there, fit, t), rw (fine, t))

-- ---- the topic has at most 1,024 bytes
-- else the advertise is refused by 29
pub needs_topic-short : (n : Node) (ss cs out long : List ℕ) (windows : ℕ) → lent_of n ss cs ≡ Ok tt
    → 1024 < length long
    → advertise_answer n ss cs long windows out ≡ Err (advertise-error.TopicTooLong (length long))
unfolding advertise_answer
needs_topic-short n ss cs out long windows fine h = rw (fine, lt-ltb 1024 (length long) h)

-- ---- output buffers hold 65,536 bytes
-- an advertisement and a request that do not fit are refused by 12
pub needs_advert-room : (n : Node) (ss cs out topic : List ℕ) (windows : ℕ) → lent_of n ss cs ≡ Ok tt
    → length topic ≤ 1024 → length out < length (advertise_bytes n cs topic windows)
    → advertise_answer n ss cs topic windows out ≡ Err (advertise-error.Room (length (advertise_bytes n cs topic windows)))
unfolding advertise_answer answer
needs_advert-room n ss cs out topic windows fine short h =
    rw (fine, le-ltb 1024 (length topic) short, lt-leb (length (advertise_bytes n cs topic windows)) (length out) h)

pub needs_request-room : (n : Node) (ss cs out : List ℕ) (ed : Edition) (body : List ℕ) → lent_of n ss cs ≡ Ok tt
    → accept_of (spoken (mode_of n.cache.flags) ed) body ≡ Ok tt → length out < length (ask_bytes n ss body)
    → ask_answer n ss cs ed body out ≡ Err (ask-error.Room (length (ask_bytes n ss body)))
unfolding ask_answer answer
needs_request-room n ss cs out ed body fine ok h = rw (fine, ok, lt-leb (length (ask_bytes n ss body)) (length out) h)

-- fifteen messages fit 61,485 bytes
pub reply_room-enough : (ms : List (List ℕ)) → ((i : ℕ) → i < length ms → length (get_or ms i []) ≤ 4096)
    → min 15 (length ms) ≤ fitting 2 61485 ms
reply_room-enough ms each = some_fit 15 61485 ms each (omega arith)

-- and with one byte less fourteen of the longest are served in a round
fourteen_zeros : (k n : ℕ) → k ≡ 15 → n ≡ 4096 → fitting 2 61484 (replicate k (replicate {A = ℕ} n 0)) ≡ 14
fourteen_zeros k n h e =
    let m : List ℕ = replicate {A = ℕ} n 0 in
    let l = length-replicate k m in
    longest-fit 14 61484 (replicate k m) (λ i j. ap length (get_or-replicate k i m [] (omega arith))
    ∙ length-replicate {A = ℕ} n 0 ∙ e) (omega arith) (omega arith) (omega arith)

pub needs_reply_room : fitting 2 61484 (replicate 15 (replicate {A = ℕ} 4096 0)) ≡ 14
needs_reply_room = fourteen_zeros 15 4096 refl refl

-- with 4,098 bytes the first of the longest does not fit, and the serve is refused by 12
pub needs_reply_room-first : (m : List ℕ) (ms : List (List ℕ)) (out : List ℕ) → length m ≡ 4096 → length out ≡ 4098
    → (reply_to (m ∷ ms) out ≡ Err (serve-error.Room 4099)) × (serve_number (reply_to (m ∷ ms) out) ≡ 12)
unfolding served_of room_of
needs_reply_room-first m ms out h k =
    let r : min (length out) 65536 ≡ 4098 = omega arith in
    let f = longest-field m h in
    let s : served_of (m ∷ ms) out ≡ 0 = rw r (fitting-stop 2 4098 m ms (omega arith)) in
    (rw (s, f), rw s)
