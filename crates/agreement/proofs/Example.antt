-- An example: two gateways, two messages, of which one is lost on its way to the first gateway, and histories that meet
-- every premise, in which both editions are spoken. How often each message is got, new and a duplicate is computed for
-- it; a round between the two follows in ExampleRound.
use Rattle.std.specs.Prelude.{ℕ, zero, suc, ◌+◌, ◌-◌, ◌^◌, ◌≤◌, ◌<◌, ◌≡◌, refl, true, List, [], ◌∷◌, length, get_or}
use Rattle.std.specs.Prelude.{replicate, leb}
use Rattle.std.proofs.Common.{sym, ap, ◌∙◌, arith, leb-true}
use Rattle.std.proofs.Math.Path.{subst}
use Rattle.std.proofs.Math.Bool.{or-true}
use Rattle.std.proofs.lemmas.List.{length-replicate}
use Rattle.basis.specs.declared.Edition.{Edition}
use Rattle.basis.specs.declared.Edition.TheVariants.{V11, V12}
use Rattle.basis.specs.Cases.{either, clash, both}
use Rattle.basis.specs.Bytes.{Bytes}
use Rattle.peer_id.specs.Uvarint.{read_uvarint, read_from, group_of}
use Rattle.utf8.specs.Utf8.{is_utf8, run}
use Rattle.protobuf.specs.Field.{read_tag, read_len, read_varint, skip_fixed, skip_field, read_value, read_field}
use Rattle.protobuf.specs.Walk.{walk_from, walk_at}
use Rattle.schema.specs.Schema.{role_of, rank, own_of}
use Rattle.schema.specs.Kinds.{to_depth, over_kinds}
use Rattle.schema.specs.Count.{text_count, counted}
use Rattle.schema.specs.Slots.{set_place, with_field, slots_of}
use Rattle.schema.specs.Accept.{body_records, accept_of}
use Rattle.ids.specs.Ids.{message_at, id_parts}
use Rattle.peer_id.specs.PeerId.{hash_of, from_bytes}
use Rattle.key.specs.Decode.{type_of, on_total, on_data, decode_protobuf}
use Rattle.admission.specs.Flags.{known_flags}
use Rattle.admission.specs.Admission.{topics_of, first_long, on_limits, is_key, key_inside, is_peer_id, admission_of, is_signed}
use Rattle.admission.specs.Admission.{gives_id}
use Rattle.admission.specs.AdmissionLaws.{one-id}
use Rattle.rows.specs.Rows.{newest}
use Rattle.rows.specs.Ids.{same_bytes, among}
use Rattle.rows.specs.IdsLaws.{same_self, same_equal}
use Rattle.rows.specs.Store.{all_up_to}
use Rattle.seen.specs.Entries.{holds, until, inserted, live}
use Rattle.mcache.specs.Messages.{held, put, shift}
use Rattle.mcache.specs.State.{legal}
use Rattle.node.specs.Calls.{max_rpc_size}
use Rattle.node.specs.Gateway.{started, is_new, after_admit, after_beat}
use Rattle.node.specs.State.{legal_settings, rises_from}
use Rattle.history.specs.History.{State, Settings, Fresh, Call, readings, beats as beatsIn, times_got}
use Rattle.history.specs.History.{times_new, times_duplicate}
use Rattle.history.specs.Laws.{started_by}
use Rattle.history.specs.Script.{Carries, Act, calls_of, got_in, new_in, Written, nothing, got, beaten}
use Rattle.history.proofs.ScriptLaws.{fresh-acted, fresh-new}
use Rattle.history.specs.Samples.{signature, start, start-fresh}
use Rattle.agreement.specs.Premises.{MessageSet, Members, Alike, Clock, Premises}
use Rattle.agreement.specs.Round.{Fair}
use Rattle.agreement.specs.Script.{in_set}
use Rattle.agreement.proofs.Script.{script_members}
use Rattle.agreement.specs.Example.{first, second, messages, first-id, second-id, first_body, second-body}
use Rattle.agreement.specs.Example.{settings_a_lem, settings_b_lem, calls_a_lem, calls_b_lem, script_a, script_b}
use Rattle.agreement.specs.Example.{buffer, play, Counts}

-- ---- the messages
pub first-carried : (ed : Edition) → Carries 0 ed first_body first first-id
unfolding signature first first_body accept_of body_records counted over_kinds to_depth text_count role_of rank own_of is_utf8
    run walk_at walk_from read_field read_value skip_field skip_fixed read_varint read_len read_tag read_uvarint read_from group_of
    message_at gives_id admission_of on_limits topics_of first_long id_parts slots_of with_field set_place same_bytes is_peer_id
    key_inside is_key from_bytes hash_of decode_protobuf type_of on_data on_total
first-carried ed =
    record { accepted = refl; placed = record { start = 2; next = 121; found = refl; bytes = refl }; own = refl }

pub second-carried : (ed : Edition) → Carries 0 ed second-body second second-id
unfolding signature second second-body accept_of body_records counted over_kinds to_depth text_count role_of rank own_of is_utf8
    run walk_at walk_from read_field read_value skip_field skip_fixed read_varint read_len read_tag read_uvarint read_from group_of
    message_at gives_id admission_of on_limits topics_of first_long id_parts slots_of with_field set_place same_bytes is_peer_id
    key_inside is_key from_bytes hash_of decode_protobuf type_of on_data on_total
second-carried ed =
    record { accepted = refl; placed = record { start = 2; next = 119; found = refl; bytes = refl }; own = refl }

-- ---- what a test of all numbers of a list says of each
upto-each : (most : ℕ) (l : List ℕ) → all_up_to most l ≡ true → (i : ℕ) → get_or l i 0 ≤ most
unfolding all_up_to
upto-each most [] h i = omega arith
upto-each most (n ∷ l) h zero = leb-true n most (both (leb n most) (all_up_to most l) h).0
upto-each most (n ∷ l) h (suc i) = upto-each most l (both (leb n most) (all_up_to most l) h).1 i

pub upto-bytes : (l : List ℕ) → all_up_to 255 l ≡ true → Bytes l
upto-bytes l h i = let e = upto-each 255 l h i in omega arith

-- ---- two messages that give two ids are a set as the premises have it
module _ (flags : ℕ) (m k i j : List ℕ) (bytes-m : Bytes m) (bytes-k : Bytes k) (own-m : gives_id flags m i ≡ true)
    (own-k : gives_id flags k j ≡ true) (differ : i ≡ j → ⊥) where
  of_two : (P : List ℕ → Type 0) → P m → P k → (o : List ℕ) → among o (m ∷ k ∷ []) ≡ true → P o
  unfolding among
  of_two P p q o h =
      either (same_bytes m o) (λ t. subst P (same_equal m o t) p)
      (λ t. either (same_bytes k o) (λ u. subst P (same_equal k o u) q)
      (λ u. clash (let z = simp (t, u) at h in cc)))

  -- no id is that of both
  not-both : {A : Type 0} (id : List ℕ) → gives_id flags m id ≡ true → gives_id flags k id ≡ true → A
  not-both id g h = absurd (differ (sym (one-id flags m id i g own-m) ∙ one-id flags k id j h own-k))

  pub two-set : MessageSet flags (m ∷ k ∷ [])
  two-set =
      record {
        bytes = of_two Bytes bytes-m bytes-k;
        admissible = of_two (λ (o : List ℕ). (id : List ℕ) × (gives_id flags o id ≡ true)) (i, own-m) (j, own-k);
        ids-differ = λ o l id a b.
            of_two (λ (o : List ℕ). gives_id flags o id ≡ true → gives_id flags l id ≡ true → o ≡ l)
            (of_two (λ (l : List ℕ). gives_id flags m id ≡ true → gives_id flags l id ≡ true → m ≡ l) (λ g h. refl)
            (λ g h. not-both id g h) l b)
            (of_two (λ (l : List ℕ). gives_id flags k id ≡ true → gives_id flags l id ≡ true → k ≡ l)
            (λ g h. not-both id h g) (λ g h. refl) l b)
            o a;
      }

-- each of them is in it
pub two_in : (m k : List ℕ) → (among m (m ∷ k ∷ []) ≡ true) × (among k (m ∷ k ∷ []) ≡ true)
unfolding among
two_in m k = (rw (same_self m), rw (same_self k) (or-true (same_bytes m k)))

first-bytes : Bytes first
unfolding signature first all_up_to
first-bytes = upto-bytes first refl

second-bytes : Bytes second
unfolding signature second all_up_to
second-bytes = upto-bytes second refl

pub ids-differ : first-id ≡ second-id → ⊥
ids-differ e = let z : ◌≡◌ {A = ℕ} 0x1e 0xd7 = ap (λ (l : List ℕ). get_or l 6 0) e in absurd (omega arith)

pub first_in : among first messages ≡ true
unfolding messages
first_in = (two_in first second).0

pub second_in : among second messages ≡ true
unfolding messages
second_in = (two_in first second).1

pub message-set : MessageSet 0 messages
unfolding messages
message-set = two-set 0 first second first-id second-id first-bytes second-bytes (first-carried V11).own
    (second-carried V11).own ids-differ

-- ---- the gateways
pub fresh_a : Fresh settings_a_lem (start settings_a_lem)
unfolding legal_settings legal known_flags
fresh_a = start-fresh settings_a_lem (omega arith) refl

pub fresh_b : Fresh settings_b_lem (start settings_b_lem)
unfolding legal_settings legal known_flags
fresh_b = start-fresh settings_b_lem (omega arith) refl

-- ---- their calls: a gets the first message twice, and the second is lost on its way; b gets the second, the first,
-- and the second again
pub calls_a-written : calls_of script_a ≡ calls_a_lem
unfolding calls_of calls_a_lem
calls_a-written = refl

pub calls_b-written : calls_of script_b ≡ calls_b_lem
unfolding calls_of calls_b_lem
calls_b-written = refl

pub written_a : Written 0 0 script_a
written_a = got 0 10 (first-carried V11) (omega arith) (got 10 12 (first-carried V12) (omega arith) nothing)

pub written_b : Written 0 0 script_b
written_b =
    got 0 7 (second-carried V12) (omega arith)
    (got 7 8 (first-carried V12) (omega arith)
    (beaten 8 9 (omega arith) (got 9 11 (second-carried V11) (omega arith) nothing)))

inside_a : in_set messages script_a ≡ true
unfolding in_set
inside_a = simp first_in

inside_b : in_set messages script_b ≡ true
unfolding in_set
inside_b = simp (first_in, second_in)

-- ---- their histories meet the premises
pub clock-by : (x : Settings) (rs : List ℕ) (most : ℕ) → rises_from 0 rs ≡ true → all_up_to most rs ≡ true
    → most < get_or rs 0 0 + x.ttl → most < 2 ^ 64 - 1 → Clock x rs
clock-by x rs most up upto short small =
    record {
      rises = up;
      within-ttl = λ i h. let e = upto-each most rs upto i in omega arith;
      below_last = λ i h. let e = upto-each most rs upto i in omega arith;
    }

two-messages : length messages ≡ 2
unfolding messages
two-messages = refl

clock_a : Clock settings_a_lem (readings calls_a_lem)
unfolding calls_a_lem readings rises_from all_up_to
clock_a = clock-by settings_a_lem (readings calls_a_lem) 12 refl refl (omega arith) (omega arith)

clock_b : Clock settings_b_lem (readings calls_b_lem)
unfolding calls_b_lem readings rises_from all_up_to
clock_b = clock-by settings_b_lem (readings calls_b_lem) 11 refl refl (omega arith) (omega arith)

few_a : beatsIn calls_a_lem < 2
unfolding calls_a_lem beatsIn
few_a = omega arith

few_b : beatsIn calls_b_lem < 3
unfolding calls_b_lem beatsIn
few_b = omega arith

pub premises_a : Premises messages settings_a_lem calls_a_lem (start settings_a_lem)
premises_a =
    record {
      fresh = fresh_a;
      members = subst (Members 0 messages) calls_a-written (script_members 0 messages written_a inside_a);
      set-seen = omega (arith, two-messages);
      set-cached = omega (arith, two-messages);
      clock = clock_a;
      few_heartbeats = few_a;
    }

pub premises_b : Premises messages settings_b_lem calls_b_lem (start settings_b_lem)
premises_b =
    record {
      fresh = fresh_b;
      members = subst (Members 0 messages) calls_b-written (script_members 0 messages written_b inside_b);
      set-seen = omega (arith, two-messages);
      set-cached = omega (arith, two-messages);
      clock = clock_b;
      few_heartbeats = few_b;
    }

-- ---- what rounds are played with: full buffers, for each call of each round one of its own length and content
buffer-long : (n more byte : ℕ) → n ≤ length (replicate {A = ℕ} (n + more) byte)
buffer-long n more byte = omega (arith, length-replicate {A = ℕ} (n + more) byte)

pub buffer_full : (more byte : ℕ) → max_rpc_size ≤ length (buffer more byte)
unfolding buffer
buffer_full more byte = buffer-long max_rpc_size more byte

pub fair_for : (x y : Settings) → x.history_len ≤ 3 → y.history_len ≤ 3 → Fair play x y
fair_for x y a b =
    record {
      topic-short = omega arith;
      windows-x = a;
      windows_y = b;
      advert-room = λ k. buffer_full k 0;
      request-room = λ k. buffer_full (k + 1) 7;
      reply_room_lem = λ k. buffer_full (k + 2) 255;
    }

pub fair : Fair play settings_a_lem settings_b_lem
fair = fair_for settings_a_lem settings_b_lem (omega arith) (omega arith)

pub alike : Alike settings_a_lem settings_b_lem
alike = refl

-- ---- a message got is new once
pub counts : {x : Settings} {s : State} (m : List ℕ) (xs : List Act) (calls : List Call) → Fresh x s
    → Written x.flags 0 xs → calls_of xs ≡ calls
    → Counts x.flags m calls s (got_in m xs) (new_in m xs (started_by x)) (got_in m xs - new_in m xs (started_by x))
counts {x} {s} m xs calls f w e =
    let g : times_got x.flags m calls ≡ got_in m xs =
    subst (λ (cs : List Call). times_got x.flags m cs ≡ got_in m xs) e ((fresh-acted xs f w).times_got_lem m) in
    let n : times_new x.flags m calls s ≡ new_in m xs (started_by x) =
    subst (λ (cs : List Call). times_new x.flags m cs s ≡ new_in m xs (started_by x)) e (fresh-new xs f w m) in
    let d : got_in m xs ≡ times_new x.flags m calls s + times_duplicate x.flags m calls s =
    subst (λ (cs : List Call). got_in m xs ≡ times_new x.flags m cs s + times_duplicate x.flags m cs s) e
    ((fresh-acted xs f w).answered m) in
    record { times_got_lem = g; times_new_lem = n; times_duplicate_lem = omega arith }

-- the first message came to a twice
pub first-at_a : Counts 0 first calls_a_lem (start settings_a_lem) 2 1 1
unfolding signature first is_signed slots_of with_field set_place role_of walk_at walk_from read_field read_value skip_field
    skip_fixed read_varint read_len read_tag read_uvarint read_from group_of got_in new_in started is_new after_admit holds among
    same_bytes live inserted newest until held put
first-at_a = counts first script_a calls_a_lem fresh_a written_a calls_a-written

-- the second never
pub second-at_a : Counts 0 second calls_a_lem (start settings_a_lem) 0 0 0
unfolding signature first second is_signed slots_of with_field set_place role_of walk_at walk_from read_field read_value
    skip_field skip_fixed read_varint read_len read_tag read_uvarint read_from group_of got_in new_in started is_new after_admit
    holds among same_bytes live inserted newest until held put
second-at_a = counts second script_a calls_a_lem fresh_a written_a calls_a-written

pub first-at_b : Counts 0 first calls_b_lem (start settings_b_lem) 1 1 0
unfolding signature first second is_signed slots_of with_field set_place role_of walk_at walk_from read_field read_value
    skip_field skip_fixed read_varint read_len read_tag read_uvarint read_from group_of got_in new_in started is_new after_admit
    after_beat holds among same_bytes live inserted newest until held put shift
first-at_b = counts first script_b calls_b_lem fresh_b written_b calls_b-written

pub second-at_b : Counts 0 second calls_b_lem (start settings_b_lem) 2 1 1
unfolding signature first second is_signed slots_of with_field set_place role_of walk_at walk_from read_field read_value
    skip_field skip_fixed read_varint read_len read_tag read_uvarint read_from group_of got_in new_in started is_new after_admit
    after_beat holds among same_bytes live inserted newest until held put shift
second-at_b = counts second script_b calls_b_lem fresh_b written_b calls_b-written
