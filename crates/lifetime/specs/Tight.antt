-- Both bounds are met with equality, by computed histories from fresh: exactly ttl later a form is new again, and after
-- exactly max_seen others; one unit earlier and with one other fewer it is a duplicate. With the settings at their
-- ends, too: a ttl of 0, a max_seen of 0 and of 1. At a second reading of 2^64 - 1, where expiries stop, it is new again
-- within ttl. The other form of the same id, without a signature, counts as an other.
use Rattle.std.specs.Prelude.{Some, Ok, ℕ, ◌-◌, ◌^◌, ◌≡◌, refl, true, false, List, [], ◌∷◌, ◌++◌}
use Rattle.std.proofs.Common.{◌∙◌, arith}
use Rattle.basis.specs.declared.Edition.TheVariants.{V11}
use Rattle.peer_id.specs.Uvarint.{read_uvarint, read_from, group_of}
use Rattle.protobuf.specs.Field.{read_tag, read_len, read_varint, skip_fixed, skip_field, read_value, read_field}
use Rattle.protobuf.specs.Walk.{walk_from, walk_at}
use Rattle.schema.specs.Schema.{role_of}
use Rattle.schema.specs.Slots.{set_place, with_field, slots_of}
use Rattle.admission.specs.Flags.{known_flags}
use Rattle.admission.specs.Admission.{is_signed}
use Rattle.rows.specs.Rows.{newest}
use Rattle.rows.specs.Ids.{same_bytes, among}
use Rattle.seen.specs.Entries.{holds, until, inserted, live}
use Rattle.mcache.specs.Messages.{held, put}
use Rattle.mcache.specs.State.{legal}
use Rattle.node.specs.declared.Novelty.TheVariants as novelty
use Rattle.node.specs.Gateway.{started, marked, is_new, after_admit}
use Rattle.node.specs.State.{legal_settings}
use Rattle.history.specs.History.{Settings, Fresh, heartbeat, after, after_all, answer_in, reading}
use Rattle.history.specs.Laws.{started_by}
use Rattle.history.specs.Script.{Act, gets, call_of, calls_of, gateway_by, gateway_after, Written, nothing, got}
use Rattle.history.specs.Samples.{signature, message, unsigned, id_of, message_body, unsigned_body, message-carried, start}
use Rattle.history.specs.Samples.{signed-carried, unsigned-carried, start-fresh}
use Rattle.lifetime.specs.Lifetime.{NewAt, Twice, others_new}
use Rattle.lifetime.specs.Back.{Item, own, extra}
use Rattle.lifetime.specs.Scripted.{form_by, others_by, script_makes, script_twice, script_between, script_again}

-- ---- the calls: an admit of the sample with that seqno, with a signature or without, at a reading
abbrev pub signed_at : ℕ → ℕ → Act
signed_at n at = gets V11 (message_body n) (message n) (id_of n) at

abbrev pub unsigned_at : ℕ → ℕ → Act
unsigned_at n at = gets V11 (unsigned_body n) (unsigned n) (id_of n) at

-- the form that the first sample has
abbrev pub first_form : List ℕ
first_form = marked true (id_of 1)

-- settings with a ttl, a max_seen and flags
abbrev pub lasting : ℕ → ℕ → ℕ → Settings
lasting ttl max_seen flags =
    record { ttl = ttl; max_seen = max_seen; history_len = 2; max_messages = 4; flags = flags }

-- ---- a history from fresh in which the first call and the last make the first sample's form new, at two readings, with
-- so many others made new between them
pub record NewAgain (x : Settings) (first : Act) (between : List Act) (second : Act) (at later others : ℕ) : Type 0 where
  pub fresh : Fresh x (start x)
  pub twice : Twice (start x) [] (call_of first) (calls_of between) (call_of second) at later first_form
  pub between_are : others_new first_form (calls_of between) (after (call_of first) (after_all [] (start x))) ≡ others

new-again : {x : Settings} (first : Act) (between : List Act) (second : Act) (at later others : ℕ) → Fresh x (start x)
    → Written x.flags 0 (first ∷ (between ++ (second ∷ []))) → reading (call_of first) ≡ at ∷ []
    → reading (call_of second) ≡ later ∷ [] → form_by first (started_by x) ≡ Some first_form
    → form_by second (gateway_after between (gateway_by first (started_by x))) ≡ Some first_form
    → others_by first_form between (gateway_by first (started_by x)) ≡ others
    → NewAgain x first between second at later others
unfolding calls_of gateway_after
new-again {x} first between second at later others fresh w p q m k n =
    record {
      fresh = fresh;
      twice = script_twice fresh [] first between second [] w first_form at later p q m k;
      between_are = script_between fresh [] first between second [] w first_form ∙ n;
    }

-- ---- and one in which the last answers duplicate
pub record Again (x : Settings) (first : Act) (between : List Act) (n at later others : ℕ) : Type 0 where
  pub fresh : Fresh x (start x)
  pub once : NewAt (after_all [] (start x)) (call_of first) at first_form
  pub between_are : others_new first_form (calls_of between) (after (call_of first) (after_all [] (start x))) ≡ others
  pub duplicate : answer_in (after_all (calls_of between) (after (call_of first) (after_all [] (start x)))) V11 (message_body n)
      0 true later ≡ Ok novelty.Duplicate

again : {x : Settings} (first : Act) (between : List Act) (n at later others : ℕ) → Fresh x (start x)
    → Written x.flags 0 (first ∷ (between ++ (signed_at n later ∷ []))) → reading (call_of first) ≡ at ∷ []
    → form_by first (started_by x) ≡ Some first_form
    → is_new later (message n) (id_of n) (gateway_after between (gateway_by first (started_by x))) ≡ false
    → others_by first_form between (gateway_by first (started_by x)) ≡ others
    → Again x first between n at later others
unfolding calls_of gateway_after
again {x} first between n at later others fresh w p m k o =
    record {
      fresh = fresh;
      once = record { read = p; made = script_makes fresh [] first (between ++ (signed_at n later ∷ [])) w ∙ m };
      between_are = script_between fresh [] first between (signed_at n later) [] w first_form ∙ o;
      duplicate = script_again fresh [] first between V11 (message_body n) (message n) (id_of n) later [] w ∙ rw k;
    }

-- ---- a ttl of 1000 and a max_seen of 2
abbrev pub usual : Settings
usual = lasting 1000 2 0

pub usual-fresh : Fresh usual (start usual)
unfolding legal_settings legal known_flags
usual-fresh = start-fresh usual (omega arith) refl

-- exactly ttl later
ttl-written : Written 0 0 (signed_at 1 100 ∷ signed_at 1 1100 ∷ [])
ttl-written = got 0 100 (message-carried 1 V11) (omega arith) (got 100 1100 (message-carried 1 V11) (omega arith) nothing)

pub exactly-ttl : NewAgain usual (signed_at 1 100) [] (signed_at 1 1100) 100 1100 0
unfolding signature message is_signed slots_of with_field set_place role_of walk_at walk_from read_field read_value skip_field
    skip_fixed read_varint read_len read_tag read_uvarint read_from group_of started is_new after_admit holds among same_bytes live
    inserted newest until held put gateway_after others_by
exactly-ttl =
    new-again (signed_at 1 100) [] (signed_at 1 1100) 100 1100 0 usual-fresh ttl-written refl refl refl refl refl

-- exactly max_seen others, at the same reading
abbrev pub two-others : List Act
two-others = signed_at 2 100 ∷ signed_at 3 100 ∷ []

max-written : Written 0 0 (signed_at 1 100 ∷ (two-others ++ (signed_at 1 100 ∷ [])))
max-written =
    got 0 100 (message-carried 1 V11) (omega arith)
    (got 100 100 (message-carried 2 V11) (omega arith)
    (got 100 100 (message-carried 3 V11) (omega arith)
    (got 100 100 (message-carried 1 V11) (omega arith) nothing)))

pub exactly-max : NewAgain usual (signed_at 1 100) two-others (signed_at 1 100) 100 100 2
unfolding signature message is_signed slots_of with_field set_place role_of walk_at walk_from read_field read_value skip_field
    skip_fixed read_varint read_len read_tag read_uvarint read_from group_of started is_new after_admit holds among same_bytes live
    inserted newest until held put gateway_after others_by
exactly-max =
    new-again (signed_at 1 100) two-others (signed_at 1 100) 100 100 2 usual-fresh max-written refl refl refl refl refl

-- ttl - 1 later, and max_seen - 1 others
abbrev pub one_other : List Act
one_other = signed_at 2 100 ∷ []

short-written : Written 0 0 (signed_at 1 100 ∷ (one_other ++ (signed_at 1 1099 ∷ [])))
short-written =
    got 0 100 (message-carried 1 V11) (omega arith)
    (got 100 100 (message-carried 2 V11) (omega arith) (got 100 1099 (message-carried 1 V11) (omega arith) nothing))

pub one-short : Again usual (signed_at 1 100) one_other 1 100 1099 1
unfolding signature message is_signed slots_of with_field set_place role_of walk_at walk_from read_field read_value skip_field
    skip_fixed read_varint read_len read_tag read_uvarint read_from group_of started is_new after_admit holds among same_bytes live
    inserted newest until held put gateway_after others_by
one-short = again (signed_at 1 100) one_other 1 100 1099 1 usual-fresh short-written refl refl refl refl

-- a second reading of 2^64 - 1, the first just below it
last_written : Written 0 0 (signed_at 1 (2 ^ 64 - 2) ∷ signed_at 1 (2 ^ 64 - 1) ∷ [])
last_written =
    got 0 (2 ^ 64 - 2) (message-carried 1 V11) (omega arith)
    (got (2 ^ 64 - 2) (2 ^ 64 - 1) (message-carried 1 V11) (omega arith) nothing)

pub last-reading : NewAgain usual (signed_at 1 (2 ^ 64 - 2)) [] (signed_at 1 (2 ^ 64 - 1)) (2 ^ 64 - 2) (2 ^ 64 - 1) 0
unfolding signature message is_signed slots_of with_field set_place role_of walk_at walk_from read_field read_value skip_field
    skip_fixed read_varint read_len read_tag read_uvarint read_from group_of started is_new after_admit holds among same_bytes live
    inserted newest until held put gateway_after others_by
last-reading =
    new-again (signed_at 1 (2 ^ 64 - 2)) [] (signed_at 1 (2 ^ 64 - 1)) (2 ^ 64 - 2) (2 ^ 64 - 1) 0 usual-fresh last_written
    refl refl refl refl refl

-- ---- a ttl of 0: new again at the same reading, with no others
twice-written : Written 0 0 (signed_at 1 100 ∷ signed_at 1 100 ∷ [])
twice-written = got 0 100 (message-carried 1 V11) (omega arith) (got 100 100 (message-carried 1 V11) (omega arith) nothing)

no-ttl-fresh : Fresh (lasting 0 2 0) (start (lasting 0 2 0))
unfolding legal_settings legal known_flags
no-ttl-fresh = start-fresh (lasting 0 2 0) (omega arith) refl

pub no-ttl : NewAgain (lasting 0 2 0) (signed_at 1 100) [] (signed_at 1 100) 100 100 0
unfolding signature message is_signed slots_of with_field set_place role_of walk_at walk_from read_field read_value skip_field
    skip_fixed read_varint read_len read_tag read_uvarint read_from group_of started is_new after_admit holds among same_bytes live
    inserted newest until held put gateway_after others_by
no-ttl = new-again (signed_at 1 100) [] (signed_at 1 100) 100 100 0 no-ttl-fresh twice-written refl refl refl refl refl

-- ---- a max_seen of 0: the same
none_seen-fresh : Fresh (lasting 1000 0 0) (start (lasting 1000 0 0))
unfolding legal_settings legal known_flags
none_seen-fresh = start-fresh (lasting 1000 0 0) (omega arith) refl

pub none_seen : NewAgain (lasting 1000 0 0) (signed_at 1 100) [] (signed_at 1 100) 100 100 0
unfolding signature message is_signed slots_of with_field set_place role_of walk_at walk_from read_field read_value skip_field
    skip_fixed read_varint read_len read_tag read_uvarint read_from group_of started is_new after_admit holds among same_bytes live
    inserted newest until held put gateway_after others_by
none_seen =
    new-again (signed_at 1 100) [] (signed_at 1 100) 100 100 0 none_seen-fresh twice-written refl refl refl refl refl

-- ---- a max_seen of 1: new again after one other, and with none a duplicate
one_seen-fresh : Fresh (lasting 1000 1 0) (start (lasting 1000 1 0))
unfolding legal_settings legal known_flags
one_seen-fresh = start-fresh (lasting 1000 1 0) (omega arith) refl

one_written : Written 0 0 (signed_at 1 100 ∷ (one_other ++ (signed_at 1 100 ∷ [])))
one_written =
    got 0 100 (message-carried 1 V11) (omega arith)
    (got 100 100 (message-carried 2 V11) (omega arith) (got 100 100 (message-carried 1 V11) (omega arith) nothing))

pub one_seen : NewAgain (lasting 1000 1 0) (signed_at 1 100) one_other (signed_at 1 100) 100 100 1
unfolding signature message is_signed slots_of with_field set_place role_of walk_at walk_from read_field read_value skip_field
    skip_fixed read_varint read_len read_tag read_uvarint read_from group_of started is_new after_admit holds among same_bytes live
    inserted newest until held put gateway_after others_by
one_seen =
    new-again (signed_at 1 100) one_other (signed_at 1 100) 100 100 1 one_seen-fresh one_written refl refl refl refl refl

alone-written : Written 0 0 (signed_at 1 100 ∷ signed_at 1 1099 ∷ [])
alone-written = got 0 100 (message-carried 1 V11) (omega arith) (got 100 1099 (message-carried 1 V11) (omega arith) nothing)

pub one_seen-short : Again (lasting 1000 1 0) (signed_at 1 100) [] 1 100 1099 0
unfolding signature message is_signed slots_of with_field set_place role_of walk_at walk_from read_field read_value skip_field
    skip_fixed read_varint read_len read_tag read_uvarint read_from group_of started is_new after_admit holds among same_bytes live
    inserted newest until held put gateway_after others_by
one_seen-short = again (signed_at 1 100) [] 1 100 1099 0 one_seen-fresh alone-written refl refl refl refl

-- ---- with a max_seen of 1 and unsigned messages allowed, the same id without a signature is the one other
marks_fresh : Fresh (lasting 1000 1 1) (start (lasting 1000 1 1))
unfolding legal_settings legal known_flags
marks_fresh = start-fresh (lasting 1000 1 1) (omega arith) refl

abbrev pub same-unsigned : List Act
same-unsigned = unsigned_at 1 100 ∷ []

marks_written : Written 1 0 (signed_at 1 100 ∷ (same-unsigned ++ (signed_at 1 100 ∷ [])))
marks_written =
    got 0 100 (signed-carried 1 V11) (omega arith)
    (got 100 100 (unsigned-carried 1 V11) (omega arith) (got 100 100 (signed-carried 1 V11) (omega arith) nothing))

pub other_mark : NewAgain (lasting 1000 1 1) (signed_at 1 100) same-unsigned (signed_at 1 100) 100 100 1
unfolding signature message unsigned is_signed slots_of with_field set_place role_of walk_at walk_from read_field read_value skip_field
    skip_fixed read_varint read_len read_tag read_uvarint read_from group_of started is_new after_admit holds among same_bytes live
    inserted newest until held put gateway_after others_by
other_mark =
    new-again (signed_at 1 100) same-unsigned (signed_at 1 100) 100 100 1 marks_fresh marks_written refl refl refl refl refl

-- ---- calls that step back: between an admit at 100 and one at 1099, an admit at 99 and a heartbeat at 0
abbrev pub steps : List Item
steps =
    own (call_of (signed_at 1 100)) ∷ extra (call_of (signed_at 1 99)) ∷ extra (heartbeat 0)
    ∷ own (call_of (signed_at 1 1099)) ∷ []
