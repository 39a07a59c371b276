-- Samples for computed histories: small messages of one sender, signed and unsigned, the bodies that carry them, and a
-- fresh node with stores of zeros.
use Rattle.std.specs.Prelude.{ℕ, ◌*◌, ◌^◌, ◌<◌, ◌≡◌, refl, true, List, [], ◌∷◌, ◌++◌, replicate}
use Rattle.std.proofs.lemmas.List.{length-replicate}
use Rattle.std.proofs.Common.{eq-eqb}
use Rattle.basis.specs.declared.Edition.{Edition}
use Rattle.basis.specs.Lists.{zeros-bytes}
use Rattle.peer_id.specs.Uvarint.{read_uvarint, read_from, group_of}
use Rattle.peer_id.specs.PeerId.{hash_of, from_bytes}
use Rattle.key.specs.Decode.{type_of, on_total, on_data, decode_protobuf}
use Rattle.utf8.specs.Utf8.{is_utf8, run}
use Rattle.protobuf.specs.Field.{read_tag, read_len, read_varint, skip_fixed, skip_field, read_value, read_field}
use Rattle.protobuf.specs.Walk.{walk_from, walk_at}
use Rattle.schema.specs.Schema.{role_of, rank, own_of}
use Rattle.schema.specs.Kinds.{to_depth, over_kinds}
use Rattle.schema.specs.Count.{text_count, counted}
use Rattle.schema.specs.Slots.{set_place, with_field, slots_of}
use Rattle.schema.specs.Accept.{body_records, accept_of}
use Rattle.ids.specs.Ids.{message_at, id_parts}
use Rattle.admission.specs.Flags.{allows_unsigned}
use Rattle.admission.specs.Admission.{topics_of, first_long, on_limits, is_key, key_inside, is_peer_id, admission_of, gives_id}
use Rattle.rows.specs.Ids.{same_bytes}
use Rattle.seen.specs.State.{id_size}
use Rattle.mcache.specs.State.{message_size}
use Rattle.node.specs.State.{legal_settings, fresh_node}
use Rattle.history.specs.History.{State, Settings, Fresh}
use Rattle.history.specs.Script.{Carries}

-- ---- the messages
-- 64 bytes; whether they sign is the host's word
unfoldable pub signature : List ℕ
signature =
    0x01 ∷ 0x02 ∷ 0x03 ∷ 0x04 ∷ 0x05 ∷ 0x06 ∷ 0x07 ∷ 0x08 ∷ 0x09 ∷ 0x0a ∷ 0x0b ∷ 0x0c ∷ 0x0d ∷ 0x0e ∷ 0x0f ∷ 0x10 ∷
    0x11 ∷ 0x12 ∷ 0x13 ∷ 0x14 ∷ 0x15 ∷ 0x16 ∷ 0x17 ∷ 0x18 ∷ 0x19 ∷ 0x1a ∷ 0x1b ∷ 0x1c ∷ 0x1d ∷ 0x1e ∷ 0x1f ∷ 0x20 ∷
    0x21 ∷ 0x22 ∷ 0x23 ∷ 0x24 ∷ 0x25 ∷ 0x26 ∷ 0x27 ∷ 0x28 ∷ 0x29 ∷ 0x2a ∷ 0x2b ∷ 0x2c ∷ 0x2d ∷ 0x2e ∷ 0x2f ∷ 0x30 ∷
    0x31 ∷ 0x32 ∷ 0x33 ∷ 0x34 ∷ 0x35 ∷ 0x36 ∷ 0x37 ∷ 0x38 ∷ 0x39 ∷ 0x3a ∷ 0x3b ∷ 0x3c ∷ 0x3d ∷ 0x3e ∷ 0x3f ∷ 0x40 ∷
    []

-- the sender: an identity over the key of an Ed25519 pair
abbrev pub first-sender : List ℕ
first-sender =
    0x00 ∷ 0x24 ∷ 0x08 ∷ 0x01 ∷ 0x12 ∷ 0x20 ∷
    0x1e ∷ 0xd1 ∷ 0xe8 ∷ 0xfa ∷ 0xe2 ∷ 0xc4 ∷ 0xa1 ∷ 0x44 ∷ 0xb8 ∷ 0xbe ∷ 0x8f ∷ 0xd4 ∷ 0xb4 ∷ 0x7b ∷ 0xf3 ∷ 0xd3 ∷
    0xb3 ∷ 0x4b ∷ 0x87 ∷ 0x1c ∷ 0x3c ∷ 0xac ∷ 0xf6 ∷ 0x01 ∷ 0x0f ∷ 0x0e ∷ 0x42 ∷ 0xd4 ∷ 0x74 ∷ 0xfc ∷ 0xe2 ∷ 0x7e ∷ []

-- a seqno of one byte, the topic `t`, a signature; or none
unfoldable pub message : ℕ → List ℕ
message n = 0x0a ∷ 0x26 ∷ (first-sender ++ (0x1a ∷ 0x01 ∷ n ∷ 0x22 ∷ 0x01 ∷ 0x74 ∷ 0x2a ∷ 0x40 ∷ signature))

unfoldable pub unsigned : ℕ → List ℕ
unsigned n = 0x0a ∷ 0x26 ∷ (first-sender ++ (0x1a ∷ 0x01 ∷ n ∷ 0x22 ∷ 0x01 ∷ 0x74 ∷ []))

-- their ids, from and seqno: the same with a signature and without
abbrev pub id_of : ℕ → List ℕ
id_of n = first-sender ++ (n ∷ [])

-- the bodies in which they come: an RPC with one message
unfoldable pub message_body : ℕ → List ℕ
message_body n = 0x12 ∷ 0x70 ∷ message n

unfoldable pub unsigned_body : ℕ → List ℕ
unsigned_body n = 0x12 ∷ 0x2e ∷ unsigned n

-- ---- they pass admission: those with a signature where no unsigned message is allowed, and both where they are
pub message-carried : (n : ℕ) (ed : Edition) → Carries 0 ed (message_body n) (message n) (id_of n)
unfolding signature message message_body accept_of body_records counted over_kinds to_depth text_count role_of rank own_of
    is_utf8 run walk_at walk_from read_field read_value skip_field skip_fixed read_varint read_len read_tag read_uvarint read_from
    group_of message_at gives_id admission_of on_limits topics_of first_long id_parts slots_of with_field set_place same_bytes
    is_peer_id key_inside is_key from_bytes hash_of decode_protobuf type_of on_data on_total
message-carried n ed =
    record { accepted = refl; placed = record { start = 2; next = 114; found = refl; bytes = refl }; own = rw (eq-eqb n n refl) }

pub signed-carried : (n : ℕ) (ed : Edition) → Carries 1 ed (message_body n) (message n) (id_of n)
unfolding signature message message_body accept_of body_records counted over_kinds to_depth text_count role_of rank own_of
    is_utf8 run walk_at walk_from read_field read_value skip_field skip_fixed read_varint read_len read_tag read_uvarint read_from
    group_of message_at gives_id admission_of allows_unsigned on_limits topics_of first_long id_parts slots_of with_field set_place
    same_bytes is_peer_id key_inside is_key from_bytes hash_of decode_protobuf type_of on_data on_total
signed-carried n ed =
    record { accepted = refl; placed = record { start = 2; next = 114; found = refl; bytes = refl }; own = rw (eq-eqb n n refl) }

pub unsigned-carried : (n : ℕ) (ed : Edition) → Carries 1 ed (unsigned_body n) (unsigned n) (id_of n)
unfolding unsigned unsigned_body accept_of body_records counted over_kinds to_depth text_count role_of rank own_of is_utf8 run
    walk_at walk_from read_field read_value skip_field skip_fixed read_varint read_len read_tag read_uvarint read_from group_of
    message_at gives_id admission_of allows_unsigned on_limits topics_of first_long id_parts slots_of with_field set_place
    same_bytes is_peer_id from_bytes hash_of
unsigned-carried n ed =
    record { accepted = refl; placed = record { start = 2; next = 48; found = refl; bytes = refl }; own = rw (eq-eqb n n refl) }

-- ---- a fresh node with stores of zeros
unfoldable pub start : Settings → State
start x =
    record {
      node = fresh_node x.ttl x.max_seen x.history_len x.max_messages x.flags;
      ids = replicate (x.max_seen * id_size) 0;
      messages = replicate (x.max_messages * message_size) 0;
    }

pub start-fresh : (x : Settings) → x.ttl < 2 ^ 64
    → legal_settings x.max_seen x.history_len x.max_messages x.flags ≡ true → Fresh x (start x)
unfolding start
start-fresh x small ok =
    record {
      small = small;
      legal = ok;
      node = refl;
      ids = length-replicate (x.max_seen * id_size) 0;
      messages = length-replicate (x.max_messages * message_size) 0;
      bytes = zeros-bytes (x.max_messages * message_size);
    }
