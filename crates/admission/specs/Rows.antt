-- Messages and what is answered: a sender, a sequence number 1, the topic t, and a signature of zeros.
use Rattle.std.specs.Prelude.{Ok, Err, ℕ, zero, suc, ◌≡◌, refl, true, false, List, [], ◌∷◌, ◌++◌, length, replicate}
use Rattle.basis.specs.declared.Mode.TheVariants.{Plain, Groups}
use Rattle.basis.specs.Dialect.{mode_of}
use Rattle.peer_id.specs.Uvarint.{read_uvarint, read_from, group_of}
use Rattle.peer_id.specs.PeerId.{hash_of, from_bytes}
use Rattle.key.specs.Decode.{type_of, on_total, on_data, decode_protobuf}
use Rattle.protobuf.specs.Field.{read_tag, read_len, read_varint, skip_fixed, skip_value, passed, skip_from}
use Rattle.protobuf.specs.Field.{skip_group, skip_field, read_value, read_field}
use Rattle.protobuf.specs.Walk.{walk_from, walk_at}
use Rattle.schema.specs.Schema.{role_of, rank}
use Rattle.schema.specs.Kinds.{to_depth, over_kinds}
use Rattle.schema.specs.Count.{counted}
use Rattle.schema.specs.Slots.{set_place, with_field, slots_of}
use Rattle.rows.specs.Ids.{same_bytes}
use Rattle.ids.specs.Ids.{id_parts}
use Rattle.admission.specs.declared.Unfit.TheVariants.{MissingFrom, InvalidFrom, InvalidSeqno}
use Rattle.admission.specs.declared.Unfit.TheVariants.{KeyWithoutSignature, MissingSignature}
use Rattle.admission.specs.declared.Unfit.TheVariants.{InvalidSignatureLength, SignatureInvalid, TopicCount}
use Rattle.admission.specs.declared.Unfit.TheVariants.{NotPeerId, InvalidKey, KeyPeerIdMismatch}
use Rattle.admission.specs.Admission.{topics_of, Span, topic_places, same_spans, first_long, on_limits, admission_of}
use Rattle.admission.specs.Flags.{allows_unsigned}
use Rattle.admission.specs.Admission.{is_key, key_matches, key_inside, is_peer_id, gives_id, kept_with}

abbrev pub zeros : ℕ → List ℕ
zeros zero = []
zeros (suc n) = 0 ∷ zeros n

-- an Ed25519 key, and the peer id that is it
abbrev pub key_data : List ℕ
key_data =
    0x1e ∷ 0xd1 ∷ 0xe8 ∷ 0xfa ∷ 0xe2 ∷ 0xc4 ∷ 0xa1 ∷ 0x44 ∷ 0xb8 ∷ 0xbe ∷ 0x8f ∷ 0xd4 ∷ 0xb4 ∷ 0x7b ∷ 0xf3 ∷ 0xd3 ∷ 0xb3
    ∷ 0x4b ∷ 0x87 ∷ 0x1c ∷ 0x3c ∷ 0xac ∷ 0xf6 ∷ 0x01 ∷ 0x0f ∷ 0x0e ∷ 0x42 ∷ 0xd4 ∷ 0x74 ∷ 0xfc ∷ 0xe2 ∷ 0x7e ∷ []

abbrev pub peer : List ℕ
peer = 0x00 ∷ 0x24 ∷ 0x08 ∷ 0x01 ∷ 0x12 ∷ 0x20 ∷ key_data

-- fields: a sender, seqno and a topic; signatures; a key
abbrev pub from : List ℕ → List ℕ
from s = 0x0a ∷ length s ∷ s

abbrev pub seqno : List ℕ
seqno = 0x1a ∷ 0x01 ∷ 0x01 ∷ []

abbrev pub topic : List ℕ
topic = 0x22 ∷ 0x01 ∷ 0x74 ∷ []

abbrev pub signature : List ℕ
signature = 0x2a ∷ 0x40 ∷ zeros 64

abbrev pub short : List ℕ
short = 0x2a ∷ 0x3f ∷ zeros 63

abbrev pub key : List ℕ → List ℕ
key k = 0x32 ∷ length k ∷ k

-- what a message starts with, and one of this sender
abbrev pub head : List ℕ
head = from peer ++ (seqno ++ topic)

abbrev pub of : List ℕ → List ℕ
of s = from s ++ (seqno ++ (topic ++ signature))

-- it is taken where the host says that the signature verified; else 27
pub taken :
    (admission_of 0 (head ++ signature) true ≡ Ok ((2, 40), (42, 43)))
    × (admission_of 0 (head ++ signature) false ≡ Err SignatureInvalid)
unfolding read_uvarint read_from group_of read_tag read_len read_varint skip_fixed skip_value skip_field read_value read_field
    walk_from walk_at role_of set_place with_field slots_of id_parts topics_of first_long on_limits allows_unsigned mode_of
    admission_of hash_of from_bytes type_of on_total on_data decode_protobuf is_key key_matches key_inside is_peer_id same_bytes
taken = (refl, refl)

-- 21, 22, 34, 23: no sender, an empty one, one that is no peer id, also where there is no seqno, and no seqno
pub no-id :
    (admission_of 0 ([]) true ≡ Err MissingFrom)
    × (admission_of 0 (from []) true ≡ Err (InvalidFrom 0))
    × (admission_of 0 (from (replicate 65 0x41)) true ≡ Err (InvalidFrom 65))
    × (admission_of 0 (of (0x41 ∷ [])) true ≡ Err NotPeerId)
    × (admission_of 0 (from (0x41 ∷ [])) true ≡ Err NotPeerId)
    × (admission_of 0 (from peer) true ≡ Err InvalidSeqno)
unfolding read_uvarint read_from group_of read_tag read_len read_varint skip_fixed skip_value skip_field read_value read_field
    walk_from walk_at role_of set_place with_field slots_of id_parts topics_of first_long on_limits allows_unsigned mode_of
    admission_of hash_of from_bytes type_of on_total on_data decode_protobuf is_key key_matches key_inside is_peer_id same_bytes
no-id = (refl, refl, refl, refl, refl, refl)

-- 34: host names, a digest of 43 bytes, a byte too many, SHA-256 digests of 31 and 33 bytes, SHA-1, two bytes for a code
pub peer-ids :
    (admission_of 0 (of (0x67 ∷ 0x61 ∷ 0x74 ∷ 0x65 ∷ [])) true ≡ Err NotPeerId)
    × (admission_of 0 (of (replicate 64 0x41)) true ≡ Err NotPeerId)
    × (admission_of 0 (of (0x00 ∷ 0x2b ∷ 0x08 ∷ 0x01 ∷ 0x12 ∷ 0x27 ∷ zeros 39)) true ≡ Err NotPeerId)
    × (admission_of 0 (of (peer ++ (0x00 ∷ []))) true ≡ Err NotPeerId)
    × (admission_of 0 (of (0x12 ∷ 0x20 ∷ zeros 31)) true ≡ Err NotPeerId)
    × (admission_of 0 (of (0x12 ∷ 0x20 ∷ zeros 33)) true ≡ Err NotPeerId)
    × (admission_of 0 (of (0x12 ∷ 0x21 ∷ zeros 33)) true ≡ Err NotPeerId)
    × (admission_of 0 (of (0x11 ∷ 0x14 ∷ zeros 20)) true ≡ Err NotPeerId)
    × (admission_of 0 (of (0x80 ∷ 0x00 ∷ 0x00 ∷ [])) true ≡ Err NotPeerId)
unfolding read_uvarint read_from group_of read_tag read_len read_varint skip_fixed skip_value skip_field read_value read_field
    walk_from walk_at role_of set_place with_field slots_of id_parts topics_of first_long on_limits allows_unsigned mode_of
    admission_of hash_of from_bytes type_of on_total on_data decode_protobuf is_key key_matches key_inside is_peer_id same_bytes
peer-ids = (refl, refl, refl, refl, refl, refl, refl, refl, refl)

-- 24, 25, 26: no signature, with a key and without, and one of 63 bytes; they come before 35 and 27
pub not-signed :
    (admission_of 0 (head ++ key (0x6b ∷ [])) true ≡ Err KeyWithoutSignature)
    × (admission_of 0 (head) true ≡ Err MissingSignature)
    × (admission_of 0 (head ++ short) false ≡ Err (InvalidSignatureLength 63))
    × (admission_of 0 (head ++ (short ++ key (0xff ∷ []))) true ≡ Err (InvalidSignatureLength 63))
unfolding read_uvarint read_from group_of read_tag read_len read_varint skip_fixed skip_value skip_field read_value read_field
    walk_from walk_at role_of set_place with_field slots_of id_parts topics_of first_long on_limits allows_unsigned mode_of
    admission_of hash_of from_bytes type_of on_total on_data decode_protobuf is_key key_matches key_inside is_peer_id same_bytes
not-signed = (refl, refl, refl, refl)

-- where unsigned messages are allowed, neither signature nor key is taken with the word or without: also of an identity
-- over nothing and of a SHA-256 sender; 24, an empty signature, 34 and 27 of a signature stay
pub unsigned-allowed :
    (admission_of 1 (head) false ≡ Ok ((2, 40), (42, 43)))
    × (admission_of 1 (head) true ≡ Ok ((2, 40), (42, 43)))
    × (admission_of 1 (from (0x00 ∷ 0x00 ∷ []) ++ (seqno ++ topic)) false ≡ Ok ((2, 4), (6, 7)))
    × (admission_of 1 (from (0x12 ∷ 0x20 ∷ zeros 32) ++ (seqno ++ topic)) false ≡ Ok ((2, 36), (38, 39)))
    × (admission_of 1 (from (0x41 ∷ []) ++ (seqno ++ topic)) true ≡ Err NotPeerId)
    × (admission_of 1 (head ++ key []) true ≡ Err KeyWithoutSignature)
    × (admission_of 1 (head ++ (0x2a ∷ 0x00 ∷ [])) true ≡ Err (InvalidSignatureLength 0))
    × (admission_of 1 (head ++ signature) false ≡ Err SignatureInvalid)
    × (admission_of 1 (head ++ signature) true ≡ Ok ((2, 40), (42, 43)))
    × (admission_of 1 (from peer ++ seqno) true ≡ Err (TopicCount 0))
unfolding read_uvarint read_from group_of read_tag read_len read_varint skip_fixed skip_value skip_field read_value read_field
    walk_from walk_at role_of set_place with_field slots_of id_parts topics_of first_long on_limits allows_unsigned mode_of
    admission_of hash_of from_bytes type_of on_total on_data decode_protobuf is_key key_matches key_inside is_peer_id same_bytes
unsigned-allowed = (refl, refl, refl, refl, refl, refl, refl, refl, refl, refl)

-- 35, 36 of an identity: its key again, another, none, none that decodes; the shortest and the longest; with the word or without
pub identities :
    (admission_of 0 (head ++ (signature ++ key (0x08 ∷ 0x01 ∷ 0x12 ∷ 0x20 ∷ key_data))) true ≡ Ok ((2, 40), (42, 43)))
    × (admission_of 0 (head ++ (signature ++ key (0x08 ∷ 0x01 ∷ 0x12 ∷ 0x20 ∷ key_data))) false ≡ Err SignatureInvalid)
    × (admission_of 0 (head ++ (signature ++ key (0x08 ∷ 0x02 ∷ 0x12 ∷ 0x20 ∷ key_data))) false ≡ Err KeyPeerIdMismatch)
    × (admission_of 0 (head ++ (signature ++ key (0xff ∷ []))) false ≡ Err InvalidKey)
    × (admission_of 0 (head ++ (signature ++ key [])) true ≡ Err InvalidKey)
    × (admission_of 0 (of (0x00 ∷ 0x00 ∷ [])) true ≡ Err KeyPeerIdMismatch)
    × (admission_of 0 (of (0x00 ∷ 0x03 ∷ 0x41 ∷ 0x42 ∷ 0x43 ∷ [])) true ≡ Err KeyPeerIdMismatch)
    × (admission_of 0 (of (0x00 ∷ 0x03 ∷ 0x41 ∷ 0x42 ∷ 0x43 ∷ []) ++ key (0x41 ∷ 0x42 ∷ 0x43 ∷ [])) true ≡ Err InvalidKey)
    × (admission_of 0 (of (0x00 ∷ 0x04 ∷ 0x08 ∷ 0x01 ∷ 0x12 ∷ 0x00 ∷ [])) true ≡ Ok ((2, 8), (10, 11)))
    × (admission_of 0 (of (0x00 ∷ 0x2a ∷ 0x08 ∷ 0x01 ∷ 0x12 ∷ 0x26 ∷ zeros 38)) true ≡ Ok ((2, 46), (48, 49)))
unfolding read_uvarint read_from group_of read_tag read_len read_varint skip_fixed skip_value skip_field read_value read_field
    walk_from walk_at role_of set_place with_field slots_of id_parts topics_of first_long on_limits allows_unsigned mode_of
    admission_of hash_of from_bytes type_of on_total on_data decode_protobuf is_key key_matches key_inside is_peer_id same_bytes
identities = (refl, refl, refl, refl, refl, refl, refl, refl, refl, refl)

-- of a SHA-256 sender: no key, one that is none, one; a digest that would decode is no key
pub hashes :
    (admission_of 0 (of (0x12 ∷ 0x20 ∷ replicate 32 7)) true ≡ Err KeyPeerIdMismatch)
    × (admission_of 0 (of (0x12 ∷ 0x20 ∷ replicate 32 7) ++ key (0xff ∷ [])) true ≡ Err InvalidKey)
    × (admission_of 0 (of (0x12 ∷ 0x20 ∷ replicate 32 7) ++ key (0x08 ∷ 0x01 ∷ 0x12 ∷ 0x20 ∷ key_data)) true ≡ Ok ((2, 36), (38, 39)))
    × (admission_of 0 (of (0x12 ∷ 0x20 ∷ 0x08 ∷ 0x01 ∷ 0x12 ∷ 0x1c ∷ replicate 28 0x41)) true ≡ Err KeyPeerIdMismatch)
unfolding read_uvarint read_from group_of read_tag read_len read_varint skip_fixed skip_value skip_field read_value read_field
    walk_from walk_at role_of set_place with_field slots_of id_parts topics_of first_long on_limits allows_unsigned mode_of
    admission_of hash_of from_bytes type_of on_total on_data decode_protobuf is_key key_matches key_inside is_peer_id same_bytes
hashes = (refl, refl, refl, refl)

-- 28: four topics are taken, five are not; 36 comes first
pub five-topics :
    (admission_of 0 (head ++ (topic ++ (topic ++ (topic ++ signature)))) true ≡ Ok ((2, 40), (42, 43)))
    × (admission_of 0 (head ++ (topic ++ (topic ++ (topic ++ (topic ++ signature))))) true ≡ Err (TopicCount 5))
    × (admission_of 0 (head ++ (topic ++ (topic ++ (topic ++ (topic ++ (signature ++ key (0x08 ∷ 0x02 ∷ 0x12 ∷ 0x20 ∷ key_data))))))) true ≡ Err KeyPeerIdMismatch)
unfolding read_uvarint read_from group_of read_tag read_len read_varint skip_fixed skip_value skip_field read_value read_field
    walk_from walk_at role_of set_place with_field slots_of id_parts topics_of first_long on_limits allows_unsigned mode_of
    admission_of hash_of from_bytes type_of on_total on_data decode_protobuf is_key key_matches key_inside is_peer_id same_bytes
five-topics = (refl, refl, refl)

-- ---- where the topics stand: the start and the length of each
abbrev at : ℕ → ℕ → Span
at a n = record { start = a; size = n }

-- the message's own topic; two empty ones before it; a field 4 that is a number; one inside a skipped field
pub places :
    (topic_places Plain (head ++ signature) ≡ at 45 1 ∷ [])
    × (topic_places Plain (0x22 ∷ 0x00 ∷ 0x22 ∷ 0x00 ∷ head ++ signature) ≡ at 2 0 ∷ at 4 0 ∷ at 49 1 ∷ [])
    × (topic_places Plain (0x20 ∷ 0x05 ∷ head ++ signature) ≡ at 47 1 ∷ [])
    × (topic_places Plain (0xaa ∷ 0x01 ∷ 0x03 ∷ 0x22 ∷ 0x01 ∷ 0x74 ∷ head ++ signature) ≡ at 51 1 ∷ [])
unfolding read_uvarint read_from group_of read_tag read_len read_varint skip_fixed skip_value skip_field read_value read_field
    walk_from walk_at topic_places
places = (refl, refl, refl, refl)

-- t, t, u and an empty one; and one of 1,024 bytes
abbrev start : List ℕ
start = from peer ++ seqno

pub four-places :
    (topic_places Plain (start ++ topic ++ topic ++ (0x22 ∷ 0x01 ∷ 0x75 ∷ 0x22 ∷ 0x00 ∷ []) ++ signature)
    ≡ at 45 1 ∷ at 48 1 ∷ at 51 1 ∷ at 54 0 ∷ [])
    × (topic_places Plain (start ++ (0x22 ∷ 0x80 ∷ 0x08 ∷ zeros 1024) ++ signature) ≡ at 46 1024 ∷ [])
unfolding read_uvarint read_from group_of read_tag read_len read_varint skip_fixed skip_value skip_field read_value read_field
    walk_from walk_at topic_places
four-places = (refl, refl)

-- a message of 4,096 bytes that ends in an empty topic: it stands behind the last byte
pub last-place :
    (length (start ++ signature ++ (0xaa ∷ 0x01 ∷ 0x8d ∷ 0x1f ∷ zeros 3981) ++ (0x22 ∷ 0x00 ∷ [])) ≡ 4096)
    × (topic_places Plain (start ++ signature ++ (0xaa ∷ 0x01 ∷ 0x8d ∷ 0x1f ∷ zeros 3981) ++ (0x22 ∷ 0x00 ∷ [])) ≡ at 4096 0 ∷ [])
unfolding read_uvarint read_from group_of read_tag read_len read_varint skip_fixed skip_value skip_field read_value read_field
    walk_from walk_at topic_places
last-place = (refl, refl)

-- kept beside the message they must be these: as many, with this start and this length
pub kept-places :
    (same_spans (topic_places Plain (head ++ signature)) (at 45 1 ∷ []) ≡ true)
    × (same_spans (topic_places Plain (head ++ signature)) [] ≡ false)
    × (same_spans (topic_places Plain (head ++ signature)) (at 45 1 ∷ at 0 0 ∷ []) ≡ false)
    × (same_spans (topic_places Plain (head ++ signature)) (at 44 1 ∷ []) ≡ false)
    × (same_spans (topic_places Plain (head ++ signature)) (at 45 2 ∷ []) ≡ false)
    × (same_spans (topic_places Plain (head ++ signature)) (at 65535 1 ∷ []) ≡ false)
    × (same_spans (topic_places Plain (head ++ signature)) (at 45 65535 ∷ []) ≡ false)
unfolding read_uvarint read_from group_of read_tag read_len read_varint skip_fixed skip_value skip_field read_value read_field
    walk_from walk_at topic_places same_spans
kept-places = (refl, refl, refl, refl, refl, refl, refl)

-- ---- groups, where they are passed over: what a group holds is neither the sender nor a topic nor a signature
abbrev grouped : List ℕ
grouped =
    0x0b ∷ 0x0a ∷ 0x01 ∷ 0x41 ∷ 0x0c
    ∷ 0x23 ∷ 0x22 ∷ 0x01 ∷ 0x75 ∷ 0x24
    ∷ 0x2b ∷ 0x2a ∷ 0x00 ∷ 0x2c ∷ []

pub groups-passed :
    (admission_of 2 (grouped ++ (head ++ signature)) true ≡ Ok ((16, 54), (56, 57)))
    × (admission_of 2 (grouped ++ (head ++ signature)) false ≡ Err SignatureInvalid)
    × (admission_of 2 (head ++ grouped) true ≡ Err MissingSignature)
    × (admission_of 3 (head ++ grouped) false ≡ Ok ((2, 40), (42, 43)))
    × (topic_places Groups (grouped ++ (head ++ signature)) ≡ at 59 1 ∷ [])
unfolding read_uvarint read_from group_of read_tag read_len read_varint skip_fixed skip_value passed skip_from skip_group
    skip_field read_value read_field walk_from walk_at role_of set_place with_field slots_of id_parts topics_of topic_places
    first_long on_limits allows_unsigned mode_of admission_of hash_of from_bytes type_of on_total on_data decode_protobuf is_key
    key_matches key_inside is_peer_id same_bytes
groups-passed = (refl, refl, refl, refl, refl)

-- a cached message is read in the mode of the flags: in the first mode it may not be kept
pub groups-not-kept : kept_with 0 (grouped ++ (head ++ signature)) (peer ++ (0x01 ∷ [])) (at 59 1 ∷ []) ≡ false
unfolding read_uvarint read_from group_of read_tag read_len read_varint skip_fixed skip_value skip_field read_value read_field
    walk_from walk_at role_of rank mode_of to_depth over_kinds counted gives_id kept_with
groups-not-kept = refl
