-- Which messages may be taken, from the scope's table: 21 to 30 in its order, with 34 after 22, and 35 and 36 after 26.
-- p is the message's own bytes; `flags` are a gateway's. Fit says from the documents which messages are fit.
use Rattle.std.specs.Prelude.{Result, Ok, Err, Option, Some, None, ℕ, ◌-◌, ◌≡◌, List, [], ◌∷◌, map, Bool, true, false, cond, not, ◌&&◌, ◌||◌, length, take, drop, get_or, ltb, eqb}
use Rattle.std.proofs.lemmas.List.Edits.{sets}
use Rattle.basis.specs.declared.Mode.{Mode}
use Rattle.basis.specs.Dialect.{mode_of}
use Rattle.rows.specs.Rows.{tab}
use Rattle.rows.specs.Ids.{same_bytes}
use Rattle.peer_id.specs.declared.PeerId.{PeerId}
use Rattle.peer_id.specs.PeerId.{from_bytes, digest_of}
use Rattle.key.specs.Decode.{decode_protobuf}
use Rattle.protobuf.specs.declared.Field.{Field}
use Rattle.protobuf.specs.Walk.{Fields, end, refused, ◌then◌, fields_of, is_bytes, value_in, between}
use Rattle.schema.specs.declared.Kind.TheVariants as kind
use Rattle.schema.specs.declared.Place.{Place}
use Rattle.schema.specs.declared.Place.TheVariants as place
use Rattle.schema.specs.Count.{counted}
use Rattle.schema.specs.Slots.{slots_of}
use Rattle.ids.specs.Ids.{id_parts, id_bytes}
use Rattle.admission.specs.declared.Topics.{Topics}
use Rattle.admission.specs.declared.Unfit.{Unfit}
use Rattle.admission.specs.declared.Unfit.TheVariants.{MissingFrom, InvalidFrom, InvalidSeqno}
use Rattle.admission.specs.declared.Unfit.TheVariants.{KeyWithoutSignature, MissingSignature}
use Rattle.admission.specs.declared.Unfit.TheVariants.{InvalidSignatureLength, SignatureInvalid, TopicCount}
use Rattle.admission.specs.declared.Unfit.TheVariants.{TopicTooLong, MessageTooLong}
use Rattle.admission.specs.declared.Unfit.TheVariants.{NotPeerId, InvalidKey, KeyPeerIdMismatch}
use Rattle.ids.specs.declared.IdError.TheVariants as noid
use Rattle.ids.specs.declared.IdError.{IdError}
use Rattle.key.specs.declared.PublicKey.{PublicKey}
use Rattle.key.specs.declared.PublicKeyError.{PublicKeyError}
use Rattle.peer_id.specs.declared.PeerId.TheVariants as who
use Rattle.protobuf.specs.declared.WireError.{WireError}
use Rattle.admission.specs.Flags.{allows_unsigned}

-- ---- the topics of a message, in the order of its bytes: its length-delimited fields 4
abbrev pub topics_along : List ℕ → Fields → List (List ℕ)
topics_along p end = []
topics_along p (refused why) = []
topics_along p (f then w) = cond (is_bytes 4 f) (value_in p f ∷ topics_along p w) (topics_along p w)

unfoldable pub topics_of : Mode → List ℕ → List (List ℕ)
topics_of mode p = topics_along p (fields_of mode p)

-- ---- and where they stand in it: the first byte of each, counted from the message's own start, and its length
pub record Span : Type 0 where
  pub start : ℕ
  pub size : ℕ

abbrev pub span_of : Field → Span
span_of f = record { start = f.start; size = f.next - f.start }

abbrev pub places_along : Fields → List Span
places_along end = []
places_along (refused why) = []
places_along (f then w) = cond (is_bytes 4 f) (span_of f ∷ places_along w) (places_along w)

unfoldable pub topic_places : Mode → List ℕ → List Span
topic_places mode p = places_along (fields_of mode p)

-- the bytes that stand there; `cut-topics` of TopicLaws: those of all its topics' places are its topics
abbrev pub cut : List ℕ → Span → List ℕ
cut p s = take s.size (drop s.start p)

-- places as numbers: a list of starts and one of lengths, of which the first n are meant
abbrev pub starts_of : List Span → List ℕ
starts_of l = map (λ (s : Span). s.start) l

abbrev pub sizes_of : List Span → List ℕ
sizes_of l = map (λ (s : Span). s.size) l

unfoldable pub spans_in : List ℕ → List ℕ → ℕ → List Span
spans_in starts sizes n = tab (λ (i : ℕ). record { start = get_or starts i 0; size = get_or sizes i 0 }) n

-- the same places, in the same order
unfoldable pub same_spans : List Span → List Span → Bool
same_spans [] [] = true
same_spans [] (t ∷ ts) = false
same_spans (s ∷ ss) [] = false
same_spans (s ∷ ss) (t ∷ ts) = eqb s.start t.start && (eqb s.size t.size && same_spans ss ts)

-- the length of the first topic above 1,024 bytes, 0 where there is none
unfoldable pub first_long : List (List ℕ) → ℕ
first_long [] = 0
first_long (t ∷ ts) = cond (ltb 1024 (length t)) (length t) (first_long ts)

-- both
abbrev pub topics_in : Mode → List ℕ → Topics
topics_in mode p = record { count = length (topics_of mode p); long = first_long (topics_of mode p) }

-- what `topics_of` answers, and how it leaves two lists a and b: the starts and the lengths are written from their front
-- on, as many as they have places for
pub record FindsTopics (mode : Mode) (p a b : List ℕ) (r : Topics) (a2 b2 : List ℕ) : Type 0 where
  pub topics : r ≡ topics_in mode p
  pub starts : a2 ≡ sets a 0 (starts_of (topic_places mode p))
  pub sizes : b2 ≡ sets b 0 (sizes_of (topic_places mode p))

-- the length of the first topic that is too long, a field of n bytes further
unfoldable pub long_after : Field → ℕ → ℕ → ℕ
long_after f n long = cond (is_bytes 4 f && (eqb long 0 && ltb 1024 n)) n long

-- ---- the tests, each before what is said of a message that passes it: in the end where from and seqno stand in it
abbrev pub Parts : Type 0
Parts = (ℕ × ℕ) × (ℕ × ℕ)

-- ---- 28, 29, 30
unfoldable pub on_limits : {A : Type 0} → Mode → List ℕ → Result A Unfit → Result A Unfit
on_limits mode p r =
    cond (eqb (length (topics_of mode p)) 0 || ltb 4 (length (topics_of mode p)))
    (Err (TopicCount (length (topics_of mode p))))
    (cond (eqb (first_long (topics_of mode p)) 0)
    (cond (ltb 4096 (length p)) (Err (MessageTooLong (length p))) r)
    (Err (TopicTooLong (first_long (topics_of mode p)))))

-- ---- 27: the host's word that the signature verified
abbrev pub on_word : {A : Type 0} → Bool → Result A Unfit → Result A Unfit
on_word true r = r
on_word false r = Err SignatureInvalid

-- ---- 35, 36: the key. s is the sender's own bytes
-- some bytes are a key
abbrev pub is_read : Result PublicKey PublicKeyError → Bool
is_read (Ok key) = true
is_read (Err why) = false

unfoldable pub is_key : List ℕ → Bool
is_key k = is_read (decode_protobuf k)

-- one thing of an identity, another of a SHA-256 multihash
abbrev pub by_hash : Option PeerId → Bool → Bool → Bool
by_hash (Some who.Identity) x y = x
by_hash (Some who.Sha256) x y = y
by_hash None x y = false

-- a key that is there may be the sender's: an identity's digest is the key itself; that a key has this SHA-256 stays in
-- the host's word
unfoldable pub key_matches : List ℕ → List ℕ → Bool
key_matches s k = by_hash (from_bytes s) (same_bytes (digest_of s) k) true

-- where none is there, the sender has one in itself: an identity's digest, if it is a key
unfoldable pub key_inside : List ℕ → Bool
key_inside s = by_hash (from_bytes s) (is_key (digest_of s)) false

abbrev pub on_key : {A : Type 0} → List ℕ → List ℕ → Place → Result A Unfit → Result A Unfit
on_key p s place.Absent r = cond (key_inside s) r (Err KeyPeerIdMismatch)
on_key p s (place.Present a e) r =
    cond (is_key (between p a e)) (cond (key_matches s (between p a e)) r (Err KeyPeerIdMismatch))
    (Err InvalidKey)

-- ---- 24, 25, 26: no signature, with a key or without, or one that is not 64 bytes. r is what is said of a message with
-- a signature, u of one with neither, where these are allowed
abbrev pub on_signature : {A : Type 0} → Bool → Place → Place → Result A Unfit → Result A Unfit → Result A Unfit
on_signature unsigned place.Absent place.Absent r u = cond unsigned u (Err MissingSignature)
on_signature unsigned place.Absent (place.Present a e) r u = Err KeyWithoutSignature
on_signature unsigned (place.Present a e) key r u =
    cond (eqb (e - a) 64) r (Err (InvalidSignatureLength (e - a)))

-- ---- 34
unfoldable pub is_peer_id : List ℕ → Bool
is_peer_id s = by_hash (from_bytes s) true true

abbrev pub on_peer : List ℕ → Result Parts Unfit → Result Parts Unfit
on_peer s r = cond (is_peer_id s) r (Err NotPeerId)

-- the bytes in a place of a message, and its sender
abbrev pub part_at : List ℕ → Place → List ℕ
part_at p place.Absent = []
part_at p (place.Present a e) = between p a e

abbrev pub sender_of : Mode → List ℕ → List ℕ
sender_of mode p = part_at p (slots_of mode kind.RawMessage p).first

-- ---- 21, 22, 23
abbrev pub on_id : ℕ → List ℕ → Bool → Result Parts IdError → Result Parts Unfit
on_id flags p word (Err noid.MissingFrom) = Err MissingFrom
on_id flags p word (Err (noid.InvalidFrom n)) = Err (InvalidFrom n)
on_id flags p word (Err noid.InvalidSeqno) = on_peer (sender_of (mode_of flags) p) (Err InvalidSeqno)
on_id flags p word (Ok ((a, e), (b, f))) =
    on_peer (sender_of (mode_of flags) p)
    (on_signature (allows_unsigned flags) (slots_of (mode_of flags) kind.RawMessage p).fourth
    (slots_of (mode_of flags) kind.RawMessage p).fifth
    (on_key p (sender_of (mode_of flags) p) (slots_of (mode_of flags) kind.RawMessage p).fifth
    (on_word word (on_limits (mode_of flags) p (Ok ((a, e), (b, f))))))
    (on_limits (mode_of flags) p (Ok ((a, e), (b, f)))))

unfoldable pub admission_of : ℕ → List ℕ → Bool → Result Parts Unfit
admission_of flags p word = on_id flags p word (id_parts (mode_of flags) p)

-- ---- a message has a signature: this alone is told by the mark under which its id is seen
abbrev pub is_there : Place → Bool
is_there place.Absent = false
is_there (place.Present a e) = true

unfoldable pub is_signed : Mode → List ℕ → Bool
is_signed mode p = is_there (slots_of mode kind.RawMessage p).fourth

-- one that has, needs the host's word; where unsigned messages are allowed, one that has not, needs none
unfoldable pub vouched : ℕ → List ℕ → Bool → Bool
vouched flags p word = word || (allows_unsigned flags && not (is_signed (mode_of flags) p))

-- ---- a message that may be taken, with its id: what the scope asks of each cached message. The host's word was
-- given when it came.
abbrev pub id_given : List ℕ → List ℕ → Result Parts Unfit → Bool
id_given p i (Err why) = false
id_given p i (Ok ((a, e), (b, f))) = same_bytes (id_bytes p a e b f) i

abbrev pub where_read : Result ℕ WireError → Bool → Bool
where_read (Err why) t = false
where_read (Ok n) t = t

unfoldable pub gives_id : ℕ → List ℕ → List ℕ → Bool
gives_id flags p i = where_read (counted (mode_of flags) kind.RawMessage p) (id_given p i (admission_of flags p true))

-- and with the places of its topics, as they are kept beside it
unfoldable pub kept_with : ℕ → List ℕ → List ℕ → List Span → Bool
kept_with flags p i ts = gives_id flags p i && same_spans (topic_places (mode_of flags) p) ts
