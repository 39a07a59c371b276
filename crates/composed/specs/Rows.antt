-- Lists and answers, worked out, as one theorem over the calls: for every lent buffer, what `write_rpc` and `sign_fields` tell and leave. Each row is computed.
-- The flags are 0, where no others are named.
use Rattle.std.specs.Prelude.{Result, Ok, Err, ℕ, zero, suc, ◌/◌, ◌%◌, ◌<◌, ◌≡◌, refl, true, false, cond, List, [], ◌∷◌, ◌++◌, drop, replicate, leb}
use Rattle.std.proofs.Common.{ap, ◌∙◌, leb-true}
use native.Mathlib.Omega.{arith}
use Rattle.std.proofs.Math.ListN.{length}
use Rattle.message.specs.RowsLaws.{all-length}
use Rattle.meaning.specs.Table.{IsRecord, AllRecords}
use Rattle.basis.specs.declared.Told.{Told}
use Rattle.basis.specs.Refusals.{bad_setting, malformed, invalid_utf8, too_many-records, key-without-signature, invalid_signature-length}
use Rattle.basis.specs.Refusals.{message-too_long, rpc-too_long, short-room}
use Rattle.basis.specs.Told.{told}
use Rattle.peer_id.specs.Uvarint.{uvarint, bytes_of, read_uvarint, read_from, group_of}
use Rattle.peer_id.specs.PeerId.{hash_of, from_bytes}
use Rattle.key.specs.Decode.{type_of, on_total, on_data, decode_protobuf}
use Rattle.rows.specs.Ids.{same_bytes}
use Rattle.utf8.specs.Utf8.{is_utf8, run}
use Rattle.protobuf.specs.Encode.{tag, bytes_field, varint_field}
use Rattle.schema.specs.declared.Kind.{Kind}
use Rattle.schema.specs.declared.Kind.TheVariants as kind
use Rattle.schema.specs.declared.Place.{Place}
use Rattle.schema.specs.declared.Place.TheVariants as place
use Rattle.schema.specs.declared.Number.{Number}
use Rattle.schema.specs.declared.Number.TheVariants as number
use Rattle.schema.specs.Schema.{own_of}
use Rattle.schema.specs.Made.{number_from, place_from}
use Rattle.message.specs.declared.Record.{Record}
use Rattle.message.specs.Rows.{bare_row, kind_code, number_words, place_words, places_words, words_of, words_of_all, kind_from, record_from}
use Rattle.rpc.specs.Encode.{encode_sub_opts, encode_graft, encode_peer_info, encode_prune, encode_control, encode_rpc, sign_prefix, sign_bytes}
use Rattle.admission.specs.Flags.{known_flags, allows_unsigned}
use Rattle.admission.specs.Admission.{first_long, is_key, key_matches, key_inside, is_peer_id}
use Rattle.admission.specs.Rows.{zeros, peer, head, signature}
use Rattle.admission.specs.declared.Unfit.TheVariants.{KeyWithoutSignature, InvalidSignatureLength, MessageTooLong}
use Rattle.rpc.specs.Rpc.{RawMessage}
use Rattle.rpc.specs.Grammar.{none_left, ◌and◌}
use Rattle.canonical.specs.Calls.{Writes, fits, short}
use Rattle.compose.specs.declared.Wrong.{Wrong}
use Rattle.compose.specs.declared.Wrong.TheVariants.{BadSetting, NotLent, InvalidUtf8, TooManyRecords, Unfit, TooLong}
use Rattle.compose.specs.Lent.{lent_rows, inside_at, fields_inside, row_inside, held_by, lent_from, lent_well}
use Rattle.compose.specs.Said.{encode_fields, encode_message, subscriptions_in, messages_in, grafts_in, prunes_in, topics_from, peers_from, said}
use Rattle.compose.specs.Weighed.{capped, and_then, from_fine, seqno_fine, signature_fine, key_fine, backed_fine}
use Rattle.compose.specs.Weighed.{topics_fine, size_fine, limits_fine, weighed}
use Rattle.compose.specs.Weighed.{first_unfit}
use Rattle.compose.specs.Compose.{text_of, text_fine, texts_fine, count_fine, lists_of, length_fine, flags_fine}
use Rattle.compose.specs.Compose.{write_tested, write_answer, write_left}
use Rattle.compose.specs.Compose.{sign_answer, sign_left}
use Rattle.compose.specs.Told.{wrong_told, composed_told}
use Rattle.compose.specs.Off.{tested-unknown}
use Rattle.composed.specs.Exactly.{put-writes}
use Rattle.composed.specs.Lending.{words-lent}

-- ---- what a row of the table says
-- the bytes xs are written, or 12 is told with the room that they need, and nothing changes
abbrev pub WritesUnder : ℕ → List ℕ → List ℕ → List ℕ → Type 0
WritesUnder flags t b xs = (out : List ℕ) → Writes xs out (composed_told (write_answer flags t b out)) (write_left flags t b out)

abbrev pub WritesAs : List ℕ → List ℕ → List ℕ → Type 0
WritesAs = WritesUnder 0

abbrev pub SignsAs : List ℕ → List ℕ → ℕ → List ℕ → Type 0
SignsAs t b i xs = (out : List ℕ) → Writes xs out (composed_told (sign_answer t b i out)) (sign_left t b i out)

-- a is told, and nothing changes
abbrev pub RefusesUnder : ℕ → List ℕ → List ℕ → Told → Type 0
RefusesUnder flags t b a = (out : List ℕ) → (composed_told (write_answer flags t b out) ≡ a) × (write_left flags t b out ≡ out)

abbrev pub RefusesAs : List ℕ → List ℕ → Told → Type 0
RefusesAs = RefusesUnder 0

-- ---- rows by hand: start and end are 0, and places are counted from 0
abbrev pub no : Place
no = place.Absent

abbrev pub at : ℕ → ℕ → Place
at a e = place.Present a e

abbrev pub by_hand : Kind → Number → Place → Place → Place → Place → Place → Record
by_hand k n p₁ p₂ p₃ p₄ p₅ =
    record {
      kind = k;
      start = 0;
      end = 0;
      slots = record { number = n; first = p₁; second = p₂; third = p₃; fourth = p₄; fifth = p₅ };
    }

abbrev pub sub_opts : Number → Place → Record
sub_opts n p = by_hand kind.SubOpts n p no no no no

abbrev pub message : Place → Place → Place → Place → Place → Record
message f d q s k = by_hand kind.RawMessage number.Absent f d q s k

abbrev pub topic : ℕ → ℕ → Record
topic a e = bare_row kind.Topic a e

abbrev pub graft : Place → Record
graft p = by_hand kind.ControlGraft number.Absent p no no no no

abbrev pub prune : Number → Place → Record
prune n p = by_hand kind.ControlPrune n p no no no no

abbrev pub peer_info : Place → Place → Record
peer_info p q = by_hand kind.PeerInfo number.Absent p q no no no

-- the same row, with another start
abbrev pub from : ℕ → Record → Record
from a r = record { kind = r.kind; start = a; end = a; slots = r.slots }

-- ---- from what is computed of lists to what the calls tell and leave
writes-by : (flags : ℕ) (t b xs : List ℕ) → write_tested flags t b ≡ Ok tt → encode_rpc (said b (lent_rows t)) ≡ xs
    → leb (length xs) 65536 ≡ true → WritesUnder flags t b xs
unfolding write_answer write_left
writes-by flags t b xs h e l out =
    rw (h, e) (put-writes xs out (leb-true (length xs) 65536 l))

refuses-by : (flags : ℕ) (t b : List ℕ) (w : Wrong) → write_tested flags t b ≡ Err w → RefusesUnder flags t b (wrong_told w)
unfolding write_answer write_left
refuses-by flags t b w h out = (rw h, rw h)

signs-by : (t b xs : List ℕ) (i : ℕ) (m : RawMessage) (r : List RawMessage) → lists_of t b ≡ Ok tt
    → drop i (messages_in b (lent_rows t)) ≡ m ∷ r → sign_bytes m ≡ xs → leb (length xs) 65536 ≡ true → SignsAs t b i xs
unfolding sign_answer sign_left
signs-by t b xs i m r h d e l out = rw (h, d, e) (put-writes xs out (leb-true (length xs) 65536 l))

-- ---- the rows
-- `t`
abbrev pub text_t : List ℕ
text_t = 0x74 ∷ []

-- the sender, the sequence number 1, the topic t and a signature of zeros; the rows that say this message; and X
abbrev pub fields : List ℕ
fields = peer ++ (0x01 ∷ 0x74 ∷ zeros 64)

abbrev pub signed : List Record
signed = message (at 0 38) no (at 38 39) (at 40 104) no ∷ topic 39 40 ∷ []

abbrev pub x : List ℕ
x = 0x12 ∷ 0x70 ∷ (head ++ signature)

-- the same with another signature and key, and U, which has neither
abbrev pub bare : Place → Place → List Record
bare s k = message (at 0 38) no (at 38 39) s k ∷ topic 39 40 ∷ []

abbrev pub u : List ℕ
u = 0x12 ∷ 0x2e ∷ head

-- 1, topic 0..1; a number that is not 0 is written as 1
abbrev pub subscription : ℕ → List Record
subscription n = sub_opts (number.Present n) (at 0 1) ∷ []

abbrev pub subscribed : List ℕ
subscribed = 0x0a ∷ 0x05 ∷ 0x08 ∷ 0x01 ∷ 0x12 ∷ 0x01 ∷ 0x74 ∷ []

pub record SmallRows : Type 0 where
  -- none: 0 bytes
  pub nothing : (b : List ℕ) → WritesAs [] b []
  -- SubOpts, number 1, topic 0..1; `t` (number 7: the same)
  pub subscribes : WritesAs (words_of_all (subscription 1)) text_t subscribed
      × WritesAs (words_of_all (subscription 7)) text_t subscribed
  -- SubOpts all absent; SubOpts with topic 0..0
  pub absent : WritesAs (words_of_all (sub_opts number.Absent no ∷ sub_opts number.Absent (at 0 0) ∷ [])) []
      (0x0a ∷ 0x00 ∷ 0x0a ∷ 0x02 ∷ 0x12 ∷ 0x00 ∷ [])
  -- PRUNE number 60 topic 1..2; PeerInfo peer_id 2..4; GRAFT topic 0..1; `74 75 01 02`
  pub control : WritesAs
      (words_of_all (prune (number.Present 60) (at 1 2) ∷ peer_info (at 2 4) no ∷ graft (at 0 1) ∷ []))
      (0x74 ∷ 0x75 ∷ 0x01 ∷ 0x02 ∷ [])
      (0x1a ∷ 0x12 ∷ 0x1a ∷ 0x03 ∷ 0x0a ∷ 0x01 ∷ 0x74 ∷ 0x22 ∷ 0x0b ∷ 0x0a ∷ 0x01 ∷ 0x75 ∷ 0x12 ∷ 0x04 ∷ 0x0a ∷ 0x02
      ∷ 0x01 ∷ 0x02 ∷ 0x18 ∷ 0x3c ∷ [])
  -- GRAFT topic 0..2 over `t`; topic 1..0; row start 1 and topic 0..2^64 - 1
  pub outside : RefusesAs (words_of_all (graft (at 0 2) ∷ [])) text_t (told malformed [])
      × RefusesAs (words_of_all (graft (at 1 0) ∷ [])) text_t (told malformed [])
      × RefusesAs (words_of_all (from 1 (graft (at 0 18446744073709551615)) ∷ [])) text_t (told malformed [])
  -- GRAFT topic 0..1 and a second field 5..9; `t`
  pub not_looked_at : WritesAs (words_of_all (by_hand kind.ControlGraft number.Absent (at 0 1) (at 5 9) no no no ∷ [])) text_t
      (0x1a ∷ 0x05 ∷ 0x1a ∷ 0x03 ∷ 0x0a ∷ 0x01 ∷ 0x74 ∷ [])
  -- GRAFT `t`, SubOpts topic 1..2; `74 ff`: 7 with 1; with a later row out of bounds: 42
  pub no_text : RefusesAs (words_of_all (graft (at 0 1) ∷ sub_opts number.Absent (at 1 2) ∷ [])) (0x74 ∷ 0xff ∷ [])
      (told invalid_utf8 (1 ∷ []))
      × RefusesAs (words_of_all (graft (at 0 1) ∷ sub_opts number.Absent (at 1 2) ∷ graft (at 0 3) ∷ [])) (0x74 ∷ 0xff ∷ [])
      (told malformed [])
  -- row 2, room 6: 12 with 7
  pub short : (out : List ℕ) → length out ≡ 6
      → (composed_told (write_answer 0 (words_of_all (subscription 1)) text_t out) ≡ told short-room (7 ∷ []))
      × (write_left 0 (words_of_all (subscription 1)) text_t out ≡ out)

room_by : {xs out : List ℕ} {a : Told} {l : List ℕ} → Writes xs out a l → length out < length xs
    → (a ≡ told short-room (length xs ∷ [])) × (l ≡ out)
room_by (fits h) k = absurd (omega arith)
room_by (short h) k = (refl, refl)

small : SmallRows
unfolding uvarint bytes_of is_utf8 run tag bytes_field varint_field number_from place_from kind_code number_words place_words places_words words_of kind_from record_from
    encode_sub_opts encode_graft encode_peer_info encode_prune encode_control encode_rpc inside_at fields_inside row_inside held_by lent_well
    subscriptions_in messages_in grafts_in prunes_in topics_from peers_from said text_of text_fine count_fine lists_of length_fine known_flags flags_fine write_tested
small =
    let sub : WritesAs (words_of_all (subscription 1)) text_t subscribed = writes-by 0 _ text_t _ refl refl refl in
    record {
      nothing = λ b. writes-by 0 [] b [] refl refl refl;
      subscribes = (sub, writes-by 0 _ text_t _ refl refl refl);
      absent = writes-by 0 _ [] _ refl refl refl;
      control = writes-by 0 _ _ _ refl refl refl;
      outside = (refuses-by 0 _ text_t NotLent refl, refuses-by 0 _ text_t NotLent refl, refuses-by 0 _ text_t NotLent refl);
      not_looked_at = writes-by 0 _ text_t _ refl refl refl;
      no_text = (refuses-by 0 _ (0x74 ∷ 0xff ∷ []) (InvalidUtf8 1) refl, refuses-by 0 _ (0x74 ∷ 0xff ∷ []) NotLent refl);
      short = λ out h. room_by (sub out) (omega arith);
    }

-- ---- the message of the table
pub record MessageRows : Type 0 where
  -- X, and the 60 bytes to sign
  pub written : WritesAs (words_of_all signed) fields x × SignsAs (words_of_all signed) fields 0 (sign_prefix ++ head)
      × (length (sign_prefix ++ head) ≡ 60)
  -- without the signature: 26 with 0; the bytes to sign are the same
  pub unsigned : RefusesAs (words_of_all (bare no no)) fields (told invalid_signature-length (0 ∷ []))
      × SignsAs (words_of_all (bare no no)) fields 0 (sign_prefix ++ head)
  -- flags 1: X, as before; U; U with the sender's key, and with an empty one: 24; with an empty signature: 26 with 0
  pub allowed : WritesUnder 1 (words_of_all signed) fields x × WritesUnder 1 (words_of_all (bare no no)) fields u
      × RefusesUnder 1 (words_of_all (bare no (at 2 38))) fields (told key-without-signature [])
      × RefusesUnder 1 (words_of_all (bare no (at 0 0))) fields (told key-without-signature [])
      × RefusesUnder 1 (words_of_all (bare (at 0 0) no)) fields (told invalid_signature-length (0 ∷ []))
  -- flags 2 and 3, groups being passed over: as 0 and 1
  pub groups : WritesUnder 2 (words_of_all signed) fields x
      × RefusesUnder 2 (words_of_all (bare no no)) fields (told invalid_signature-length (0 ∷ []))
      × WritesUnder 3 (words_of_all (bare no no)) fields u
  -- flags 4: 40, whatever is lent
  pub unknown : (t b : List ℕ) → RefusesUnder 4 t b (told bad_setting [])
  -- with 4,000 bytes of data, and then an empty one: 30 with 4115
  pub long : RefusesAs
      (words_of_all (message (at 0 38) (at 104 4104) (at 38 39) (at 40 104) no ∷ topic 39 40 ∷ message no no no no no ∷ []))
      (fields ++ replicate 4000 0) (told message-too_long (4115 ∷ []))

messages : MessageRows
unfolding read_uvarint read_from group_of hash_of from_bytes type_of on_total on_data decode_protobuf is_key key_matches key_inside is_peer_id same_bytes first_long
    uvarint bytes_of is_utf8 run tag bytes_field varint_field number_from place_from kind_code number_words place_words places_words words_of kind_from record_from
    encode_sub_opts encode_graft encode_peer_info encode_prune encode_control encode_rpc sign_bytes inside_at fields_inside row_inside held_by lent_well
    encode_fields encode_message subscriptions_in messages_in grafts_in prunes_in topics_from peers_from said text_of text_fine count_fine lists_of length_fine known_flags flags_fine write_tested
    capped from_fine seqno_fine signature_fine key_fine backed_fine topics_fine size_fine limits_fine allows_unsigned weighed
messages =
    record {
      written = (writes-by 0 _ fields _ refl refl refl, signs-by _ fields _ 0 _ [] refl refl refl refl, refl);
      unsigned = (
        refuses-by 0 _ fields (Unfit (InvalidSignatureLength 0)) refl,
        signs-by _ fields _ 0 _ [] refl refl refl refl,
      );
      allowed = (
        writes-by 1 _ fields _ refl refl refl,
        writes-by 1 _ fields _ refl refl refl,
        refuses-by 1 _ fields (Unfit KeyWithoutSignature) refl,
        refuses-by 1 _ fields (Unfit KeyWithoutSignature) refl,
        refuses-by 1 _ fields (Unfit (InvalidSignatureLength 0)) refl,
      );
      groups = (
        writes-by 2 _ fields _ refl refl refl,
        refuses-by 2 _ fields (Unfit (InvalidSignatureLength 0)) refl,
        writes-by 3 _ fields _ refl refl refl,
      );
      unknown = λ t b. refuses-by 4 t b BadSetting (tested-unknown 4 t b refl);
      long = refuses-by 0 _ _ (Unfit (MessageTooLong 4115)) refl;
    }

-- ---- many rows, and long ones: by the rows, and not by the words of the table
lists_by : List Record → List ℕ → ℕ → Result (Unit {0}) Wrong
lists_by rs b n = cond (lent_from (length b) false false rs) (and_then (texts_fine b rs) (count_fine n)) (Err NotLent)

module _ (rs : List Record) (b : List ℕ) (n : ℕ) (own : AllRecords rs) (h : length rs ≡ n) where
  lists_by_lem : lists_of (words_of_all rs) b ≡ lists_by rs b n
  unfolding lists_of lent_well lists_by
  lists_by_lem =
      let l = all-length rs in
      let m : length (words_of_all rs) % 20 ≡ 0 = omega arith in
      let k : length (words_of_all rs) / 20 ≡ n = omega arith in
      rw (words-lent rs own, m, k)

  tested-by : write_tested 0 (words_of_all rs) b
      ≡ and_then (lists_by rs b n) (and_then (first_unfit 0 (messages_in b rs)) (length_fine (encode_rpc (said b rs))))
  unfolding known_flags flags_fine write_tested
  tested-by = rw (lists_by_lem, words-lent rs own)

-- GRAFTs without topic
abbrev pub pairs : ℕ → List ℕ
pairs zero = []
pairs (suc n) = 0x1a ∷ 0x00 ∷ pairs n

-- a control with one GRAFT of that topic, of 65,524 bytes
abbrev pub whole : List ℕ → List ℕ
whole d = 0x1a ∷ 0xfc ∷ 0xff ∷ 0x03 ∷ 0x1a ∷ 0xf8 ∷ 0xff ∷ 0x03 ∷ 0x0a ∷ 0xf4 ∷ 0xff ∷ 0x03 ∷ d

pub record LargeRows : Type 0 where
  -- 513 GRAFTs without topic: 11 with 513; 512: 1,027 bytes
  pub grafts : RefusesAs (words_of_all (replicate 513 (graft no))) [] (told too_many-records (513 ∷ []))
      × WritesAs (words_of_all (replicate 512 (graft no))) [] (0x1a ∷ 0x80 ∷ 0x08 ∷ pairs 512)
      × (length (0x1a ∷ 0x80 ∷ 0x08 ∷ pairs 512) ≡ 1027)
  -- 513 messages, all absent: 11 with 513
  pub messages : RefusesAs (words_of_all (replicate 513 (message no no no no no))) [] (told too_many-records (513 ∷ []))
  -- one GRAFT, topic of 65,524 bytes: 65,536 bytes; of 65,525: 13 with 65537
  pub longest : WritesAs (words_of_all (graft (at 0 65524) ∷ [])) (replicate 65524 0x74) (whole (replicate 65524 0x74))
      × (length (whole (replicate 65524 0x74)) ≡ 65536)
      × RefusesAs (words_of_all (graft (at 0 65525) ∷ [])) (replicate 65525 0x74) (told rpc-too_long (65537 ∷ []))
  -- 66 GRAFTs on the same 1,000 bytes: 13 with 66400
  pub same_bytes_lem : RefusesAs (words_of_all (replicate 66 (graft (at 0 1000)))) (replicate 1000 0x74)
      (told rpc-too_long (66400 ∷ []))

large-by : (rs : List Record) (b xs : List ℕ) (n : ℕ) → AllRecords rs → length rs ≡ n
    → and_then (lists_by rs b n) (and_then (first_unfit 0 (messages_in b rs)) (length_fine (encode_rpc (said b rs)))) ≡ Ok tt
    → encode_rpc (said b rs) ≡ xs → leb (length xs) 65536 ≡ true → WritesAs (words_of_all rs) b xs
large-by rs b xs n own h k e l =
    writes-by 0 (words_of_all rs) b xs (tested-by rs b n own h ∙ k)
    (ap (λ (z : List Record). encode_rpc (said b z)) (words-lent rs own) ∙ e) l

large-refused : (rs : List Record) (b : List ℕ) (n : ℕ) (w : Wrong) → AllRecords rs → length rs ≡ n
    → and_then (lists_by rs b n) (and_then (first_unfit 0 (messages_in b rs)) (length_fine (encode_rpc (said b rs)))) ≡ Err w
    → RefusesAs (words_of_all rs) b (wrong_told w)
large-refused rs b n w own h k = refuses-by 0 (words_of_all rs) b w (tested-by rs b n own h ∙ k)

-- a row, so many times
all_alike : (r : Record) (n : ℕ) → IsRecord r.kind → AllRecords (replicate n r)
all_alike r zero p = none_left
all_alike r (suc n) p = p and all_alike r n p

large : LargeRows
unfolding own_of lists_by uvarint bytes_of is_utf8 run tag bytes_field varint_field kind_code encode_graft encode_control encode_rpc inside_at fields_inside row_inside
    held_by subscriptions_in messages_in grafts_in prunes_in topics_from peers_from said text_of text_fine count_fine length_fine capped
large =
    record {
      grafts = (
        large-refused (replicate 513 (graft no)) [] 513 (TooManyRecords 513) (all_alike (graft no) 513 refl) refl refl,
        large-by (replicate 512 (graft no)) [] _ 512 (all_alike (graft no) 512 refl) refl refl refl refl,
        refl,
      );
      messages = large-refused (replicate 513 (message no no no no no)) [] 513 (TooManyRecords 513)
          (all_alike (message no no no no no) 513 refl) refl refl;
      longest = (
        large-by (graft (at 0 65524) ∷ []) (replicate 65524 0x74) _ 1 (refl and none_left) refl refl refl refl,
        refl,
        large-refused (graft (at 0 65525) ∷ []) (replicate 65525 0x74) 1 (TooLong 65537) (refl and none_left) refl refl,
      );
      same_bytes_lem = large-refused (replicate 66 (graft (at 0 1000))) (replicate 1000 0x74) 66 (TooLong 66400)
          (all_alike (graft (at 0 1000)) 66 refl) refl refl;
    }

pub rows : SmallRows × MessageRows × LargeRows
rows = (small, messages, large)
