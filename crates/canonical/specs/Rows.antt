-- The nine rows of the scope's table "Bodies and answers" that are marked P, as one theorem over the calls: in every
-- dialect, for every lent table and buffer, what `decode` and `encode` tell and leave, and in the third row also
-- `sign_bytes` of message 0. A refusal has its place beside the Rust's own numbers. Other bodies stand apart: those
-- that the editions do not read alike, both readings beside each other, and those with groups, where groups are passed
-- over.
use Rattle.std.specs.Prelude.{Some, None, Result, Ok, Err, ℕ, zero, suc, ◌+◌, ◌*◌, ◌/◌, ◌≤◌, ◌<◌, ◌≡◌, Bool, true, false}
use Rattle.std.specs.Prelude.{cond, length, drop}
use Rattle.std.proofs.Math.Path.{refl}
use Rattle.std.proofs.Common.{sym, ap, subst, ◌∙◌, le-ltb, lt-ltb}
use mathlib.Core.List.{List, [], ◌∷◌, ◌++◌, map}
use native.Mathlib.Omega.{arith}
use Rattle.std.proofs.Math.ListN.{replicate, length-replicate, length-append}
use Rattle.std.proofs.lemmas.List.Edits.{sets, sets-eq}
use Rattle.basis.specs.declared.Mode.{Mode}
use Rattle.basis.specs.declared.Mode.TheVariants.{Plain, Groups}
use Rattle.basis.specs.declared.Edition.{Edition}
use Rattle.basis.specs.declared.Edition.TheVariants.{V11, V12}
use Rattle.basis.specs.declared.Dialect.{Dialect}
use Rattle.basis.specs.Dialect.{spoken}
use Rattle.basis.specs.declared.Told.{Told}
use Rattle.basis.specs.Refusals.{buffer-too_short, non_canonical, field-overflow, unsupported-wire_type}
use Rattle.basis.specs.Refusals.{invalid_field-number, invalid_utf8, short-room, end-group, group-depth, group_open}
use Rattle.basis.specs.Told.{told, placed as told_at, done}
use Rattle.basis.specs.Writing.{answer, written}
use Rattle.peer_id.specs.declared.VarintError.TheVariants.{BufferTooShort, NonCanonical}
use Rattle.peer_id.specs.Uvarint.{uvarint, bytes_of, read_uvarint, read_from, group_of}
use Rattle.utf8.specs.Utf8.{is_utf8, run}
use Rattle.protobuf.specs.declared.WireError.{WireError}
use Rattle.protobuf.specs.declared.Refusal.{Refusal as Placed}
use Rattle.protobuf.specs.declared.WireError.TheVariants.{Varint, FieldOverflow, UnsupportedWireType}
use Rattle.protobuf.specs.declared.WireError.TheVariants.{InvalidFieldNumber, InvalidUtf8, TooManyRecords}
use Rattle.protobuf.specs.declared.WireError.TheVariants.{EndGroup, GroupDepth, GroupOpen}
use Rattle.protobuf.specs.Refusal.{nowhere}
use Rattle.protobuf.specs.Told.{refusal_told, encoded_told}
use Rattle.protobuf.specs.Field.{read_tag, read_len, read_varint, skip_fixed, skip_value, passed, skip_from, skip_group}
use Rattle.protobuf.specs.Field.{skip_field, read_value, read_field}
use Rattle.protobuf.specs.Walk.{walk_from, walk_at, between}
use Rattle.protobuf.specs.Encode.{tag, bytes_field, varint_field, of_written}
use Rattle.protobuf.specs.EncodeLaws.{bytes_field-length}
use Rattle.schema.specs.declared.Kind.TheVariants as kind
use Rattle.schema.specs.Schema.{role_of, rank, own_of}
use Rattle.schema.specs.Kinds.{to_depth, over_kinds}
use Rattle.schema.specs.Count.{text_count, counted}
use Rattle.schema.specs.Spots.{text_spot, spot_in}
use Rattle.schema.specs.Accept.{body_records, checked, accept_of}
use Rattle.schema.specs.AcceptLaws.{records-many}
use Rattle.schema.specs.Slots.{set_place, with_field, slots_of, has_field}
use Rattle.schema.specs.declared.Place.TheVariants as place
use Rattle.schema.specs.declared.Number.TheVariants as number
use Rattle.message.specs.declared.Record.{Record}
use Rattle.message.specs.declared.DecodeError.TheVariants as dec
use Rattle.message.specs.declared.DecodeError.{DecodeError}
use Rattle.message.specs.Rows.{own_rows, rows_of, kind_code, number_words, place_words, places_words, words_of, words_of_all}
use Rattle.message.specs.Decode.{has_control, on_count, decode_answer, leaves, decode_table}
use Rattle.message.specs.Told.{decoded_told}
use Rattle.rpc.specs.Rpc.{ControlMessage, Rpc}
use Rattle.rpc.specs.Grammar.{Each, none_left, ◌and◌, no_pairs, ◌paired◌, IsRpc}
use Rattle.rpc.specs.Encode.{repeated, encode_iDont_want, encode_control, encode_rpc, sign_prefix}
use Rattle.meaning.specs.Refused.{place_at}
use Rattle.meaning.specs.ReadBack.{read_back}
use Rattle.meaning.specs.Table.{IsRecord, rows_in, table-back}
use Rattle.meaning.specs.Size.{records_in}
use Rattle.meaning.specs.Decoded.{meant-count, records-within}
use Rattle.meaning.specs.Editions.{declines, older}
use Rattle.ids.specs.Ids.{message_at, of_written as message}
use Rattle.ids.specs.Told.{message_told}
use Rattle.encode.specs.Encode.{encode_checked, encode_answer, encoded_checked, encode_left}
use Rattle.encode.specs.Sign.{sign_at, sign_checked, sign_answer, signed_at, signed_checked, sign_left}
use Rattle.canon.specs.Canon.{placed, slot_in, numbered, own_part, held_part, canon, entries_of, merged_of, body_part}
use Rattle.canon.specs.Canon.{canon_body, sign_of}
use Rattle.canon.specs.Lengths.{uvarint_mono}
use Rattle.canon.proofs.Editions.{same-canon}
use Rattle.canonical.specs.Means.{Sized, idontwant-means, Sound, rpc-sound}
use Rattle.canonical.specs.Calls.{Writes, writes}

-- ---- what a row says of the calls
-- both calls tell a, and leave the table and the buffer as they were
pub record Refuses (d : Dialect) (s : List ℕ) (a : Told) : Type 0 where
  pub decodes : (t : List ℕ) → (decoded_told (decode_answer d s (length t)) ≡ a) × (decode_table d s t ≡ t)
  pub encodes : (out : List ℕ) → (encoded_told (encode_answer d s out) ≡ a) × (encode_left d s out ≡ out)

-- a refusal with its values; the offset of its place in the body, and the fields that enclose it
abbrev pub refused : ℕ → List ℕ → ℕ → List ℕ → Told
refused n values offset path = told_at (place_at offset path) (told n values)

-- encode writes bs, or tells 12 with the room that they need and changes nothing
abbrev pub EncodesAs : Dialect → List ℕ → List ℕ → Type 0
EncodesAs d s bs = (out : List ℕ) → Writes bs out (encoded_told (encode_answer d s out)) (encode_left d s out)

-- decode finds no record, and a control where c is 1; every table has the room, and is left as it was
abbrev pub NoRecords : Dialect → List ℕ → ℕ → Type 0
NoRecords d s c = (t : List ℕ) → (decoded_told (decode_answer d s (length t)) ≡ done (0 ∷ c ∷ []))
    × (decode_table d s t ≡ t)

-- decode finds one record and no control: with a row for it in the table, the row is written there, and what is read
-- back is the RPC x; without, it tells 12 with the one row that it needs and changes nothing
pub record OneRecord (d : Dialect) (s row : List ℕ) (x : Rpc) (t : List ℕ) : Type 0 where
  pub fits : 20 ≤ length t → (decoded_told (decode_answer d s (length t)) ≡ done (1 ∷ 0 ∷ []))
      × (decode_table d s t ≡ row ++ drop 20 t) × (read_back s (rows_in (decode_table d s t) 0 1) false ≡ x)
  pub short : length t < 20 → (decoded_told (decode_answer d s (length t)) ≡ told short-room (1 ∷ []))
      × (decode_table d s t ≡ t)

-- ---- the scope's rows
-- the third row's body; the RPC that is read back, with from `42`; and the row of the table: a message (2) that stands
-- from 2 up to 8, and of its bytes from is present from 5 up to 6
abbrev pub third_body : List ℕ
third_body = 0x12 ∷ 0x06 ∷ 0x0a ∷ 0x01 ∷ 0x41 ∷ 0x0a ∷ 0x01 ∷ 0x42 ∷ []

abbrev pub third_rpc : Rpc
third_rpc =
    record {
      subscriptions = [];
      publish =
          record {
            raw = 0x0a ∷ 0x01 ∷ 0x41 ∷ 0x0a ∷ 0x01 ∷ 0x42 ∷ [];
            from = Some (0x42 ∷ []);
            «data» = None;
            seqno = None;
            topic_ids = [];
            signature = None;
            key = None;
          }
          ∷ [];
      control = None;
    }

abbrev pub third_row : List ℕ
third_row =
    2 ∷ 2 ∷ 8 ∷ 0 ∷ 0 ∷ 1 ∷ 5 ∷ 6 ∷ 0 ∷ 0 ∷ 0 ∷ 0 ∷ 0 ∷ 0 ∷ 0 ∷ 0 ∷ 0 ∷ 0 ∷ 0 ∷ 0 ∷ []

-- the seventh row is the one that the modes do not read alike
abbrev pub open_told : Mode → Told
open_told Plain = refused unsupported-wire_type (3 ∷ 1 ∷ []) 1 []
open_told Groups = told group_open []

pub record PRows (d : Dialect) : Type 0 where
  -- empty: accepted; re-encodes empty
  pub empty : NoRecords d [] 0 × EncodesAs d [] []
  -- `1a 00 1a 00`: control present; re-encodes `1a 00`
  pub controls : NoRecords d (0x1a ∷ 0x00 ∷ 0x1a ∷ 0x00 ∷ []) 1
      × EncodesAs d (0x1a ∷ 0x00 ∷ 0x1a ∷ 0x00 ∷ []) (0x1a ∷ 0x00 ∷ [])
  -- `12 06 0a 01 41 0a 01 42`: from `42`; sign bytes: prefix, `0a 01 42`
  pub last-from : ((t : List ℕ) → OneRecord d third_body third_row third_rpc t) × EncodesAs d third_body third_body
      × ((out : List ℕ) → Writes (sign_prefix ++ (0x0a ∷ 0x01 ∷ 0x42 ∷ [])) out
      (message_told (sign_answer d third_body 0 out)) (sign_left d third_body 0 out))
  -- `80`: 1; at 0
  pub varint-short : Refuses d (0x80 ∷ []) (refused buffer-too_short [] 0 [])
  -- `80 00`: 3; at 0
  pub varint-long : Refuses d (0x80 ∷ 0x00 ∷ []) (refused non_canonical [] 0 [])
  -- `00`: 6: field 0, offset 0; at 0
  pub field-zero : Refuses d (0x00 ∷ []) (refused invalid_field-number (0 ∷ 0 ∷ []) 0 [])
  -- `0b`: 5: type 3, offset 1; at 1; and 16 where groups are passed over
  pub type_three : Refuses d (0x0b ∷ []) (open_told d.mode)
  -- `0a 05 08`: 4: offset 2, length 5, remaining 1; at 2
  pub past_end : Refuses d (0x0a ∷ 0x05 ∷ 0x08 ∷ []) (refused field-overflow (2 ∷ 5 ∷ 1 ∷ []) 2 [])
  -- `0a 03 12 01 ff`: 7: offset 1; at 3 in 1
  pub not_utf8 : Refuses d (0x0a ∷ 0x03 ∷ 0x12 ∷ 0x01 ∷ 0xff ∷ []) (refused invalid_utf8 (1 ∷ []) 3 (1 ∷ []))

-- ---- from what is computed of a body to what the calls tell and leave
abbrev at : WireError → ℕ → List ℕ → Placed
at why offset path = record { why = why; spot = place_at offset path }

refuses-by : (d : Dialect) (s : List ℕ) (why : Placed) → body_records d s ≡ Err why
    → Refuses d s (refusal_told why)
unfolding decode_answer decode_table encode_answer encode_left accept_of
refuses-by d s why e =
    record {
      decodes = λ t. (
        ap (λ (r : Result ℕ Placed). decoded_told (on_count (length t / 20) (has_control d.mode s) r)) e,
        ap (λ (r : Result ℕ Placed). leaves d s t (on_count (length t / 20) (has_control d.mode s) r)) e,
      );
      encodes = λ out. (
        ap (λ (r : Result ℕ Placed). encoded_told (encode_checked d s out (checked r))) e,
        ap (λ (r : Result ℕ Placed). encoded_checked d s out (checked r)) e,
      );
    }

answers_by : (d : Dialect) (s : List ℕ) (n : ℕ) (words : ℕ) → body_records d s ≡ Ok n → n ≤ words / 20
    → decode_answer d s words ≡ Ok (n, has_control d.mode s)
unfolding decode_answer
answers_by d s n words e h = ap (on_count (words / 20) (has_control d.mode s)) e ∙ simp (le-ltb (words / 20) n h)

short-by : (d : Dialect) (s : List ℕ) (n : ℕ) (words : ℕ) → body_records d s ≡ Ok n → words / 20 < n
    → decode_answer d s words ≡ Err (dec.Room n)
unfolding decode_answer
short-by d s n words e h = ap (on_count (words / 20) (has_control d.mode s)) e ∙ simp (lt-ltb (words / 20) n h)

leaves_by : (d : Dialect) (s t : List ℕ) (r : Result (ℕ × Bool) DecodeError) → decode_answer d s (length t) ≡ r
    → decode_table d s t ≡ leaves d s t r
unfolding decode_table
leaves_by d s t r e = ap (leaves d s t) e

none-by : (d : Dialect) (s : List ℕ) (c : Bool) → body_records d s ≡ Ok 0 → has_control d.mode s ≡ c
    → rows_of d.mode (kind.Rpc d.edition) 0 s ≡ [] → NoRecords d s (cond c 1 0)
none-by d s c e h r t =
    let a = answers_by d s 0 (length t) e (omega arith) in (
      ap decoded_told a ∙ ap (λ (b : Bool). done (0 ∷ cond b 1 0 ∷ [])) h,
      leaves_by d s t (Ok (0, has_control d.mode s)) a ∙ ap (λ (rs : List Record). sets t 0 (words_of_all rs)) r,
    )

encodes-by : (d : Dialect) (s bs : List ℕ) (n : ℕ) → body_records d s ≡ Ok n → canon_body d s ≡ bs
    → EncodesAs d s bs
unfolding encode_answer encode_left accept_of
encodes-by d s bs n e h out =
    subst
    (λ (r : Result ℕ Placed). Writes bs out (encoded_told (encode_checked d s out (checked r)))
    (encoded_checked d s out (checked r)))
    (sym e)
    (subst (λ (xs : List ℕ). Writes bs out (encoded_told (of_written (answer xs out))) (written xs out)) (sym h)
    (writes (λ z. encoded_told (of_written z)) (λ k. refl) (λ k. refl) bs out))

signs-by : (d : Dialect) (s bs : List ℕ) (n i a e : ℕ) → body_records d s ≡ Ok n
    → message_at d.mode s i ≡ Ok (a, e)
    → sign_of d.mode (between s a e) ≡ bs → (out : List ℕ)
    → Writes bs out (message_told (sign_answer d s i out)) (sign_left d s i out)
unfolding sign_answer sign_left accept_of
signs-by d s bs n i a e q p h out =
    subst
    (λ (r : Result ℕ Placed). Writes bs out (message_told (sign_checked d.mode s i out (checked r)))
    (signed_checked d.mode s i out (checked r)))
    (sym q)
    (subst (λ (r : Result (ℕ × ℕ) ℕ). Writes bs out (message_told (sign_at d.mode s out r)) (signed_at d.mode s out r))
    (sym p)
    (subst (λ (xs : List ℕ). Writes bs out (message_told (message (answer xs out))) (written xs out)) (sym h)
    (writes (λ z. message_told (message z)) (λ k. refl) (λ k. refl) bs out)))

at_front : (row t : List ℕ) → length row ≡ 20 → 20 ≤ length t → sets t 0 row ≡ row ++ drop 20 t
at_front row t k h =
    let z : 0 + length row ≡ 20 = omega arith in
    sets-eq row t 0 (omega arith) ∙ ap (λ (j : ℕ). row ++ drop j t) z

one-by : (d : Dialect) (s row : List ℕ) (x : Rpc) (r : Record) → IsRecord r.kind
    → body_records d s ≡ Ok 1 → has_control d.mode s ≡ false
    → rows_of d.mode (kind.Rpc d.edition) 0 s ≡ r ∷ []
    → words_of_all (r ∷ []) ≡ row → length row ≡ 20 → read_back s (r ∷ []) false ≡ x
    → (t : List ℕ) → OneRecord d s row x t
one-by d s row x r own e c rs w k b t =
    record {
      fits = λ h.
          let a = answers_by d s 1 (length t) e (omega arith) in
          let l = leaves_by d s t (Ok (1, has_control d.mode s)) a
          ∙ ap (λ (z : List Record). sets t 0 (words_of_all z)) rs in (
            ap decoded_told a ∙ ap (λ (z : Bool). done (1 ∷ cond z 1 0 ∷ [])) c,
            l ∙ ap (sets t 0) w ∙ at_front row t k h,
            ap (λ (z : List ℕ). read_back s (rows_in z 0 1) false) l
                ∙ ap (λ (z : List Record). read_back s z false) (table-back t (r ∷ []) (own and none_left) (omega arith))
                ∙ b,
          );
      short = λ h. let a = short-by d s 1 (length t) e (omega arith) in (ap decoded_told a, leaves_by d s t (Err (dec.Room 1)) a);
    }

abbrev third_record : Record
third_record =
    record {
      kind = kind.RawMessage;
      start = 2;
      end = 8;
      slots =
          record {
            number = number.Absent;
            first = place.Present 5 6;
            second = place.Absent;
            third = place.Absent;
            fourth = place.Absent;
            fifth = place.Absent;
          };
    }

row-three : (mode : Mode) (e : Edition) → Refuses (spoken mode e) (0x0b ∷ []) (open_told mode)
unfolding read_uvarint read_from group_of read_tag read_len read_varint skip_fixed skip_value passed skip_from skip_group
    skip_field read_value read_field walk_from walk_at role_of rank own_of text_count text_spot to_depth over_kinds counted spot_in
    body_records
row-three Plain e = refuses-by (spoken Plain e) (0x0b ∷ []) (at (UnsupportedWireType 3 1) 1 []) refl
row-three Groups e = refuses-by (spoken Groups e) (0x0b ∷ []) (nowhere GroupOpen) refl

pub rows : (d : Dialect) → PRows d
unfolding uvarint bytes_of read_uvarint read_from group_of is_utf8 run read_tag read_len read_varint skip_fixed skip_field
    read_value read_field walk_from walk_at tag bytes_field varint_field role_of rank own_of text_count text_spot to_depth
    over_kinds counted spot_in body_records set_place with_field slots_of has_field has_control placed slot_in numbered own_part
    held_part canon entries_of merged_of body_part canon_body sign_of message_at own_rows rows_of number_words place_words
    places_words words_of kind_code read_back declines
rows d =
    record {
      empty = (none-by d [] false refl refl refl, encodes-by d [] [] 0 refl refl);
      controls = (
        none-by d (0x1a ∷ 0x00 ∷ 0x1a ∷ 0x00 ∷ []) true refl refl refl,
        encodes-by d (0x1a ∷ 0x00 ∷ 0x1a ∷ 0x00 ∷ []) (0x1a ∷ 0x00 ∷ []) 0 refl
            (same-canon d.mode d.edition V11 (0x1a ∷ 0x00 ∷ 0x1a ∷ 0x00 ∷ []) refl),
      );
      last-from = (
        one-by d third_body third_row third_rpc third_record refl refl refl refl refl refl refl,
        encodes-by d third_body third_body 1 refl refl,
        signs-by d third_body (sign_prefix ++ (0x0a ∷ 0x01 ∷ 0x42 ∷ [])) 1 0 2 8 refl refl refl,
      );
      varint-short = refuses-by d (0x80 ∷ []) (at (Varint BufferTooShort 0) 0 []) refl;
      varint-long = refuses-by d (0x80 ∷ 0x00 ∷ []) (at (Varint NonCanonical 0) 0 []) refl;
      field-zero = refuses-by d (0x00 ∷ []) (at (InvalidFieldNumber 0 0) 0 []) refl;
      type_three = row-three d.mode d.edition;
      past_end = refuses-by d (0x0a ∷ 0x05 ∷ 0x08 ∷ []) (at (FieldOverflow 2 5 1) 2 []) refl;
      not_utf8 = refuses-by d (0x0a ∷ 0x03 ∷ 0x12 ∷ 0x01 ∷ 0xff ∷ []) (at (InvalidUtf8 1) 3 (1 ∷ [])) refl;
    }

-- ---- other bodies
-- an unknown field of a control is not kept, and the control is; every topic is signed, not only the last
pub worked : (d : Dialect) →
    (canon_body d (0x1a ∷ 0x02 ∷ 0x28 ∷ 0x01 ∷ []) ≡ 0x1a ∷ 0x00 ∷ [])
    × (sign_of d.mode (0x22 ∷ 0x01 ∷ 0x61 ∷ 0x22 ∷ 0x01 ∷ 0x62 ∷ []) ≡ sign_prefix
    ++ (0x22 ∷ 0x01 ∷ 0x61 ∷ 0x22 ∷ 0x01 ∷ 0x62 ∷ []))
unfolding uvarint bytes_of read_uvarint read_from group_of is_utf8 run read_tag read_len read_varint skip_fixed skip_field
    read_value read_field walk_from walk_at tag bytes_field varint_field role_of rank own_of text_count text_spot to_depth
    over_kinds counted spot_in body_records set_place with_field slots_of has_field has_control decode_answer placed slot_in
    numbered own_part held_part canon entries_of merged_of body_part canon_body sign_of declines
worked d = (same-canon d.mode d.edition V11 (0x1a ∷ 0x02 ∷ 0x28 ∷ 0x01 ∷ []) refl, refl)

-- ---- bodies that the editions do not read alike
-- that decode tells them apart as well is `rows-editions` of schema
pub record EditionRows (mode : Mode) : Type 0 where
  -- `1a 03 2a 01 80`: 1.1 re-encodes `1a 00`; 1.2 refuses by 1, at 4 in 3 5
  pub entry-short : EncodesAs (spoken mode V11) (0x1a ∷ 0x03 ∷ 0x2a ∷ 0x01 ∷ 0x80 ∷ []) (0x1a ∷ 0x00 ∷ [])
      × Refuses (spoken mode V12) (0x1a ∷ 0x03 ∷ 0x2a ∷ 0x01 ∷ 0x80 ∷ []) (refused buffer-too_short [] 4 (3 ∷ 5 ∷ []))
  -- `1a 05 2a 03 0a 02 41`: `1a 00`; 4: offset 2, length 2, remaining 1; at 6 in 3 5
  pub id-past-end :
      EncodesAs (spoken mode V11) (0x1a ∷ 0x05 ∷ 0x2a ∷ 0x03 ∷ 0x0a ∷ 0x02 ∷ 0x41 ∷ []) (0x1a ∷ 0x00 ∷ [])
      × Refuses (spoken mode V12) (0x1a ∷ 0x05 ∷ 0x2a ∷ 0x03 ∷ 0x0a ∷ 0x02 ∷ 0x41 ∷ [])
      (refused field-overflow (2 ∷ 2 ∷ 1 ∷ []) 6 (3 ∷ 5 ∷ []))
  -- `1a 05 2a 03 0a 01 ff`: `1a 00`; itself
  pub one-id : EncodesAs (spoken mode V11) (0x1a ∷ 0x05 ∷ 0x2a ∷ 0x03 ∷ 0x0a ∷ 0x01 ∷ 0xff ∷ []) (0x1a ∷ 0x00 ∷ [])
      × EncodesAs (spoken mode V12) (0x1a ∷ 0x05 ∷ 0x2a ∷ 0x03 ∷ 0x0a ∷ 0x01 ∷ 0xff ∷ [])
      (0x1a ∷ 0x05 ∷ 0x2a ∷ 0x03 ∷ 0x0a ∷ 0x01 ∷ 0xff ∷ [])
  -- `1a 07 2a 03 0a 01 41 22 00`: `1a 02 22 00`; `1a 07 22 00 2a 03 0a 01 41`, its records in body order
  pub before-prune :
      EncodesAs (spoken mode V11) (0x1a ∷ 0x07 ∷ 0x2a ∷ 0x03 ∷ 0x0a ∷ 0x01 ∷ 0x41 ∷ 0x22 ∷ 0x00 ∷ [])
      (0x1a ∷ 0x02 ∷ 0x22 ∷ 0x00 ∷ [])
      × EncodesAs (spoken mode V12) (0x1a ∷ 0x07 ∷ 0x2a ∷ 0x03 ∷ 0x0a ∷ 0x01 ∷ 0x41 ∷ 0x22 ∷ 0x00 ∷ [])
      (0x1a ∷ 0x07 ∷ 0x22 ∷ 0x00 ∷ 0x2a ∷ 0x03 ∷ 0x0a ∷ 0x01 ∷ 0x41 ∷ [])
      × (map (λ (r : Record). r.kind)
      (rows_of mode (kind.Rpc V12) 0 (0x1a ∷ 0x07 ∷ 0x2a ∷ 0x03 ∷ 0x0a ∷ 0x01 ∷ 0x41 ∷ 0x22 ∷ 0x00 ∷ []))
      ≡ kind.ControlIDontWant ∷ kind.MessageId ∷ kind.ControlPrune ∷ [])
  -- `1a 02 2a 00 1a 02 22 00`: `1a 02 22 00`; `1a 04 22 00 2a 00`
  pub two-controls :
      EncodesAs (spoken mode V11) (0x1a ∷ 0x02 ∷ 0x2a ∷ 0x00 ∷ 0x1a ∷ 0x02 ∷ 0x22 ∷ 0x00 ∷ [])
      (0x1a ∷ 0x02 ∷ 0x22 ∷ 0x00 ∷ [])
      × EncodesAs (spoken mode V12) (0x1a ∷ 0x02 ∷ 0x2a ∷ 0x00 ∷ 0x1a ∷ 0x02 ∷ 0x22 ∷ 0x00 ∷ [])
      (0x1a ∷ 0x04 ∷ 0x22 ∷ 0x00 ∷ 0x2a ∷ 0x00 ∷ [])
  -- `1a 02 28 07`: `1a 00`; `1a 00`
  pub a_number : EncodesAs (spoken mode V11) (0x1a ∷ 0x02 ∷ 0x28 ∷ 0x07 ∷ []) (0x1a ∷ 0x00 ∷ [])
      × EncodesAs (spoken mode V12) (0x1a ∷ 0x02 ∷ 0x28 ∷ 0x07 ∷ []) (0x1a ∷ 0x00 ∷ [])
  -- `1a 04 2a 02 10 07`: `1a 00`; `1a 02 2a 00`
  pub unknown-inside : EncodesAs (spoken mode V11) (0x1a ∷ 0x04 ∷ 0x2a ∷ 0x02 ∷ 0x10 ∷ 0x07 ∷ []) (0x1a ∷ 0x00 ∷ [])
      × EncodesAs (spoken mode V12) (0x1a ∷ 0x04 ∷ 0x2a ∷ 0x02 ∷ 0x10 ∷ 0x07 ∷ []) (0x1a ∷ 0x02 ∷ 0x2a ∷ 0x00 ∷ [])

pub rows-editions : (mode : Mode) → EditionRows mode
unfolding uvarint bytes_of read_uvarint read_from group_of is_utf8 run read_tag read_len read_varint skip_fixed skip_field
    read_value read_field walk_from walk_at tag bytes_field varint_field role_of rank own_of text_count text_spot to_depth
    over_kinds counted spot_in body_records set_place with_field slots_of has_field placed slot_in numbered own_part held_part
    canon entries_of merged_of body_part canon_body own_rows rows_of
rows-editions mode =
    record {
      entry-short = (
        encodes-by (spoken mode V11) (0x1a ∷ 0x03 ∷ 0x2a ∷ 0x01 ∷ 0x80 ∷ []) (0x1a ∷ 0x00 ∷ []) 0 refl refl,
        refuses-by (spoken mode V12) (0x1a ∷ 0x03 ∷ 0x2a ∷ 0x01 ∷ 0x80 ∷ [])
            (at (Varint BufferTooShort 0) 4 (3 ∷ 5 ∷ [])) refl,
      );
      id-past-end = (
        encodes-by (spoken mode V11) (0x1a ∷ 0x05 ∷ 0x2a ∷ 0x03 ∷ 0x0a ∷ 0x02 ∷ 0x41 ∷ [])
            (0x1a ∷ 0x00 ∷ []) 0 refl refl,
        refuses-by (spoken mode V12) (0x1a ∷ 0x05 ∷ 0x2a ∷ 0x03 ∷ 0x0a ∷ 0x02 ∷ 0x41 ∷ [])
            (at (FieldOverflow 2 2 1) 6 (3 ∷ 5 ∷ [])) refl,
      );
      one-id = (
        encodes-by (spoken mode V11) (0x1a ∷ 0x05 ∷ 0x2a ∷ 0x03 ∷ 0x0a ∷ 0x01 ∷ 0xff ∷ [])
            (0x1a ∷ 0x00 ∷ []) 0 refl refl,
        encodes-by (spoken mode V12) (0x1a ∷ 0x05 ∷ 0x2a ∷ 0x03 ∷ 0x0a ∷ 0x01 ∷ 0xff ∷ [])
            (0x1a ∷ 0x05 ∷ 0x2a ∷ 0x03 ∷ 0x0a ∷ 0x01 ∷ 0xff ∷ []) 2 refl refl,
      );
      before-prune = (
        encodes-by (spoken mode V11) (0x1a ∷ 0x07 ∷ 0x2a ∷ 0x03 ∷ 0x0a ∷ 0x01 ∷ 0x41 ∷ 0x22 ∷ 0x00 ∷ [])
            (0x1a ∷ 0x02 ∷ 0x22 ∷ 0x00 ∷ []) 1 refl refl,
        encodes-by (spoken mode V12) (0x1a ∷ 0x07 ∷ 0x2a ∷ 0x03 ∷ 0x0a ∷ 0x01 ∷ 0x41 ∷ 0x22 ∷ 0x00 ∷ [])
            (0x1a ∷ 0x07 ∷ 0x22 ∷ 0x00 ∷ 0x2a ∷ 0x03 ∷ 0x0a ∷ 0x01 ∷ 0x41 ∷ []) 3 refl refl,
        refl,
      );
      two-controls = (
        encodes-by (spoken mode V11) (0x1a ∷ 0x02 ∷ 0x2a ∷ 0x00 ∷ 0x1a ∷ 0x02 ∷ 0x22 ∷ 0x00 ∷ [])
            (0x1a ∷ 0x02 ∷ 0x22 ∷ 0x00 ∷ []) 1 refl refl,
        encodes-by (spoken mode V12) (0x1a ∷ 0x02 ∷ 0x2a ∷ 0x00 ∷ 0x1a ∷ 0x02 ∷ 0x22 ∷ 0x00 ∷ [])
            (0x1a ∷ 0x04 ∷ 0x22 ∷ 0x00 ∷ 0x2a ∷ 0x00 ∷ []) 2 refl refl,
      );
      a_number = (
        encodes-by (spoken mode V11) (0x1a ∷ 0x02 ∷ 0x28 ∷ 0x07 ∷ []) (0x1a ∷ 0x00 ∷ []) 0 refl refl,
        encodes-by (spoken mode V12) (0x1a ∷ 0x02 ∷ 0x28 ∷ 0x07 ∷ []) (0x1a ∷ 0x00 ∷ []) 0 refl refl,
      );
      unknown-inside = (
        encodes-by (spoken mode V11) (0x1a ∷ 0x04 ∷ 0x2a ∷ 0x02 ∷ 0x10 ∷ 0x07 ∷ []) (0x1a ∷ 0x00 ∷ []) 0 refl refl,
        encodes-by (spoken mode V12) (0x1a ∷ 0x04 ∷ 0x2a ∷ 0x02 ∷ 0x10 ∷ 0x07 ∷ [])
            (0x1a ∷ 0x02 ∷ 0x2a ∷ 0x00 ∷ []) 1 refl
            refl,
      );
    }

-- one entry with so many empty ids: in 1.1 no record; in 1.2 a record for each and for the entry, up to 512 in all.
-- This follows from the RPC that the body means, and is not computed
abbrev pub empty_ids : ℕ → ControlMessage
empty_ids n =
    record {
      ihave = [];
      iwant = [];
      graft = [];
      prune = [];
      idontwant = record { message_ids = replicate n [] } ∷ [];
    }

abbrev pub ids_rpc : ℕ → Rpc
ids_rpc n = record { subscriptions = []; publish = []; control = Some (empty_ids n) }

empty-sized : (n : ℕ) → Each Sized (replicate n [])
empty-sized zero = none_left
empty-sized (suc n) = let z : Sized [] = omega arith in z and empty-sized n

empty-length : (n : ℕ) → length (repeated (bytes_field 1) (replicate n [])) ≡ 2 * n
unfolding bytes_field tag uvarint bytes_of
empty-length zero = refl
empty-length (suc n) = omega (arith, empty-length n)

-- a field of at most 1,100 bytes has at most three bytes more
short-field : (n : ℕ) (d : List ℕ) → length (tag n 2) ≡ 1 → length d ≤ 1100 → length (bytes_field n d) ≤ length d + 3
unfolding uvarint bytes_of
short-field n d t h =
    let u = uvarint_mono (length d) 1100 h in
    omega (arith, bytes_field-length n d)

module _ (mode : Mode) (n : ℕ) (h : n ≤ 512) where
  ids_short : length (encode_rpc (ids_rpc n)) ≤ 1100
  unfolding encode_rpc encode_control encode_iDont_want tag uvarint bytes_of
  ids_short =
      let ids = repeated (bytes_field 1) (replicate n []) in
      let l = empty-length n in
      let a = short-field 5 ids refl (omega arith) in
      let k = length-append (bytes_field 5 ids) [] in
      let b = short-field 3 (bytes_field 5 ids ++ []) refl (omega arith) in
      omega arith

  ids-mean : IsRpc (spoken mode V12) (encode_rpc (ids_rpc n)) (ids_rpc n)
  unfolding encode_iDont_want
  ids-mean =
      let l = empty-length n in
      let z : Sized (encode_iDont_want (record { message_ids = replicate n [] })) = omega arith in
      let s : Sound (spoken mode V12) (empty_ids n) =
      record {
        ihaves = record { mean = no_pairs; sized = none_left };
        iwants = record { mean = no_pairs; sized = none_left };
        grafts = record { mean = no_pairs; sized = none_left };
        prunes = record { mean = no_pairs; sized = none_left };
        idontwants = record {
          mean = idontwant-means mode (record { message_ids = replicate n [] }) (empty-sized n) paired no_pairs;
          sized = z and none_left;
        };
      } in
      rpc-sound (spoken mode V12) (ids_rpc n) (record { mean = no_pairs; sized = none_left })
      (record { mean = no_pairs; sized = none_left }) (s and none_left) (omega (arith, ids_short))

  ids-records : records_in (ids_rpc n) ≡ 1 + n
  unfolding records_in
  ids-records = omega (arith, length-replicate {A = List ℕ} n [])

  ids-older : body_records (spoken mode V11) (encode_rpc (ids_rpc n)) ≡ Ok 0
  unfolding records_in
  ids-older = records-within
      (record { means = older ids-mean; small = omega (arith, ids_short); few = omega arith })

pub rows_full : (mode : Mode) →
    (body_records (spoken mode V11) (encode_rpc (ids_rpc 511)) ≡ Ok 0)
    × (body_records (spoken mode V12) (encode_rpc (ids_rpc 511)) ≡ Ok 512)
    × (body_records (spoken mode V11) (encode_rpc (ids_rpc 512)) ≡ Ok 0)
    × (body_records (spoken mode V12) (encode_rpc (ids_rpc 512)) ≡ Err (nowhere (TooManyRecords 513)))
rows_full mode =
    let a : 511 ≤ 512 = omega arith in
    let b : 512 ≤ 512 = omega arith in
    let r = ids-records mode 511 a in
    let q = ids-records mode 512 b in (
      ids-older mode 511 a,
      records-within (record {
        means = ids-mean mode 511 a;
        small = omega (arith, ids_short mode 511 a);
        few = omega (arith, r);
      }) ∙ ap Ok r,
      ids-older mode 512 b,
      records-many (spoken mode V12) (encode_rpc (ids_rpc 512)) (records_in (ids_rpc 512))
          (omega (arith, ids_short mode 512 b))
          (meant-count (ids-mean mode 512 b)) (omega (arith, q))
          ∙ ap (λ (k : ℕ). Err (nowhere (TooManyRecords k))) q,
    )

-- ---- bodies with groups, where they are passed over
-- a message with a group that holds another `from`; the RPC that is read back, and the row of the table
abbrev pub group_body : List ℕ
group_body = 0x12 ∷ 0x08 ∷ 0x0a ∷ 0x01 ∷ 0x42 ∷ 0x0b ∷ 0x0a ∷ 0x01 ∷ 0x41 ∷ 0x0c ∷ []

abbrev pub group_rpc : Rpc
group_rpc =
    record {
      subscriptions = [];
      publish =
          record {
            raw = 0x0a ∷ 0x01 ∷ 0x42 ∷ 0x0b ∷ 0x0a ∷ 0x01 ∷ 0x41 ∷ 0x0c ∷ [];
            from = Some (0x42 ∷ []);
            «data» = None;
            seqno = None;
            topic_ids = [];
            signature = None;
            key = None;
          }
          ∷ [];
      control = None;
    }

abbrev pub group_row : List ℕ
group_row =
    2 ∷ 2 ∷ 10 ∷ 0 ∷ 0 ∷ 1 ∷ 2 ∷ 3 ∷ 0 ∷ 0 ∷ 0 ∷ 0 ∷ 0 ∷ 0 ∷ 0 ∷ 0 ∷ 0 ∷ 0 ∷ 0 ∷ 0 ∷ []

pub record GroupRows (e : Edition) : Type 0 where
  -- `0b 0c`, `1b 1c`, `83 01 84 01`, `0b 13 14 0c`: accepted; each re-encodes empty
  pub dropped : EncodesAs (spoken Groups e) (0x0b ∷ 0x0c ∷ []) []
      × EncodesAs (spoken Groups e) (0x1b ∷ 0x1c ∷ []) []
      × EncodesAs (spoken Groups e) (0x83 ∷ 0x01 ∷ 0x84 ∷ 0x01 ∷ []) []
      × EncodesAs (spoken Groups e) (0x0b ∷ 0x13 ∷ 0x14 ∷ 0x0c ∷ []) []
  -- `0b`, `0b 08 01`, `1a 01 0b 0c`: 16
  pub left_open : Refuses (spoken Groups e) (0x0b ∷ []) (told group_open [])
      × Refuses (spoken Groups e) (0x0b ∷ 0x08 ∷ 0x01 ∷ []) (told group_open [])
      × Refuses (spoken Groups e) (0x1a ∷ 0x01 ∷ 0x0b ∷ 0x0c ∷ []) (told group_open [])
  -- `0c`, `0b 14`, `0b 13 0c`, `0b 0c 0c`, `12 01 0c`: 14
  pub not_open : Refuses (spoken Groups e) (0x0c ∷ []) (told end-group [])
      × Refuses (spoken Groups e) (0x0b ∷ 0x14 ∷ []) (told end-group [])
      × Refuses (spoken Groups e) (0x0b ∷ 0x13 ∷ 0x0c ∷ []) (told end-group [])
      × Refuses (spoken Groups e) (0x0b ∷ 0x0c ∷ 0x0c ∷ []) (told end-group [])
      × Refuses (spoken Groups e) (0x12 ∷ 0x01 ∷ 0x0c ∷ []) (told end-group [])
  -- 32 × `0b`, 32 × `0c`: re-encodes empty; the same inside `1a 40`: `1a 00`
  pub deepest : EncodesAs (spoken Groups e) (replicate 32 0x0b ++ replicate 32 0x0c) []
      × EncodesAs (spoken Groups e) (0x1a ∷ 0x40 ∷ replicate 32 0x0b ++ replicate 32 0x0c) (0x1a ∷ 0x00 ∷ [])
  -- 33 × `0b`, with ends or without: 15
  pub too_deep : Refuses (spoken Groups e) (replicate 33 0x0b ++ replicate 33 0x0c) (told group-depth [])
      × Refuses (spoken Groups e) (replicate 33 0x0b) (told group-depth [])
  -- 32 × `0b`, `03`: 6: field 0, offset 32; at 32. 32 × `0b`: 16
  pub deep-number : Refuses (spoken Groups e) (replicate 32 0x0b ++ (0x03 ∷ []))
      (refused invalid_field-number (0 ∷ 32 ∷ []) 32 [])
      × Refuses (spoken Groups e) (replicate 32 0x0b) (told group_open [])
  -- `0b 04`: 6: field 0, offset 1; at 1
  pub number-inside : Refuses (spoken Groups e) (0x0b ∷ 0x04 ∷ []) (refused invalid_field-number (0 ∷ 1 ∷ []) 1 [])
  -- `0b 0e`: 5: type 6, offset 2; at 2
  pub type_inside : Refuses (spoken Groups e) (0x0b ∷ 0x0e ∷ []) (refused unsupported-wire_type (6 ∷ 2 ∷ []) 2 [])
  -- `0b 0a 05 08`: 4: offset 3, length 5, remaining 1; at 3
  pub end-inside : Refuses (spoken Groups e) (0x0b ∷ 0x0a ∷ 0x05 ∷ 0x08 ∷ [])
      (refused field-overflow (3 ∷ 5 ∷ 1 ∷ []) 3 [])
  -- `0b 08`: 1; at 2. `0b 80`: 1; at 1. `0b 8c 00`: 3; at 1
  pub varint-inside : Refuses (spoken Groups e) (0x0b ∷ 0x08 ∷ []) (refused buffer-too_short [] 2 [])
      × Refuses (spoken Groups e) (0x0b ∷ 0x80 ∷ []) (refused buffer-too_short [] 1 [])
      × Refuses (spoken Groups e) (0x0b ∷ 0x8c ∷ 0x00 ∷ []) (refused non_canonical [] 1 [])
  -- `12 02 0b 0c`: re-encodes itself; sign bytes: the prefix alone. The first mode refuses by 5: type 3, offset 1; at 3
  -- in 2
  pub kept : EncodesAs (spoken Groups e) (0x12 ∷ 0x02 ∷ 0x0b ∷ 0x0c ∷ []) (0x12 ∷ 0x02 ∷ 0x0b ∷ 0x0c ∷ [])
      × ((out : List ℕ) → Writes sign_prefix out
      (message_told (sign_answer (spoken Groups e) (0x12 ∷ 0x02 ∷ 0x0b ∷ 0x0c ∷ []) 0 out))
      (sign_left (spoken Groups e) (0x12 ∷ 0x02 ∷ 0x0b ∷ 0x0c ∷ []) 0 out))
      × Refuses (spoken Plain e) (0x12 ∷ 0x02 ∷ 0x0b ∷ 0x0c ∷ [])
      (refused unsupported-wire_type (3 ∷ 1 ∷ []) 3 (2 ∷ []))
  -- `12 08 0a 01 42 0b 0a 01 41 0c`: from `42`; re-encodes itself; sign bytes: prefix, `0a 01 42`
  pub other_from : ((t : List ℕ) → OneRecord (spoken Groups e) group_body group_row group_rpc t)
      × EncodesAs (spoken Groups e) group_body group_body
      × ((out : List ℕ) → Writes (sign_prefix ++ (0x0a ∷ 0x01 ∷ 0x42 ∷ [])) out
      (message_told (sign_answer (spoken Groups e) group_body 0 out)) (sign_left (spoken Groups e) group_body 0 out))
  -- `1a 02 0b 0c`: `1a 00`
  pub in_control : EncodesAs (spoken Groups e) (0x1a ∷ 0x02 ∷ 0x0b ∷ 0x0c ∷ []) (0x1a ∷ 0x00 ∷ [])
  -- `0a 05 0b 12 01 ff 0c`: `0a 00`
  pub text-inside : EncodesAs (spoken Groups e) (0x0a ∷ 0x05 ∷ 0x0b ∷ 0x12 ∷ 0x01 ∷ 0xff ∷ 0x0c ∷ []) (0x0a ∷ 0x00 ∷ [])
  -- `0b 10 96 01 0c 1a 00`: `1a 00`
  pub before-control : EncodesAs (spoken Groups e) (0x0b ∷ 0x10 ∷ 0x96 ∷ 0x01 ∷ 0x0c ∷ 0x1a ∷ 0x00 ∷ [])
      (0x1a ∷ 0x00 ∷ [])
  -- `2a 01 0b`: accepted, and re-encodes empty
  pub opaque : EncodesAs (spoken Groups e) (0x2a ∷ 0x01 ∷ 0x0b ∷ []) []

abbrev group_record : Record
group_record =
    record {
      kind = kind.RawMessage;
      start = 2;
      end = 10;
      slots =
          record {
            number = number.Absent;
            first = place.Present 2 3;
            second = place.Absent;
            third = place.Absent;
            fourth = place.Absent;
            fifth = place.Absent;
          };
    }

pub rows-groups : (e : Edition) → GroupRows e
unfolding uvarint bytes_of read_uvarint read_from group_of is_utf8 run read_tag read_len read_varint skip_fixed skip_value passed
    skip_from skip_group skip_field read_value read_field walk_from walk_at tag bytes_field varint_field role_of rank own_of
    text_count text_spot to_depth over_kinds counted spot_in body_records set_place with_field slots_of has_field has_control
    placed slot_in numbered own_part held_part canon entries_of merged_of body_part canon_body sign_of message_at own_rows rows_of
    number_words place_words places_words words_of kind_code read_back declines
rows-groups e =
    record {
      dropped = (
        encodes-by (spoken Groups e) (0x0b ∷ 0x0c ∷ []) [] 0 refl refl,
        encodes-by (spoken Groups e) (0x1b ∷ 0x1c ∷ []) [] 0 refl refl,
        encodes-by (spoken Groups e) (0x83 ∷ 0x01 ∷ 0x84 ∷ 0x01 ∷ []) [] 0 refl refl,
        encodes-by (spoken Groups e) (0x0b ∷ 0x13 ∷ 0x14 ∷ 0x0c ∷ []) [] 0 refl refl,
      );
      left_open = (
        refuses-by (spoken Groups e) (0x0b ∷ []) (nowhere GroupOpen) refl,
        refuses-by (spoken Groups e) (0x0b ∷ 0x08 ∷ 0x01 ∷ []) (nowhere GroupOpen) refl,
        refuses-by (spoken Groups e) (0x1a ∷ 0x01 ∷ 0x0b ∷ 0x0c ∷ []) (nowhere GroupOpen) refl,
      );
      not_open = (
        refuses-by (spoken Groups e) (0x0c ∷ []) (nowhere EndGroup) refl,
        refuses-by (spoken Groups e) (0x0b ∷ 0x14 ∷ []) (nowhere EndGroup) refl,
        refuses-by (spoken Groups e) (0x0b ∷ 0x13 ∷ 0x0c ∷ []) (nowhere EndGroup) refl,
        refuses-by (spoken Groups e) (0x0b ∷ 0x0c ∷ 0x0c ∷ []) (nowhere EndGroup) refl,
        refuses-by (spoken Groups e) (0x12 ∷ 0x01 ∷ 0x0c ∷ []) (nowhere EndGroup) refl,
      );
      deepest = (
        encodes-by (spoken Groups e) (replicate 32 0x0b ++ replicate 32 0x0c) [] 0 refl refl,
        encodes-by (spoken Groups e) (0x1a ∷ 0x40 ∷ replicate 32 0x0b ++ replicate 32 0x0c) (0x1a ∷ 0x00 ∷ []) 0 refl
            (same-canon Groups e V11 (0x1a ∷ 0x40 ∷ replicate 32 0x0b ++ replicate 32 0x0c) refl),
      );
      too_deep = (
        refuses-by (spoken Groups e) (replicate 33 0x0b ++ replicate 33 0x0c) (nowhere GroupDepth) refl,
        refuses-by (spoken Groups e) (replicate 33 0x0b) (nowhere GroupDepth) refl,
      );
      deep-number = (
        refuses-by (spoken Groups e) (replicate 32 0x0b ++ (0x03 ∷ [])) (at (InvalidFieldNumber 0 32) 32 []) refl,
        refuses-by (spoken Groups e) (replicate 32 0x0b) (nowhere GroupOpen) refl,
      );
      number-inside = refuses-by (spoken Groups e) (0x0b ∷ 0x04 ∷ []) (at (InvalidFieldNumber 0 1) 1 []) refl;
      type_inside = refuses-by (spoken Groups e) (0x0b ∷ 0x0e ∷ []) (at (UnsupportedWireType 6 2) 2 []) refl;
      end-inside = refuses-by (spoken Groups e) (0x0b ∷ 0x0a ∷ 0x05 ∷ 0x08 ∷ []) (at (FieldOverflow 3 5 1) 3 []) refl;
      varint-inside = (
        refuses-by (spoken Groups e) (0x0b ∷ 0x08 ∷ []) (at (Varint BufferTooShort 2) 2 []) refl,
        refuses-by (spoken Groups e) (0x0b ∷ 0x80 ∷ []) (at (Varint BufferTooShort 1) 1 []) refl,
        refuses-by (spoken Groups e) (0x0b ∷ 0x8c ∷ 0x00 ∷ []) (at (Varint NonCanonical 1) 1 []) refl,
      );
      kept = (
        encodes-by (spoken Groups e) (0x12 ∷ 0x02 ∷ 0x0b ∷ 0x0c ∷ []) (0x12 ∷ 0x02 ∷ 0x0b ∷ 0x0c ∷ []) 1 refl refl,
        signs-by (spoken Groups e) (0x12 ∷ 0x02 ∷ 0x0b ∷ 0x0c ∷ []) sign_prefix 1 0 2 4 refl refl refl,
        refuses-by (spoken Plain e) (0x12 ∷ 0x02 ∷ 0x0b ∷ 0x0c ∷ []) (at (UnsupportedWireType 3 1) 3 (2 ∷ [])) refl,
      );
      other_from = (
        one-by (spoken Groups e) group_body group_row group_rpc group_record refl refl refl refl refl refl refl,
        encodes-by (spoken Groups e) group_body group_body 1 refl refl,
        signs-by (spoken Groups e) group_body (sign_prefix ++ (0x0a ∷ 0x01 ∷ 0x42 ∷ [])) 1 0 2 10 refl refl refl,
      );
      in_control = encodes-by (spoken Groups e) (0x1a ∷ 0x02 ∷ 0x0b ∷ 0x0c ∷ []) (0x1a ∷ 0x00 ∷ []) 0 refl
          (same-canon Groups e V11 (0x1a ∷ 0x02 ∷ 0x0b ∷ 0x0c ∷ []) refl);
      text-inside = encodes-by (spoken Groups e) (0x0a ∷ 0x05 ∷ 0x0b ∷ 0x12 ∷ 0x01 ∷ 0xff ∷ 0x0c ∷ [])
          (0x0a ∷ 0x00 ∷ []) 1 refl refl;
      before-control = encodes-by (spoken Groups e) (0x0b ∷ 0x10 ∷ 0x96 ∷ 0x01 ∷ 0x0c ∷ 0x1a ∷ 0x00 ∷ [])
          (0x1a ∷ 0x00 ∷ []) 0 refl
          (same-canon Groups e V11 (0x0b ∷ 0x10 ∷ 0x96 ∷ 0x01 ∷ 0x0c ∷ 0x1a ∷ 0x00 ∷ []) refl);
      opaque = encodes-by (spoken Groups e) (0x2a ∷ 0x01 ∷ 0x0b ∷ []) [] 0 refl refl;
    }
