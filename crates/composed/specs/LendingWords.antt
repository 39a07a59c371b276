-- On the way to what can be lent: the words of a body's records are below 2^64.
use Rattle.std.specs.Prelude.{Result, Ok, Err, Option, Some, None, ℕ, zero, suc, ◌+◌, ◌-◌, ◌^◌, ◌≤◌, ◌<◌, ◌≡◌, List, [], ◌∷◌, length, drop, eqb}
use Rattle.std.proofs.Math.Path.{refl}
use Rattle.std.proofs.Common.{sym, subst, arith}
use Rattle.basis.specs.declared.Mode.{Mode}
use Rattle.basis.specs.declared.Dialect.{Dialect}
use Rattle.basis.specs.Cases.{either, clash}
use Rattle.basis.specs.Bytes.{Bytes}
use Rattle.basis.specs.Lists.{take-bytes, drop-bytes}
use Rattle.peer_id.specs.declared.VarintError.{VarintError}
use Rattle.peer_id.specs.Uvarint.{read_uvarint}
use Rattle.protobuf.specs.declared.Field.{Field}
use Rattle.protobuf.specs.declared.WireError.{WireError}
use Rattle.protobuf.specs.Field.{located, read_tag, read_len, read_varint, skip_field, of_value, of_part, of_skip, read_value, of_tag, read_field}
use Rattle.protobuf.specs.Grammar.{max_groups}
use Rattle.protobuf.specs.Laws.{part-fits}
use Rattle.protobuf.specs.Spelt.{spelt}
use Rattle.protobuf.specs.Walk.{Fields, fields_of, between}
use Rattle.protobuf.specs.WalkLaws.{along, between-length}
use Rattle.schema.specs.declared.Kind.{Kind}
use Rattle.schema.specs.declared.Kind.TheVariants as kind
use Rattle.schema.specs.declared.Form.{Form}
use Rattle.schema.specs.declared.Number.{Number as Num}
use Rattle.schema.specs.declared.Place.{Place}
use Rattle.schema.specs.declared.Place.TheVariants as place
use Rattle.schema.specs.declared.Slots.{Slots}
use Rattle.schema.specs.declared.Role.{Role}
use Rattle.schema.specs.declared.Role.TheVariants.{Skip as Passed, Number, Text, Bytes as BytesRole, Unsigned, Topic, MessageId, Sub}
use Rattle.schema.specs.Schema.{role_of, rank, own_of}
use Rattle.schema.specs.SchemaLaws.{sub-rank}
use Rattle.schema.specs.Kinds.{by_rank}
use Rattle.schema.specs.Slots.{no_slots, set_place, place_of, role_slots, with_field, slots_along, slots_of}
use Rattle.schema.specs.SlotsLaws.{PlaceInside}
use Rattle.schema.proofs.SlotsLaws.{slots_inside}
use Rattle.message.specs.declared.Record.{Record}
use Rattle.message.specs.Rows.{kind_code, number_words, place_words, places_words, words_of, words_of_all, role_rows, rows_along, own_rows, rows_of}
use Rattle.message.specs.RowsLaws.{rows_along_lem}
use Rattle.rpc.specs.Grammar.{Each, none_left, ◌and◌}
use Rattle.meaning.specs.Table.{each_append}
use Rattle.canonical.specs.Means.{Small}
use Rattle.composed.specs.Written.{Words}

-- ---- a field's value
module _ (mode : Mode) (s : List ℕ) (b : Bytes s) (l : length s < 2 ^ 64) (f : Field) where
  varint-value : (n type to : ℕ) (r : Result (ℕ × ℕ) VarintError) → r ≡ read_uvarint (drop to s) → Ok (Some f) ≡ of_value n type to (located to r)
      → f.value < 2 ^ 64
  varint-value n type to (Ok (x, m)) q h =
      let z = spelt s to x m b q in let e : f.value ≡ x = cc in omega (arith, z.bound)
  varint-value n type to (Err why) q h = clash (cc)

  part-value : (n type to : ℕ) (r : Result (ℕ × ℕ) WireError) → r ≡ read_len s to → Ok (Some f) ≡ of_part n type to r → f.value < 2 ^ 64
  part-value n type to (Ok (a, e)) q h =
      let m = part-fits s to a e q in let z : f.value ≡ e - a = cc in omega arith
  part-value n type to (Err why) q h = clash (cc)

  skip_value_lem : (n type to : ℕ) (r : Result ℕ WireError) → Ok (Some f) ≡ of_skip n type to r → f.value < 2 ^ 64
  skip_value_lem n type to (Ok e) h = let z : f.value ≡ 0 = cc in omega arith
  skip_value_lem n type to (Err why) h = clash (cc)

  read_value_lem : (n type to : ℕ) → Ok (Some f) ≡ read_value mode s n type to → f.value < 2 ^ 64
  unfolding read_value read_varint
  read_value_lem n type to h =
      either (eqb type 0) (λ t0. varint-value n type to (read_uvarint (drop to s)) refl (simp t0 at h))
      (λ t0. either (eqb type 2) (λ t2. part-value n type to (read_len s to) refl (simp (t0, t2) at h))
      (λ t2. skip_value_lem n type to (skip_field mode max_groups s to n type) (simp (t0, t2) at h)))

  tag-value : (r : Result (Option (ℕ × ℕ × ℕ)) WireError) → Ok (Some f) ≡ of_tag mode s r → f.value < 2 ^ 64
  tag-value (Ok None) h = clash (cc)
  tag-value (Err why) h = clash (cc)
  tag-value (Ok (Some (n, type, to))) h = read_value_lem n type to h

  field-value : (at : ℕ) → Ok (Some f) ≡ read_field mode s at → f.value < 2 ^ 64
  unfolding read_field
  field-value at h = tag-value (read_tag s at) h

-- ---- the words of a record
two : {x y : ℕ} → Small x → Small y → Each Small (x ∷ y ∷ [])
two p q = p and q and none_left

three : {x y z : ℕ} → Small x → Small y → Small z → Each Small (x ∷ y ∷ z ∷ [])
three p q r = p and q and r and none_left

place_words_lem : (s : List ℕ) → length s < 2 ^ 64 → (p : Place) → PlaceInside s p → Each Small (place_words p)
unfolding place_words
place_words_lem s l place.Absent h = three (omega arith) (omega arith) (omega arith)
place_words_lem s l (place.Present a e) h = let g = h a e refl in three (omega arith) (omega arith) (omega arith)

code-small : (k : Kind) → Small (kind_code k)
unfolding kind_code
code-small (kind.Rpc d) = omega arith
code-small kind.SubOpts = omega arith
code-small kind.RawMessage = omega arith
code-small kind.Topic = omega arith
code-small (kind.ControlMessage d) = omega arith
code-small kind.ControlIHave = omega arith
code-small kind.ControlIWant = omega arith
code-small kind.MessageId = omega arith
code-small kind.ControlGraft = omega arith
code-small kind.ControlPrune = omega arith
code-small kind.PeerInfo = omega arith
code-small kind.ControlIDontWant = omega arith

record_words : (r : Record) → Small r.start → Small r.end → Each Small (number_words r.slots.number)
    → Each Small (places_words r.slots) → Each Small (words_of r)
unfolding words_of
record_words r a e n p = each_append (three (code-small r.kind) a e) (each_append n p)

-- ---- the number of a message
set_number_lem : (t : Slots) (slot : ℕ) (p : Place) → (set_place t slot p).number ≡ t.number
unfolding set_place
set_number_lem t slot p =
    either (eqb slot 1) (λ a. simp a)
    (λ a. either (eqb slot 2) (λ b. simp (a, b))
    (λ b. either (eqb slot 3) (λ c. simp (a, b, c)) (λ c. either (eqb slot 4) (λ d. simp (a, b, c, d)) (λ d. simp (a, b, c, d)))))

abbrev NumberFits : Slots → Type 0
NumberFits t = Each Small (number_words t.number)

set-fits : (t : Slots) (slot : ℕ) (p : Place) → NumberFits t → NumberFits (set_place t slot p)
set-fits t slot p h = subst (λ (n : Num). Each Small (number_words n)) (sym (set_number_lem t slot p)) h

role_number : (t : Slots) (f : Field) (r : Role) → f.value < 2 ^ 64 → NumberFits t → NumberFits (role_slots t f r)
unfolding number_words
role_number t f Passed v h = h
role_number t f (Number figure) v h = two (omega arith) v
role_number t f (Text slot) v h = set-fits t slot (place_of f) h
role_number t f (BytesRole slot) v h = set-fits t slot (place_of f) h
role_number t f (Unsigned slot) v h = set-fits t slot (place_of f) h
role_number t f Topic v h = h
role_number t f MessageId v h = h
role_number t f (Sub k form) v h = h

no_number : NumberFits no_slots
unfolding number_words
no_number = two (omega arith) (omega arith)

slots_number : (mode : Mode) (k : Kind) (s : List ℕ) → Bytes s → length s < 2 ^ 64 → NumberFits (slots_of mode k s)
unfolding slots_of with_field
slots_number mode k s b l =
    along mode s (λ (at : ℕ) (w : Fields). (t : Slots) → NumberFits t → NumberFits (slots_along k t w))
    (λ at t h. h)
    (λ at why e t h. h)
    (λ at f st e rest t h. rest (role_slots t f (role_of k f.field f.wire_type))
    (role_number t f (role_of k f.field f.wire_type) (field-value mode s b l f at e) h))
    0 no_slots no_number

-- ---- the rows of a body
abbrev Fits : Record → Type 0
Fits r = Each Small (words_of r)

own-words : (mode : Mode) (k : Kind) (base : ℕ) (s : List ℕ) → Bytes s → base + length s < 2 ^ 64
    → Each Fits (own_rows mode k base s)
unfolding own_rows places_words
own-words mode k base s b l =
    let g = slots_inside mode k s in
    let m : length s < 2 ^ 64 = omega arith in
    let r : Fits (record { kind = k; start = base; end = base + length s; slots = slots_of mode k s }) =
    record_words (record { kind = k; start = base; end = base + length s; slots = slots_of mode k s }) (omega arith) l
    (slots_number mode k s b m)
    (each_append (place_words_lem s m (slots_of mode k s).first g.first)
    (each_append (place_words_lem s m (slots_of mode k s).second g.second)
    (each_append (place_words_lem s m (slots_of mode k s).third g.third)
    (each_append (place_words_lem s m (slots_of mode k s).fourth g.fourth)
    (place_words_lem s m (slots_of mode k s).fifth g.fifth))))) in
    either (eqb (own_of k) 0) (λ t. simp t none_left) (λ t. simp t (r and none_left))

absent-words : Each Small (place_words place.Absent)
unfolding place_words
absent-words = three (omega arith) (omega arith) (omega arith)

leaf-words : (k : Kind) (a e : ℕ) → Small a → Small e → Fits (record { kind = k; start = a; end = e; slots = no_slots })
unfolding places_words
leaf-words k a e p q =
    record_words (record { kind = k; start = a; end = e; slots = no_slots }) p q no_number
    (each_append absent-words (each_append absent-words (each_append absent-words (each_append absent-words absent-words))))

role_words : (mode : Mode) (base : ℕ) (s : List ℕ) (f : Field) (r : Role) → Bytes s → base + length s < 2 ^ 64
    → f.start ≤ f.next → f.next ≤ length s
    → ((j : Kind) (form : Form) (b : ℕ) (p : List ℕ) → r ≡ Sub j form → Bytes p → b + length p < 2 ^ 64
    → Each Fits (rows_of mode j b p))
    → Each Fits (role_rows (rows_of mode) base s f r)
role_words mode base s f Passed b l o w h = none_left
role_words mode base s f (Number figure) b l o w h = none_left
role_words mode base s f (Text slot) b l o w h = none_left
role_words mode base s f (BytesRole slot) b l o w h = none_left
role_words mode base s f (Unsigned slot) b l o w h = none_left
role_words mode base s f Topic b l o w h =
    leaf-words kind.Topic (base + f.start) (base + f.next) (omega arith) (omega arith) and none_left
role_words mode base s f MessageId b l o w h =
    leaf-words kind.MessageId (base + f.start) (base + f.next) (omega arith) (omega arith) and none_left
role_words mode base s f (Sub k form) b l o w h =
    let z = between-length s f.start f.next w in
    h k form (base + f.start) (between s f.start f.next) refl
    (take-bytes (f.next - f.start) (drop f.start s) (drop-bytes f.start s b)) (omega arith)

along-words : (mode : Mode) (k : Kind) (base : ℕ) (s : List ℕ) → Bytes s → base + length s < 2 ^ 64
    → ((j : Kind) (b : ℕ) (p : List ℕ) → rank j < rank k → Bytes p → b + length p < 2 ^ 64
    → Each Fits (rows_of mode j b p))
    → Each Fits (rows_along (rows_of mode) k base s (fields_of mode s))
along-words mode k base s b l h =
    along mode s (λ (at : ℕ) (w : Fields). Each Fits (rows_along (rows_of mode) k base s w))
    (λ at. none_left)
    (λ at why e. none_left)
    (λ at f st e rest. each_append
    (role_words mode base s f (role_of k f.field f.wire_type) b l st.ends st.within
    (λ j form a p q c m. h j a p (sub-rank k j form f.field f.wire_type q) c m))
    rest)
    0

rows_words_lem : (mode : Mode) (k : Kind) (base : ℕ) (s : List ℕ) → Bytes s → base + length s < 2 ^ 64
    → Each Fits (rows_of mode k base s)
rows_words_lem mode =
    by_rank (λ k. (base : ℕ) (s : List ℕ) → Bytes s → base + length s < 2 ^ 64 → Each Fits (rows_of mode k base s))
    (λ k ih base s b l. subst (Each Fits) (sym (rows_along_lem mode k base s))
    (each_append (own-words mode k base s b l) (along-words mode k base s b l (λ j a p q c m. ih j q a p c m))))

-- ---- and all their words
all_words : {rs : List Record} → Each Fits rs → Each Small (words_of_all rs)
all_words none_left = none_left
all_words (p and ps) = each_append p (all_words ps)

each-words : {t : List ℕ} → Each Small t → Words t
each-words none_left i = omega arith
each-words (p and ps) zero = p
each-words (p and ps) (suc i) = each-words ps i

pub body-words : (d : Dialect) (s : List ℕ) → Bytes s → length s < 2 ^ 64
    → Words (words_of_all (rows_of d.mode (kind.Rpc d.edition) 0 s))
body-words d s b l = each-words (all_words (rows_words_lem d.mode (kind.Rpc d.edition) 0 s b (omega arith)))
