-- A message is refused, by this reason and at this place, exactly where its first refusal in reading order has them; so
-- there is at most one. The place lies within the message, and the path is one of nine, in 1.2 of ten. 14 to 16 carry
-- no place.
use Rattle.std.specs.Prelude.{Option, None, Result, Ok, Err, Some, ℕ, ◌+◌, ◌-◌, ◌*◌, ◌^◌, ◌≤◌, ◌<◌, ◌≡◌, refl, false, cond, List, [], ◌∷◌, ◌++◌, ◌↔◌, length, drop, eqb}
use Rattle.std.proofs.Common.{sym, ap, ap₂, subst, ◌∙◌, append_assoc, arith, length-append, length-drop, eqb-true, eq-eqb, ne_eqb}
use Rattle.basis.specs.declared.Mode.{Mode}
use Rattle.basis.specs.declared.Mode.TheVariants.{Groups}
use Rattle.basis.specs.declared.Edition.{Edition}
use Rattle.basis.specs.declared.Edition.TheVariants.{V11, V12}
use Rattle.basis.specs.declared.Spot.{Spot}
use Rattle.basis.specs.Spot.{at as spot-at, inside as enclosed, or_else, fields_of as numbersOf}
use Rattle.basis.specs.Cases.{either, clash}
use Rattle.basis.specs.Bytes.{Bytes as AreBytes}
use Rattle.basis.specs.Lists.{take-bytes, drop-bytes}
use Rattle.utf8.specs.Grammar.{Utf8}
use Rattle.utf8.specs.Utf8.{is_utf8}
use Rattle.utf8.specs.Laws.{exactly as utf8-exactly}
use Rattle.peer_id.specs.declared.VarintError.{VarintError}
use Rattle.peer_id.specs.declared.VarintError.TheVariants.{BufferTooShort, Overflow, NonCanonical}
use Rattle.peer_id.specs.Told.{varint_told}
use Rattle.peer_id.specs.Uvarint.{uvarint}
use Rattle.protobuf.specs.declared.Field.{Field}
use Rattle.protobuf.specs.declared.WireError.{WireError}
use Rattle.protobuf.specs.declared.WireError.TheVariants.{InvalidUtf8}
use Rattle.protobuf.specs.Refusal.{spot_of, placed_as}
use Rattle.protobuf.specs.Field.{read_field}
use Rattle.protobuf.specs.Laws.{Stands, field-stands}
use Rattle.protobuf.specs.Grammar.{Payload, bytes, Entry, Value, varint, i64, len-prefix, i32, Holds, value, grouped}
use Rattle.protobuf.specs.Grammar.{levels_of}
use Rattle.protobuf.specs.Encode.{tag, bytes_field}
use Rattle.protobuf.specs.Told.{refusal_number}
use Rattle.protobuf.specs.Faults.{FaultIn, bad-tag, bad-number, bad_type, bad-value, bad-length, too_long, too_wide}
use Rattle.protobuf.specs.Faults.{too_deep, unclosed, crossed, within, Fault, of_field, stray}
use Rattle.protobuf.specs.FaultLaws.{is-fault, fault-refused}
use Rattle.protobuf.specs.Walk.{Fields, walk_at, payload_of, entry_of, value_in}
use Rattle.protobuf.specs.WalkLaws.{along, walk_on, between-length}
use Rattle.protobuf.specs.Exactly.{Stood, field-stood, Found, found}
use Rattle.protobuf.specs.RefusalLaws.{told-place}
use Rattle.schema.specs.declared.Kind.{Kind}
use Rattle.schema.specs.declared.Kind.TheVariants as kind
use Rattle.schema.specs.declared.Form.{Form}
use Rattle.schema.specs.declared.Role.{Role}
use Rattle.schema.specs.declared.Role.TheVariants.{Skip, Number, Text, Bytes, Unsigned, Topic, MessageId, Sub}
use Rattle.schema.specs.Schema.{added_in, row_from, row_of, is_varint, role_of, rank, own_of}
use Rattle.schema.specs.SchemaLaws.{sub-rank}
use Rattle.schema.specs.Kinds.{by_rank}
use Rattle.schema.specs.Count.{plus, and_then, text_count, role_count, count_along, counted}
use Rattle.schema.specs.CountLaws.{count_along_lem, plus-refused}
use Rattle.schema.specs.Spots.{text_spot, role_spot, spot_along, spot_in}
use Rattle.schema.specs.SpotsLaws.{spot_along_lem, role_clean}
use Rattle.schema.specs.TextLaws.{IsText, text as is-text, topic as is-topic}
use Rattle.meaning.specs.Refused.{FineAs, Fine, RefusedAt, wire, text, inside, later, place_at, told_at}
use Rattle.meaning.specs.Good.{GoodRole, counts-good, good-counts, other_counts}
use Rattle.meaning.specs.Accepted.{meant, meant-accepted}

-- ---- the place, one field out
pub place_inside : (n start offset : ℕ) (path : List ℕ)
    → enclosed n start (place_at offset path) ≡ place_at (start + offset) (n ∷ path)
place_inside n start offset [] = refl
place_inside n start offset (a ∷ []) = refl
place_inside n start offset (a ∷ b ∷ []) = refl
place_inside n start offset (a ∷ b ∷ c ∷ rest) = refl

-- a place comes first
place-first : (offset : ℕ) (path : List ℕ) (x : Option Spot) → or_else (place_at offset path) x ≡ place_at offset path
place-first offset [] x = refl
place-first offset (a ∷ []) x = refl
place-first offset (a ∷ b ∷ []) x = refl
place-first offset (a ∷ b ∷ c ∷ rest) x = refl

-- ---- a place as it is told: what is done to places alike is told alike
told-by : (own x y : Option Spot) (f : Option Spot → Option Spot) → placed_as own x ≡ placed_as own y → placed_as own (f x) ≡ placed_as own (f y)
told-by None x y f e = refl
told-by (Some spot) x y f e = ap f e

-- a refusal's own place
told-own : (own x : Option Spot) → own ≡ placed_as own x → placed_as own own ≡ placed_as own x
told-own None x e = refl
told-own (Some spot) x e = e

-- ---- what a field holds, and its role
bytes-payload : (s : List ℕ) (f : Field) → f.wire_type ≡ 2 → payload_of s f ≡ bytes (value_in s f)
unfolding payload_of
bytes-payload s f w = let n : eqb f.wire_type 0 ≡ false = ne_eqb f.wire_type 0 (λ z. omega arith) in
    simp (n, eq-eqb f.wire_type 2 w)

other_fine : (mode : Mode) (k : Kind) (n : ℕ) (s : List ℕ) (f : Field) → eqb f.wire_type 2 ≡ false
    → Fine mode k n (payload_of s f)
unfolding payload_of
other_fine mode k n s f t2 =
    either (eqb f.wire_type 0) (λ t0. simp t0 tt)
    (λ t0. either (eqb f.wire_type 3) (λ t3. simp (t0, t2, t3) tt)
    (λ t3. either (eqb f.wire_type 5) (λ t5. simp (t0, t2, t3, t5) tt) (λ t5. simp (t0, t2, t3, t5) tt)))

good-fine : (mode : Mode) (r : Role) (d : List ℕ) → AreBytes d → GoodRole mode r d → FineAs mode r d
good-fine mode Skip d b g = tt
good-fine mode (Number figure) d b g = tt
good-fine mode (Text slot) d b g = g
good-fine mode (Bytes slot) d b g = tt
good-fine mode (Unsigned slot) d b g = tt
good-fine mode Topic d b g = g
good-fine mode MessageId d b g = tt
good-fine mode (Sub j form) d b g = meant mode j d b g

fine-good : (mode : Mode) (r : Role) (d : List ℕ) → FineAs mode r d → GoodRole mode r d
fine-good mode Skip d g = tt
fine-good mode (Number figure) d g = tt
fine-good mode (Text slot) d g = g
fine-good mode (Bytes slot) d g = tt
fine-good mode (Unsigned slot) d g = tt
fine-good mode Topic d g = g
fine-good mode MessageId d g = tt
fine-good mode (Sub j form) d g = meant-accepted mode j d g

value-bytes : (s : List ℕ) (f : Field) → AreBytes s → AreBytes (value_in s f)
value-bytes s f b = take-bytes (f.next - f.start) (drop f.start s) (drop-bytes f.start s b)

-- a field is counted exactly where it is without refusal
abbrev RoleAt : Kind → Field → Role
RoleAt k f = role_of k f.field f.wire_type

counts-fine : (mode : Mode) (k : Kind) (s : List ℕ) (f : Field) (m : ℕ) → AreBytes s
    → role_count (counted mode) s f (RoleAt k f) ≡ Ok m → Fine mode k f.field (payload_of s f)
counts-fine mode k s f m b h =
    either (eqb f.wire_type 2)
    (λ t. let w = eqb-true f.wire_type 2 t in
    let r : RoleAt k f ≡ role_of k f.field 2 = ap (role_of k f.field) w in
    subst (Fine mode k f.field) (sym (bytes-payload s f w))
    (good-fine mode (role_of k f.field 2) (value_in s f) (value-bytes s f b)
    (subst (λ (x : Role). GoodRole mode x (value_in s f)) r (counts-good mode s f (RoleAt k f) m h))))
    (λ t. other_fine mode k f.field s f t)

fine-counts : (mode : Mode) (k : Kind) (s : List ℕ) (f : Field) → Fine mode k f.field (payload_of s f)
    → (m : ℕ) × (role_count (counted mode) s f (RoleAt k f) ≡ Ok m)
fine-counts mode k s f h =
    either (eqb f.wire_type 2)
    (λ t. let w = eqb-true f.wire_type 2 t in
    let r : role_of k f.field 2 ≡ RoleAt k f = ap (role_of k f.field) (sym w) in
    good-counts mode s f (RoleAt k f)
    (subst (λ (x : Role). GoodRole mode x (value_in s f)) r
    (fine-good mode (role_of k f.field 2) (value_in s f) (subst (Fine mode k f.field) (bytes-payload s f w) h))))
    (λ t. other_counts mode k s f t)

-- text and submessages are length-delimited
len_role_lem : (k : Kind) (m type : ℕ) (r : Role) → role_of k m type ≡ r → (Skip ≡ r → ⊥) → is_varint r ≡ false → type ≡ 2
unfolding role_of
len_role_lem k m type r h z v =
    either (eqb type 2) (λ t. eqb-true type 2 t)
    (λ t. either (eqb type 0)
    (λ u. either (is_varint (row_of k m))
    (λ y. let e : row_of k m ≡ r = simp (t, u, y) at h in
    let w : is_varint (row_of k m) ≡ false = ap is_varint e ∙ v in clash (cc))
    (λ y. absurd (z (simp (t, u, y) at h))))
    (λ u. absurd (z (simp (t, u) at h))))

-- ---- a field that was read, as it stands in the bytes
value_inverts : {type : ℕ} {v : List ℕ} {p : Payload} (d : List ℕ) → Value type v p → type ≡ 2 → p ≡ bytes d
    → (v ≡ uvarint (length d) ++ d) × (length d < 2 ^ 64)
value_inverts d (varint b) t e = clash (cc)
value_inverts d (i64 g) t e = clash (cc)
value_inverts d (len-prefix {d = c} b) t e =
    let z : c ≡ d = cc in
    (ap (λ (l : List ℕ). uvarint (length l) ++ l) z, subst (λ (l : List ℕ). length l < 2 ^ 64) z b)
value_inverts d (i32 g) t e = clash (cc)

holds_inverts : {l n type : ℕ} {v : List ℕ} {p : Payload} (d : List ℕ) → Holds l n type v p → type ≡ 2 → p ≡ bytes d
    → (v ≡ uvarint (length d) ++ d) × (length d < 2 ^ 64)
holds_inverts d (value w) t e = value_inverts d w t e
holds_inverts d (grouped g) t e = clash (cc)

field_next : (mode : Mode) (s : List ℕ) (at : ℕ) (f : Field) (t : Stood mode s at f) → Stands s at f
    → f.next ≡ at + length (uvarint (f.field * 8 + f.wire_type)) + length t.bytes_of
field_next mode s at f t st =
    let u = uvarint (f.field * 8 + f.wire_type) in
    let e : length s - at ≡ length u + (length t.bytes_of + (length s - f.next)) =
    sym (length-drop at s) ∙ ap length t.here ∙ length-append u (t.bytes_of ++ drop f.next s)
    ∙ ap (λ (k : ℕ). length u + k) (length-append t.bytes_of (drop f.next s)
    ∙ ap (λ (k : ℕ). length t.bytes_of + k) (length-drop f.next s)) in
    omega (arith, st.tagged, st.begins, st.ends, st.within)

-- a length-delimited one
record Delimited (s : List ℕ) (at : ℕ) (f : Field) : Type 0 where
  small : length (value_in s f) < 2 ^ 64
  here : drop at s ≡ bytes_field f.field (value_in s f) ++ drop f.next s
  tag-place : f.tag_end ≡ at + length (tag f.field 2)
  start-place : f.start ≡ at + length (tag f.field 2) + length (uvarint (length (value_in s f)))

delimited : (mode : Mode) (s : List ℕ) (at : ℕ) (f : Field) → Stood mode s at f → Stands s at f → f.wire_type ≡ 2
    → Delimited s at f
unfolding tag bytes_field
delimited mode s at f t st w =
    let d = value_in s f in
    let n = f.field in
    let v = holds_inverts d t.is w (bytes-payload s f w) in
    let u : uvarint (n * 8 + f.wire_type) ≡ uvarint (n * 8 + 2) = ap (λ (k : ℕ). uvarint (n * 8 + k)) w in
    let x = field_next mode s at f t st in
    let g : length d ≡ f.next - f.start = between-length s f.start f.next st.within in
    let lv : length t.bytes_of ≡ length (uvarint (length d)) + length d = ap length v.0
    ∙ length-append (uvarint (length d)) d in
    let lu : length (uvarint (n * 8 + f.wire_type)) ≡ length (uvarint (n * 8 + 2)) = ap length u in
    record {
      small = v.1;
      here = t.here ∙ ap₂ (λ (a b : List ℕ). a ++ (b ++ drop f.next s)) u v.0
          ∙ sym (append_assoc (uvarint (n * 8 + 2)) (uvarint (length d) ++ d) (drop f.next s));
      tag-place = t.tagged ∙ ap (λ (l : List ℕ). at + length l) u;
      start-place = omega (arith, x, g, lv, lu, st.ends, st.within);
    }

-- ---- from the reader
-- what stands in s from `at` on is refused, and the place is the one that is told
record Refuses (mode : Mode) (k : Kind) (s : List ℕ) (at : ℕ) (why : WireError) (spot : Option Spot) : Type 0 where
  path : List ℕ
  offset : ℕ
  is : RefusedAt mode k at (drop at s) path offset why
  told : placed_as (spot_of why) spot ≡ told_at why offset path

text-refuses : (mode : Mode) (k : Kind) (s : List ℕ) (at : ℕ) (f : Field) (n m : ℕ) (why : WireError) (r : Role)
    (x : Option Spot) → Stood mode s at f → Stands s at f → RoleAt k f ≡ r → IsText r m → f.wire_type ≡ 2
    → text_count s f n ≡ Err why → Refuses mode k s at why (or_else (text_spot s f) x)
unfolding text_count text_spot
text-refuses mode k s at f n m why r x t st q i w h =
    let d = value_in s f in
    let g = delimited mode s at f t st w in
    either (is_utf8 d) (λ y. clash (let e = simp y at h in cc))
    (λ y. let e = simp y at h in
    let z : InvalidUtf8 f.tag_end ≡ why = cc in
    let role : IsText (role_of k f.field 2) m = subst (λ (a : Role). IsText a m)
    (sym q ∙ ap (role_of k f.field) w) i in
    let no : Utf8 d → ⊥ = λ u. let v = (utf8-exactly d).1 u in clash (cc) in
    simp y
    (record {
      path = [];
      offset = f.tag_end;
      is = subst (λ (a : WireError). RefusedAt mode k at (drop at s) [] f.tag_end a) z
          (subst (λ (l : List ℕ). RefusedAt mode k at l [] f.tag_end (InvalidUtf8 f.tag_end)) (sym g.here)
          (subst (λ (p : ℕ). RefusedAt mode k at (bytes_field f.field d ++ drop f.next s) [] p (InvalidUtf8 p))
          (sym g.tag-place) (text d (drop f.next s) t.least t.most g.small role no)));
      told = refl;
    }))

sub-refuses : (mode : Mode) (k j : Kind) (form : Form) (s : List ℕ) (at : ℕ) (f : Field) (why : WireError) (x : Option Spot)
    → Stood mode s at f → Stands s at f → RoleAt k f ≡ Sub j form → f.wire_type ≡ 2
    → Refuses mode j (value_in s f) 0 why (spot_in mode j (value_in s f))
    → Refuses mode k s at why (or_else (enclosed f.field f.start (spot_in mode j (value_in s f))) x)
sub-refuses mode k j form s at f why x t st q w i =
    let d = value_in s f in
    let g = delimited mode s at f t st w in
    let role : role_of k f.field 2 ≡ Sub j form = ap (role_of k f.field) (sym w) ∙ q in
    let place : f.start + i.offset ≡ at + length (tag f.field 2) + length (uvarint (length d)) + i.offset =
    ap (λ (p : ℕ). p + i.offset) g.start-place in
    record {
      path = f.field ∷ i.path;
      offset = f.start + i.offset;
      is = subst (λ (l : List ℕ). RefusedAt mode k at l (f.field ∷ i.path) (f.start + i.offset) why) (sym g.here)
          (subst (λ (p : ℕ). RefusedAt mode k at (bytes_field f.field d ++ drop f.next s)
          (f.field ∷ i.path) p why)
          (sym place) (inside d (drop f.next s) t.least t.most g.small role i.is));
      told = told-by (spot_of why) (spot_in mode j d) (place_at i.offset i.path)
          (λ y. or_else (enclosed f.field f.start y) x) i.told
          ∙ ap (placed_as (spot_of why)) (ap (λ (y : Option Spot). or_else y x)
          (place_inside f.field f.start i.offset i.path)
          ∙ place-first (f.start + i.offset) (f.field ∷ i.path) x);
    }

-- a field that is refused
role_refuses : (mode : Mode) (k : Kind) (s : List ℕ) (at : ℕ) (f : Field) (why : WireError) (r : Role) (x : Option Spot)
    → AreBytes s → Stood mode s at f → Stands s at f → RoleAt k f ≡ r
    → role_count (counted mode) s f r ≡ Err why
    → ((j : Kind) (d : List ℕ) → rank j < rank k → AreBytes d → counted mode j d ≡ Err why
    → Refuses mode j d 0 why (spot_in mode j d))
    → Refuses mode k s at why (or_else (role_spot (spot_in mode) s f r) x)
role_refuses mode k s at f why Skip x b t st q h ih = clash (cc)
role_refuses mode k s at f why (Number figure) x b t st q h ih = clash (cc)
role_refuses mode k s at f why (Text slot) x b t st q h ih =
    text-refuses mode k s at f 0 0 why (Text slot) x t st q is-text
    (len_role_lem k f.field f.wire_type (Text slot) q (λ e. clash (cc)) refl) h
role_refuses mode k s at f why (Bytes slot) x b t st q h ih = clash (cc)
role_refuses mode k s at f why (Unsigned slot) x b t st q h ih = clash (cc)
role_refuses mode k s at f why Topic x b t st q h ih =
    text-refuses mode k s at f 1 1 why Topic x t st q is-topic
    (len_role_lem k f.field f.wire_type Topic q (λ e. clash (cc)) refl) h
role_refuses mode k s at f why MessageId x b t st q h ih = clash (cc)
role_refuses mode k s at f why (Sub j form) x b t st q h ih =
    sub-refuses mode k j form s at f why x t st q
    (len_role_lem k f.field f.wire_type (Sub j form) q (λ e. clash (cc)) refl)
    (ih j (value_in s f) (sub-rank k j form f.field f.wire_type q) (value-bytes s f b)
    (plus-refused (own_of j) (counted mode j (value_in s f)) why h))

-- a field without refusal, before what is refused
later-refuses : (mode : Mode) (k : Kind) (s : List ℕ) (at : ℕ) (f : Field) (why : WireError) (m : ℕ) (x : Option Spot)
    → AreBytes s → Stood mode s at f → Stands s at f → role_count (counted mode) s f (RoleAt k f) ≡ Ok m
    → Refuses mode k s f.next why x → Refuses mode k s at why (or_else (role_spot (spot_in mode) s f (RoleAt k f)) x)
unfolding tag
later-refuses mode k s at f why m x b t st h i =
    let u = uvarint (f.field * 8 + f.wire_type) in
    let fine = counts-fine mode k s f m b h in
    let there : RefusedAt mode k (at + length u + length t.bytes_of) (drop f.next s) i.path i.offset why =
    subst (λ (p : ℕ). RefusedAt mode k p (drop f.next s) i.path i.offset why) (field_next mode s at f t st)
    i.is in
    record {
      path = i.path;
      offset = i.offset;
      is = subst (λ (l : List ℕ). RefusedAt mode k at l i.path i.offset why) (sym t.here)
          (later (drop f.next s) t.least t.most t.is fine there);
      told = ap (λ (y : Option Spot). placed_as (spot_of why) (or_else y x)) (role_clean mode s f (RoleAt k f) m h) ∙ i.told;
    }

field-refuses : (mode : Mode) (k : Kind) (s : List ℕ) (at : ℕ) (f : Field) (why : WireError) (c : Result ℕ WireError) → AreBytes s
    → Stood mode s at f → Stands s at f → role_count (counted mode) s f (RoleAt k f) ≡ c
    → and_then c (count_along (counted mode) k s (walk_at mode s f.next)) ≡ Err why
    → (count_along (counted mode) k s (walk_at mode s f.next) ≡ Err why
    → Refuses mode k s f.next why (spot_along (spot_in mode) k s (walk_at mode s f.next)))
    → ((j : Kind) (d : List ℕ) → rank j < rank k → AreBytes d → counted mode j d ≡ Err why
    → Refuses mode j d 0 why (spot_in mode j d))
    → Refuses mode k s at why (or_else (role_spot (spot_in mode) s f (RoleAt k f))
    (spot_along (spot_in mode) k s (walk_at mode s f.next)))
field-refuses mode k s at f why (Ok m) b t st q h rest ih =
    later-refuses mode k s at f why m (spot_along (spot_in mode) k s (walk_at mode s f.next)) b t st q
    (rest (plus-refused m (count_along (counted mode) k s (walk_at mode s f.next)) why h))
field-refuses mode k s at f why (Err w) b t st q h rest ih =
    let e : w ≡ why = cc in
    role_refuses mode k s at f why (RoleAt k f) (spot_along (spot_in mode) k s (walk_at mode s f.next)) b t st refl
    (q ∙ ap Err e) ih

wire-refuses : (mode : Mode) (k : Kind) (s : List ℕ) (at : ℕ) (why : WireError) → AreBytes s
    → Err why ≡ read_field mode s at → Refuses mode k s at why (spot_of why)
wire-refuses mode k s at why b e =
    let t = is-fault mode s at why b e in
    record {
      path = [];
      offset = t.place;
      is = wire t.fault;
      told = told-own (spot_of why) (Some (spot-at t.place)) t.spot-at;
    }

-- a message that is refused has a first refusal
refuses : (mode : Mode) (k : Kind) (s : List ℕ) (why : WireError) → AreBytes s → counted mode k s ≡ Err why
    → Refuses mode k s 0 why (spot_in mode k s)
refuses mode =
    by_rank (λ k. (s : List ℕ) (why : WireError) → AreBytes s → counted mode k s ≡ Err why
    → Refuses mode k s 0 why (spot_in mode k s))
    (λ k ih s why b h. subst (Refuses mode k s 0 why) (sym (spot_along_lem mode k s))
    (along mode s (λ (at : ℕ) (w : Fields). count_along (counted mode) k s w ≡ Err why
    → Refuses mode k s at why (spot_along (spot_in mode) k s w))
    (λ at g. clash (cc))
    (λ at v e g. let z : v ≡ why = cc in
    subst (λ (a : WireError). Refuses mode k s at why (spot_of a)) (sym z)
    (wire-refuses mode k s at why b (ap Err (sym z) ∙ e)))
    (λ at f st e rest g.
    field-refuses mode k s at f why (role_count (counted mode) s f (RoleAt k f)) b
    (field-stood mode s at f b e) st refl g rest
    (λ j d l bd q. ih j l d why bd q))
    0 (sym (count_along_lem mode k s) ∙ h)))

-- ---- and back
payload_inverts : (s : List ℕ) (f : Field) (d : List ℕ) → payload_of s f ≡ bytes d
    → (f.wire_type ≡ 2) × (value_in s f ≡ d)
unfolding payload_of
payload_inverts s f d h =
    either (eqb f.wire_type 0) (λ t0. clash (let e = simp t0 at h in cc))
    (λ t0. either (eqb f.wire_type 2)
    (λ t2. let e = simp (t0, t2) at h in (eqb-true f.wire_type 2 t2, cc))
    (λ t2. either (eqb f.wire_type 3) (λ t3. clash (let e = simp (t0, t2, t3) at h in cc))
    (λ t3. either (eqb f.wire_type 5) (λ t5. clash (let e = simp (t0, t2, t3, t5) at h in cc))
    (λ t5. clash (let e = simp (t0, t2, t3, t5) at h in cc)))))

-- a field of the grammar is read, and ends where it ends
field-ends : (s : List ℕ) (at n type : ℕ) (v rest : List ℕ) (f : Field) → Stands s at f
    → drop at s ≡ tag n type ++ (v ++ rest) → drop f.next s ≡ rest → f.next ≡ at + length (tag n type) + length v
field-ends s at n type v rest f st h l =
    let a : length s - at ≡ length (tag n type) + (length v + length rest) =
    sym (length-drop at s) ∙ ap length h ∙ length-append (tag n type) (v ++ rest)
    ∙ ap (λ (k : ℕ). length (tag n type) + k) (length-append v rest) in
    let e : length s - f.next ≡ length rest = sym (length-drop f.next s) ∙ ap length l in
    omega (arith, st.tagged, st.begins, st.ends, st.within)

-- a length-delimited field of the grammar is read where it stands
record StandsAt (mode : Mode) (s : List ℕ) (at n : ℕ) (d rest : List ℕ) : Type 0 where
  f : Field
  read : Ok (Some f) ≡ read_field mode s at
  number_of : f.field ≡ n
  type_of_lem : f.wire_type ≡ 2
  value_of : value_in s f ≡ d
  tag-place : f.tag_end ≡ at + length (tag n 2)
  start-place : f.start ≡ at + length (tag n 2) + length (uvarint (length d))

stands_at : (mode : Mode) (s : List ℕ) (at n : ℕ) (d rest : List ℕ) → 1 ≤ n → n ≤ 536870911 → length d < 2 ^ 64
    → drop at s ≡ bytes_field n d ++ rest → StandsAt mode s at n d rest
unfolding tag bytes_field entry_of
stands_at mode s at n d rest l m z h =
    let u = uvarint (length d) in
    let h1 : drop at s ≡ uvarint (n * 8 + 2) ++ ((u ++ d) ++ rest) = h
    ∙ append_assoc (uvarint (n * 8 + 2)) (u ++ d) rest in
    let t = found mode s at n 2 (u ++ d) rest (bytes d) l m (value (len-prefix z)) h1 in
    let f = t.f in
    let pay = payload_inverts s f d (ap (λ (e : Entry). e.payload) t.entry) in
    let st = field-stands mode s at f t.read in
    let x = field-ends s at n 2 (u ++ d) rest f st h1 t.left in
    let g : f.next - f.start ≡ length d = sym (between-length s f.start f.next st.within)
    ∙ ap length pay.1 in
    record {
      f = f;
      read = t.read;
      number_of = ap (λ (e : Entry). e.field) t.entry;
      type_of_lem = pay.0;
      value_of = pay.1;
      tag-place = t.tagged;
      start-place = omega (arith, x, g, length-append u d, st.ends);
    }

text-back : (mode : Mode) (s : List ℕ) (f : Field) (r : Role) (m : ℕ) → IsText r m → is_utf8 (value_in s f) ≡ false
    → (role_count (counted mode) s f r ≡ Err (InvalidUtf8 f.tag_end))
    × (role_spot (spot_in mode) s f r ≡ place_at f.tag_end [])
unfolding text_count text_spot
text-back mode s f _ _ is-text y = (simp y, simp y)
text-back mode s f _ _ is-topic y = (simp y, simp y)

found_at : (mode : Mode) (s : List ℕ) (at n type : ℕ) (v rest : List ℕ) (p : Payload) → 1 ≤ n → n ≤ 536870911
    → Holds (levels_of mode) n type v p → drop at s ≡ tag n type ++ (v ++ rest) → Found mode s at n type p rest
unfolding tag
found_at mode s at n type v rest p l u x h = found mode s at n type v rest p l u x h

entry-is : (s : List ℕ) (f : Field) (n : ℕ) (p : Payload) → entry_of s f ≡ record { field = n; payload = p }
    → (f.field ≡ n) × (payload_of s f ≡ p)
unfolding entry_of
entry-is s f n p e = (ap (λ (x : Entry). x.field) e, ap (λ (x : Entry). x.payload) e)

-- what is told of a message from a place on
record Tells (mode : Mode) (k : Kind) (s : List ℕ) (at : ℕ) (path : List ℕ) (offset : ℕ)
    (why : WireError) : Type 0 where
  counts : count_along (counted mode) k s (walk_at mode s at) ≡ Err why
  spots : placed_as (spot_of why) (spot_along (spot_in mode) k s (walk_at mode s at)) ≡ told_at why offset path

-- by a field that is refused
tells-field : (mode : Mode) (k : Kind) (s : List ℕ) (at : ℕ) (f : Field) (path : List ℕ) (offset : ℕ) (why : WireError)
    → Ok (Some f) ≡ read_field mode s at → role_count (counted mode) s f (RoleAt k f) ≡ Err why
    → placed_as (spot_of why) (role_spot (spot_in mode) s f (RoleAt k f)) ≡ told_at why offset path
    → Tells mode k s at path offset why
tells-field mode k s at f path offset why e c p =
    let w = walk_on mode s at (Ok (Some f)) e in
    record {
      counts = ap (count_along (counted mode) k s) w
          ∙ ap (λ (x : Result ℕ WireError). and_then x (count_along (counted mode) k s (walk_at mode s f.next))) c;
      spots = ap (λ (x : Fields). placed_as (spot_of why) (spot_along (spot_in mode) k s x)) w
          ∙ told-by (spot_of why) (role_spot (spot_in mode) s f (RoleAt k f)) (place_at offset path)
          (λ x. or_else x (spot_along (spot_in mode) k s (walk_at mode s f.next))) p
          ∙ ap (placed_as (spot_of why)) (place-first offset path
          (spot_along (spot_in mode) k s (walk_at mode s f.next)));
    }

-- by a later one
tells-later : (mode : Mode) (k : Kind) (s : List ℕ) (at : ℕ) (f : Field) (path : List ℕ) (offset : ℕ) (why : WireError)
    (m : ℕ) → Ok (Some f) ≡ read_field mode s at → role_count (counted mode) s f (RoleAt k f) ≡ Ok m
    → Tells mode k s f.next path offset why → Tells mode k s at path offset why
tells-later mode k s at f path offset why m e c t =
    let w = walk_on mode s at (Ok (Some f)) e in
    record {
      counts = ap (count_along (counted mode) k s) w ∙ ap₂ and_then c t.counts;
      spots = ap (λ (x : Fields). placed_as (spot_of why) (spot_along (spot_in mode) k s x)) w
          ∙ ap (λ (x : Option Spot). placed_as (spot_of why) (or_else x (spot_along (spot_in mode) k s (walk_at mode s f.next))))
          (role_clean mode s f (RoleAt k f) m c) ∙ t.spots;
    }

tells : {mode : Mode} {k : Kind} {base offset : ℕ} {r path : List ℕ} {why : WireError} (s : List ℕ)
    → RefusedAt mode k base r path offset why → drop base s ≡ r → Tells mode k s base path offset why
tells {mode} {k} {base} s (wire {place = place} {why = why} f) h =
    let g = fault-refused mode s base f h in
    let w = walk_on mode s base (Err why) (sym g.0) in
    record {
      counts = ap (count_along (counted mode) k s) w;
      spots = ap (λ (x : Fields). placed_as (spot_of why) (spot_along (spot_in mode) k s x)) w
          ∙ told-own (spot_of why) (place_at place []) g.1;
    }
tells {mode} {k} {base} s (text {n = n} {m = m} d rest l u z i never) h =
    let t = stands_at mode s base n d rest l u z h in
    let role : RoleAt k t.f ≡ role_of k n 2 = ap₂ (role_of k) t.number_of t.type_of_lem in
    let y : is_utf8 (value_in s t.f) ≡ false = either (is_utf8 d) (λ e. absurd (never ((utf8-exactly d).0 e)))
    (λ e. ap is_utf8 t.value_of ∙ e) in
    let q = text-back mode s t.f (RoleAt k t.f) m (subst (λ (x : Role). IsText x m) (sym role) i) y in
    tells-field mode k s base t.f [] (base + length (tag n 2)) (InvalidUtf8 (base + length (tag n 2))) t.read
    (q.0 ∙ ap (λ (p : ℕ). Err (InvalidUtf8 p)) t.tag-place)
    (q.1 ∙ ap (λ (p : ℕ). place_at p []) t.tag-place)
tells {mode} {k} {base} s
    (inside {j = j} {form = form} {n = n} {offset = offset} {path = path} {why = why} d rest l u z role i) h =
    let t = stands_at mode s base n d rest l u z h in
    let f = t.f in
    let here : RoleAt k f ≡ Sub j form = ap₂ (role_of k) t.number_of t.type_of_lem ∙ role in
    let inner = tells d i refl in
    let c : counted mode j (value_in s f) ≡ Err why = ap (counted mode j) t.value_of ∙ count_along_lem mode j d
    ∙ inner.counts in
    let p : placed_as (spot_of why) (spot_in mode j (value_in s f)) ≡ told_at why offset path =
    ap (placed_as (spot_of why)) (ap (spot_in mode j) t.value_of ∙ spot_along_lem mode j d) ∙ inner.spots in
    let place : f.start + offset ≡ base + length (tag n 2) + length (uvarint (length d)) + offset =
    ap (λ (x : ℕ). x + offset) t.start-place in
    tells-field mode k s base f (n ∷ path) (base + length (tag n 2) + length (uvarint (length d)) + offset) why
    t.read
    (ap (role_count (counted mode) s f) here ∙ ap (plus (own_of j)) c)
    (ap (λ (r : Role). placed_as (spot_of why) (role_spot (spot_in mode) s f r)) here
    ∙ told-by (spot_of why) (spot_in mode j (value_in s f)) (place_at offset path) (enclosed f.field f.start) p
    ∙ ap (placed_as (spot_of why)) (place_inside f.field f.start offset path
    ∙ ap₂ (λ (x y : ℕ). place_at x (y ∷ path)) place t.number_of))
tells {mode} {k} {base} s
    (later {n = n} {type = type} {offset = offset} {path = path} {v = v} {p = p} {why = why} rest l u x fine i) h =
    let t = found_at mode s base n type v rest p l u x h in
    let f = t.f in
    let is = entry-is s f n p t.entry in
    let ok : Fine mode k f.field (payload_of s f) = subst (Fine mode k f.field) (sym is.1)
    (subst (λ (c : ℕ). Fine mode k c p) (sym is.0) fine) in
    let c = fine-counts mode k s f ok in
    let next = field-ends s base n type v rest f (field-stands mode s base f t.read) h t.left in
    let rec = tells s i (ap (λ (c : ℕ). drop c s) (sym next) ∙ t.left) in
    tells-later mode k s base f path offset why c.0 t.read c.1
    (subst (λ (c : ℕ). Tells mode k s c path offset why) (sym next) rec)

-- ---- exactly
-- the first refusal of a message, with the place as it is told
pub record First (mode : Mode) (k : Kind) (s : List ℕ) (why : WireError) (spot : Option Spot) : Type 0 where
  pub path : List ℕ
  pub offset : ℕ
  pub is : RefusedAt mode k 0 s path offset why
  pub told : spot ≡ told_at why offset path

pub first-counts : {mode : Mode} {k : Kind} {s : List ℕ} {why : WireError} {spot : Option Spot} → First mode k s why spot
    → (counted mode k s ≡ Err why) × (placed_as (spot_of why) (spot_in mode k s) ≡ spot)
first-counts {mode} {k} {s} {why} i =
    let t = tells s i.is refl in (
      count_along_lem mode k s ∙ t.counts,
      ap (placed_as (spot_of why)) (spot_along_lem mode k s) ∙ t.spots ∙ sym i.told,
    )

pub first-exactly : (mode : Mode) (k : Kind) (s : List ℕ) (why : WireError) (spot : Option Spot) → AreBytes s
    → ((counted mode k s ≡ Err why) × (placed_as (spot_of why) (spot_in mode k s) ≡ spot))
    ↔ First mode k s why spot
first-exactly mode k s why spot b = (
  λ h. let i = refuses mode k s why b h.0 in
      record { path = i.path; offset = i.offset; is = i.is; told = sym h.1 ∙ i.told },
  first-counts,
)

-- it is one of 1 to 7; where groups are passed over, also one of 14 to 16
pub data OfBody : Mode → ℕ → Type 0 where
  low : {mode : Mode} {n : ℕ} → n ≤ 7 → OfBody mode n
  of-group : {n : ℕ} → 14 ≤ n → n ≤ 16 → OfBody Groups n

varint-early : (e : VarintError) → (varint_told e).number ≤ 7
varint-early BufferTooShort = omega arith
varint-early Overflow = omega arith
varint-early NonCanonical = omega arith

field-early : {mode : Mode} {l base place : ℕ} {s : List ℕ} {why : WireError} → FaultIn mode l base s place why
    → OfBody mode (refusal_number why)
field-early (bad-tag {e = e} s z d) = low (varint-early e)
field-early (bad-number s z b u) = low {n = 6} (omega arith)
field-early (bad_type s n u) = low {n = 5} (omega arith)
field-early (bad-value {e = e} s n d) = low (varint-early e)
field-early (bad-length {e = e} s n d) = low (varint-early e)
field-early (too_long s n b z) = low {n = 4} (omega arith)
field-early (too_wide s n f z) = low {n = 4} (omega arith)
field-early (too_deep s n) = of-group {n = 15} (omega arith) (omega arith)
field-early (unclosed v n g) = of-group {n = 16} (omega arith) (omega arith)
field-early (crossed v s n g k z) = of-group {n = 14} (omega arith) (omega arith)
field-early (within v s n g f) = field-early f

fault-early : {mode : Mode} {base place : ℕ} {s : List ℕ} {why : WireError} → Fault mode base s place why
    → OfBody mode (refusal_number why)
fault-early (of_field f) = field-early f
fault-early (stray s n) = of-group {n = 14} (omega arith) (omega arith)

pub refused-early : {mode : Mode} {k : Kind} {base offset : ℕ} {s path : List ℕ} {why : WireError}
    → RefusedAt mode k base s path offset why → OfBody mode (refusal_number why)
refused-early (wire f) = fault-early f
refused-early (text d rest l u z i never) = low {n = 7} (omega arith)
refused-early (inside d rest l u z role i) = refused-early i
refused-early (later rest l u x fine i) = refused-early i

-- ---- the paths
-- a way through submessages
data Leads : Kind → List ℕ → Type 0 where
  no_further : {k : Kind} → Leads k []
  through : {k j : Kind} {form : Form} {n : ℕ} {path : List ℕ} → role_of k n 2 ≡ Sub j form → Leads j path
      → Leads k (n ∷ path)

leads : {mode : Mode} {k : Kind} {base offset : ℕ} {s path : List ℕ} {why : WireError}
    → RefusedAt mode k base s path offset why → Leads k path
leads (wire f) = no_further
leads (text d rest l u z i never) = no_further
leads (inside d rest l u z role i) = through role (leads i)
leads (later rest l u x fine i) = leads i

-- the paths of a body: of itself, a subscription, a message, a control; of a control's ihave, iwant, graft, prune, and
-- in 1.2 idontwant; of a prune's peer
pub data Path (e : Edition) : List ℕ → Type 0 where
  body : Path e []
  subscription : Path e (1 ∷ [])
  message : Path e (2 ∷ [])
  control : Path e (3 ∷ [])
  ihave : Path e (3 ∷ 1 ∷ [])
  iwant : Path e (3 ∷ 2 ∷ [])
  graft : Path e (3 ∷ 3 ∷ [])
  prune : Path e (3 ∷ 4 ∷ [])
  peer : Path e (3 ∷ 4 ∷ 2 ∷ [])
  idontwant : e ≡ V12 → Path e (3 ∷ 5 ∷ [])

leaf : {k : Kind} {path : List ℕ} → rank k ≡ 0 → Leads k path → path ≡ []
leaf z no_further = refl
leaf {k} z (through {j = j} {form = form} {n = n} role l) = absurd (omega (arith, sub-rank k j form n 2 role))

prune-leads : (P : List ℕ → Type 0) (path : List ℕ) → P [] → P (2 ∷ []) → Leads kind.ControlPrune path → P path
unfolding role_of rank
prune-leads P _ p q no_further = p
prune-leads P _ p q (through {j = j} {n = n} {path = path} role l) =
    either (eqb n 1) (λ e1. clash (let h = simp e1 at role in cc))
    (λ e1. either (eqb n 2)
    (λ e2. let h = simp (e1, e2) at role in
    let z : kind.PeerInfo ≡ j = cc in
    let y : path ≡ [] = leaf {k = kind.PeerInfo} refl (subst (λ (c : Kind). Leads c path) (sym z) l) in
    subst P (ap₂ (λ (a : ℕ) (r : List ℕ). a ∷ r) (sym (eqb-true n 2 e2)) (sym y)) q)
    (λ e2. either (eqb n 3) (λ e3. clash (let h = simp (e1, e2, e3) at role in cc))
    (λ e3. clash (let h = simp (e1, e2, e3) at role in cc))))

-- a field of a kind without submessages ends the path
ends-path : (P : List ℕ → Type 0) (i k j : Kind) (n m : ℕ) (path : List ℕ) → rank i ≡ 0 → i ≡ j → n ≡ m → Leads j path
    → P (m ∷ []) → P (n ∷ path)
ends-path P i k j n m path z e a l p =
    let y : path ≡ [] = leaf {k = i} z (subst (λ (c : Kind). Leads c path) (sym e) l) in
    subst P (ap₂ (λ (b : ℕ) (r : List ℕ). b ∷ r) (sym a) (sym y)) p

-- what an edition adds to a control
added-leads : (e : Edition) (P : List ℕ → Type 0) (j : Kind) (form : Form) (n : ℕ) (path : List ℕ)
    → cond (is_varint (row_from 5 (added_in e) n)) Skip (row_from 5 (added_in e) n) ≡ Sub j form → Leads j path
    → (e ≡ V12 → P (5 ∷ [])) → P (n ∷ path)
unfolding rank
added-leads V11 P j form n path role l p = clash (cc)
added-leads V12 P j form n path role l p =
    either (eqb n 5)
    (λ e5. let h = simp e5 at role in
    ends-path P kind.ControlIDontWant j j n 5 path refl (cc) (eqb-true n 5 e5) l (p refl))
    (λ e5. clash (let h = simp e5 at role in cc))

control-leads : (e : Edition) (P : List ℕ → Type 0) (path : List ℕ) → P [] → P (1 ∷ []) → P (2 ∷ []) → P (3 ∷ [])
    → P (4 ∷ []) → P (4 ∷ 2 ∷ []) → (e ≡ V12 → P (5 ∷ [])) → Leads (kind.ControlMessage e) path → P path
unfolding role_of rank
control-leads e P _ p p1 p2 p3 p4 p5 p6 no_further = p
control-leads e P _ p p1 p2 p3 p4 p5 p6 (through {k = k} {j = j} {form = form} {n = n} {path = path} role l) =
    either (eqb n 1)
    (λ e1. let h = simp e1 at role in
    ends-path P kind.ControlIHave k j n 1 path refl (cc) (eqb-true n 1 e1) l p1)
    (λ e1. either (eqb n 2)
    (λ e2. let h = simp (e1, e2) at role in
    ends-path P kind.ControlIWant k j n 2 path refl (cc) (eqb-true n 2 e2) l p2)
    (λ e2. either (eqb n 3)
    (λ e3. let h = simp (e1, e2, e3) at role in
    ends-path P kind.ControlGraft k j n 3 path refl (cc) (eqb-true n 3 e3) l p3)
    (λ e3. either (eqb n 4)
    (λ e4. let h = simp (e1, e2, e3, e4) at role in
    let z : kind.ControlPrune ≡ j = cc in
    subst (λ (a : ℕ). P (a ∷ path)) (sym (eqb-true n 4 e4))
    (prune-leads (λ r. P (4 ∷ r)) path p4 p5 (subst (λ (c : Kind). Leads c path) (sym z) l)))
    (λ e4. added-leads e P j form n path (simp (e1, e2, e3, e4) at role) l p6))))

rpc-leads : (e : Edition) (path : List ℕ) → Leads (kind.Rpc e) path → Path e path
unfolding role_of rank
rpc-leads e _ no_further = body
rpc-leads e _ (through {k = k} {j = j} {n = n} {path = path} role l) =
    either (eqb n 1)
    (λ e1. let h = simp e1 at role in
    ends-path (Path e) kind.SubOpts k j n 1 path refl (cc) (eqb-true n 1 e1) l subscription)
    (λ e1. either (eqb n 2)
    (λ e2. let h = simp (e1, e2) at role in
    ends-path (Path e) kind.RawMessage k j n 2 path refl (cc) (eqb-true n 2 e2) l message)
    (λ e2. either (eqb n 3)
    (λ e3. let h = simp (e1, e2, e3) at role in
    let z : kind.ControlMessage e ≡ j = cc in
    subst (λ (a : ℕ). Path e (a ∷ path)) (sym (eqb-true n 3 e3))
    (control-leads e (λ r. Path e (3 ∷ r)) path control ihave iwant graft prune peer idontwant
    (subst (λ (c : Kind). Leads c path) (sym z) l)))
    (λ e3. clash (let h = simp (e1, e2, e3) at role in cc))))

-- the path of a body's refusal is one of the nine, in 1.2 of the ten
pub nine_paths : {mode : Mode} {e : Edition} {base offset : ℕ} {s path : List ℕ} {why : WireError}
    → RefusedAt mode (kind.Rpc e) base s path offset why → Path e path
nine_paths {e = e} {path = path} i = rpc-leads e path (leads i)

-- so it has at most three numbers, and they are told
pub path-short : {e : Edition} {path : List ℕ} → Path e path → length path ≤ 3
path-short body = omega arith
path-short subscription = omega arith
path-short message = omega arith
path-short control = omega arith
path-short ihave = omega arith
path-short iwant = omega arith
path-short graft = omega arith
path-short prune = omega arith
path-short peer = omega arith
path-short (idontwant e) = omega arith

pub path-told : {e : Edition} {path : List ℕ} (offset : ℕ) → Path e path → numbersOf (place_at offset path) ≡ path
path-told offset body = refl
path-told offset subscription = refl
path-told offset message = refl
path-told offset control = refl
path-told offset ihave = refl
path-told offset iwant = refl
path-told offset graft = refl
path-told offset prune = refl
path-told offset peer = refl
path-told offset (idontwant e) = refl

-- ---- the place lies within the body
field-place : {mode : Mode} {l base place : ℕ} {s : List ℕ} {why : WireError} → FaultIn mode l base s place why
    → place ≤ base + length s
field-place (bad-tag s z d) = omega arith
field-place (bad-number s z b u) = omega arith
field-place (bad_type {n = n} {type = type} s m u) = omega (arith, length-append (tag n type) s)
field-place (bad-value {n = n} s m d) = omega (arith, length-append (tag n 0) s)
field-place (bad-length {n = n} s m d) = omega (arith, length-append (tag n 2) s)
field-place (too_long {n = n} {size = size} s m b z) =
    omega (arith, length-append (tag n 2) (uvarint size ++ s), length-append (uvarint size) s)
field-place (too_wide {n = n} {type = type} s m f z) = omega (arith, length-append (tag n type) s)
field-place (too_deep {n = n} s m) = omega (arith, length-append (tag n 3) s)
field-place (unclosed {n = n} v m g) = omega (arith, length-append (tag n 3) v)
field-place (crossed {n = n} {k = k} v s m g o z) =
    omega (arith, length-append (tag n 3) (v ++ (tag k 4 ++ s)), length-append v (tag k 4 ++ s))
field-place (within {n = n} v s m g f) =
    omega (arith, field-place f, length-append (tag n 3) (v ++ s), length-append v s)

fault-place : {mode : Mode} {base place : ℕ} {s : List ℕ} {why : WireError} → Fault mode base s place why
    → place ≤ base + length s
fault-place (of_field f) = field-place f
fault-place (stray s n) = omega arith

field-length : (n : ℕ) (d rest : List ℕ)
    → length (bytes_field n d ++ rest) ≡ length (tag n 2) + (length (uvarint (length d)) + length d) + length rest
unfolding bytes_field
field-length n d rest =
    length-append (bytes_field n d) rest
    ∙ omega (arith, length-append (tag n 2) (uvarint (length d) ++ d), length-append (uvarint (length d)) d)

refused-place : {mode : Mode} {k : Kind} {base offset : ℕ} {s path : List ℕ} {why : WireError}
    → RefusedAt mode k base s path offset why → offset ≤ base + length s
refused-place (wire f) = fault-place f
refused-place (text {n = n} d rest l u z i never) = omega (arith, field-length n d rest)
refused-place (inside {n = n} d rest l u z role i) = omega (arith, refused-place i, field-length n d rest)
refused-place (later {n = n} {type = type} {v = v} rest l u x fine i) =
    omega (arith, refused-place i, length-append (tag n type) (v ++ rest), length-append v rest)

pub offset-within : {mode : Mode} {k : Kind} {s path : List ℕ} {offset : ℕ} {why : WireError}
    → RefusedAt mode k 0 s path offset why → offset ≤ length s
offset-within i = omega (arith, refused-place i)

-- ---- and there is at most one
same-offset : (o p : ℕ) (a b : List ℕ) → place_at o a ≡ place_at p b → o ≡ p
same-offset o p a b e = sym (place-offset o a) ∙ ap offset_in e ∙ place-offset p b
  where
    offset_in : Option Spot → ℕ
    offset_in None = 0
    offset_in (Some spot) = spot.offset

    place-offset : (o : ℕ) (path : List ℕ) → offset_in (place_at o path) ≡ o
    place-offset o [] = refl
    place-offset o (a ∷ []) = refl
    place-offset o (a ∷ b ∷ []) = refl
    place-offset o (a ∷ b ∷ c ∷ rest) = refl

-- 14 to 16 carry no place
pub record Same (path path' : List ℕ) (offset offset' : ℕ) (why why' : WireError) : Type 0 where
  pub reasons : why ≡ why'
  pub paths : refusal_number why ≤ 7 → path ≡ path'
  pub offsets : refusal_number why ≤ 7 → offset ≡ offset'

pub one-refusal : {mode : Mode} {e : Edition} {s path path' : List ℕ} {offset offset' : ℕ} {why why' : WireError}
    → RefusedAt mode (kind.Rpc e) 0 s path offset why → RefusedAt mode (kind.Rpc e) 0 s path' offset' why'
    → Same path path' offset offset' why why'
one-refusal {mode} {e} {s} {path} {path'} {offset} {offset'} {why} {why'} i j =
    let t = tells s i refl in
    let u = tells s j refl in
    let c : Err why ≡ Err why' = sym t.counts ∙ u.counts in
    let w : why ≡ why' = cc in
    let p : refusal_number why ≤ 7 → place_at offset path ≡ place_at offset' path' =
    λ h. sym (told-place why (place_at offset path) h) ∙ sym t.spots
    ∙ ap (λ (x : WireError). placed_as (spot_of x) (spot_along (spot_in mode) (kind.Rpc e) s (walk_at mode s 0))) w
    ∙ u.spots
    ∙ told-place why' (place_at offset' path') (subst (λ (x : WireError). refusal_number x ≤ 7) w h) in
    record {
      reasons = w;
      paths = λ h. sym (path-told offset (nine_paths i)) ∙ ap numbersOf (p h) ∙ path-told offset' (nine_paths j);
      offsets = λ h. same-offset offset offset' path path' (p h);
    }
