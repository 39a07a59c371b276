-- A field is refused exactly where it has a fault, by the fault's reason and at its place.
use Rattle.std.specs.Prelude.{Result, Ok, Err, Option, Some, None, ℕ, zero, suc, ◌+◌, ◌-◌, ◌*◌, ◌/◌, ◌%◌, ◌^◌, ◌≤◌, ◌<◌, ◌≡◌, ◌≢◌, false, length, drop, ltb, leb, eqb}
use Rattle.std.proofs.Math.Path.{refl, subst}
use Rattle.std.proofs.Common.{sym, ap, ◌∙◌, arith, length-append, length-drop, drop_of_length-le, leb-false, ltb-true, eqb-true, lt-ltb, ne_eqb}
use mathlib.Core.List.{List, [], ◌∷◌, ◌++◌, append_assoc, append-nil}
use Rattle.std.proofs.lemmas.Bool.{eqb-false, lt-leb}
use Rattle.basis.specs.declared.Mode.{Mode}
use Rattle.basis.specs.declared.Mode.TheVariants.{Plain, Groups}
use Rattle.basis.specs.Cases.{either, clash}
use Rattle.basis.specs.Bytes.{Bytes}
use Rattle.basis.specs.Spot.{at as spot}
use Rattle.peer_id.specs.declared.VarintError.{VarintError}
use Rattle.peer_id.specs.Uvarint.{uvarint, read_uvarint}
use Rattle.peer_id.specs.Laws.{uvarint-some}
use Rattle.peer_id.specs.Bad.{Bad}
use Rattle.peer_id.specs.BadLaws.{bad-exactly}
use Rattle.protobuf.specs.declared.WireError.{WireError}
use Rattle.protobuf.specs.declared.WireError.TheVariants.{Varint, FieldOverflow, UnsupportedWireType}
use Rattle.protobuf.specs.declared.WireError.TheVariants.{InvalidFieldNumber, EndGroup, GroupDepth, GroupOpen}
use Rattle.protobuf.specs.declared.Refusal.{Refusal}
use Rattle.protobuf.specs.declared.Field.{Field}
use Rattle.protobuf.specs.Encode.{tag}
use Rattle.protobuf.specs.Refusal.{spot_of, placed_as, here}
use Rattle.protobuf.specs.Grammar.{Entry, BodyIn, none as no_fields, max_groups, levels_of}
use Rattle.protobuf.specs.Field.{located, and_then, tag_of, read_tag, part_of, read_len, read_varint, skip_fixed, past_value}
use Rattle.protobuf.specs.Field.{skip_value, opened, passed, and_on, in_group, skip_group, skip_field}
use Rattle.protobuf.specs.Field.{read_value, of_tag, read_field, walk_skip}
use Rattle.protobuf.specs.Laws.{tag_moves, tag-end, passed_moves, group-step, group_moves, skip_value_lem}
use Rattle.protobuf.specs.WalkLaws.{outline, read-outline}
use Rattle.protobuf.specs.Spelt.{spelt, reads-spelt, drop-front, left-fits, Tagged, tag-spelt, tag-reads}
use Rattle.protobuf.specs.GroupLaws.{in_front, Past, past-ends, passed-past, group-closed, group_over}
use Rattle.protobuf.specs.Exactly.{field-ended}
use Rattle.protobuf.specs.Faults.{FixedWidth, i64, i32, NoField, none, large, Untaken, start-group, end-group}
use Rattle.protobuf.specs.Faults.{six, seven, Numbered, FaultIn, bad-tag, bad-number, bad_type, bad-value}
use Rattle.protobuf.specs.Faults.{bad-length, too_long, too_wide, too_deep, unclosed, crossed, within, Fault}
use Rattle.protobuf.specs.Faults.{of_field, stray}

-- the field at a place of s has a fault, and the refusal stands at its place; 14 to 16 stand nowhere
pub record Faulty (mode : Mode) (s : List ℕ) (at : ℕ) (why : WireError) : Type 0 where
  pub place : ℕ
  pub fault : Fault mode at (drop at s) place why
  pub spot-at : spot_of why ≡ placed_as (spot_of why) (Some (spot place))

-- the place of a fault is its refusal's
fault-spot : {mode : Mode} {l base place : ℕ} {s : List ℕ} {why : WireError} → FaultIn mode l base s place why
    → spot_of why ≡ placed_as (spot_of why) (Some (spot place))
fault-spot (bad-tag s z d) = refl
fault-spot (bad-number s z b l) = refl
fault-spot (bad_type s n u) = refl
fault-spot (bad-value s n d) = refl
fault-spot (bad-length s n d) = refl
fault-spot (too_long s n b z) = refl
fault-spot (too_wide s n f z) = refl
fault-spot (too_deep s n) = refl
fault-spot (unclosed v n g) = refl
fault-spot (crossed v s n g k z) = refl
fault-spot (within v s n g f) = fault-spot f

-- a value is refused where it is not passed, by the same reason
refused-back : (n type at : ℕ) (why : WireError) (r : Result ℕ WireError) → walk_skip n type at r ≡ Err (here why)
    → Err why ≡ r
refused-back n type at why (Ok e) h = clash (cc)
refused-back n type at why (Err w) h =
    let e : here why ≡ here w = cc in ap (λ (r : Refusal). Err r.why) e

refused_on : (r : Result (Option Field) WireError) (why : WireError) → outline r ≡ Err (here why) → r ≡ Err why
refused_on (Ok None) why h = clash (cc)
refused_on (Ok (Some f)) why h = clash (cc)
refused_on (Err w) why h =
    let e : here w ≡ here why = cc in ap (λ (r : Refusal). Err r.why) e

value_skipped : (mode : Mode) (s : List ℕ) (n type at : ℕ) (why : WireError)
    → Err why ≡ read_value mode s n type at → Err why ≡ skip_field mode max_groups s at n type
value_skipped mode s n type at why h =
    refused-back n type at why (skip_field mode max_groups s at n type)
    (read-outline mode s n type at ∙ ap outline (sym h))

skipped_value : (mode : Mode) (s : List ℕ) (n type at : ℕ) (why : WireError)
    → skip_field mode max_groups s at n type ≡ Err why → read_value mode s n type at ≡ Err why
skipped_value mode s n type at why h =
    refused_on (read_value mode s n type at) why (sym (read-outline mode s n type at) ∙ ap (walk_skip n type at) h)

-- ---- from the reader
-- the field at a place of s has a fault, where l groups more may open
record FaultyIn (mode : Mode) (l : ℕ) (s : List ℕ) (at : ℕ) (why : WireError) : Type 0 where
  place : ℕ
  fault : FaultIn mode l at (drop at s) place why

unread : (s : List ℕ) (at : ℕ) (e : VarintError) → Err e ≡ read_uvarint (drop at s) → Bad (drop at s) e
unread s at e h = (bad-exactly (drop at s) e).0 (sym h)

-- its tag
number-fault : (mode : Mode) (l : ℕ) (s : List ℕ) (at x m : ℕ) → Bytes s → Ok (x, m) ≡ read_uvarint (drop at s)
    → NoField (x / 8) → FaultyIn mode l s at (InvalidFieldNumber (x / 8) at)
unfolding tag
number-fault mode l s at x m b q z =
    let t = spelt s at x m b q in
    let e : x / 8 * 8 + x % 8 ≡ x = omega arith in
    let h : drop at s ≡ uvarint (x / 8 * 8 + x % 8) ++ drop (at + m) s = t.here
    ∙ ap (λ (k : ℕ). uvarint k ++ drop (at + m) s) (sym e) in
    record {
      place = at;
      fault = subst (λ (i : List ℕ). FaultIn mode l at i at (InvalidFieldNumber (x / 8) at)) (sym h)
          (bad-number {type = x % 8} (drop (at + m) s) z (omega arith) (omega (arith, t.bound)));
    }

tag-after : (mode : Mode) (l : ℕ) (s : List ℕ) (at : ℕ) (why : WireError) (r : Result (ℕ × ℕ) VarintError) → Bytes s
    → at < length s → r ≡ read_uvarint (drop at s) → Err why ≡ and_then (tag_of at) (located at r)
    → FaultyIn mode l s at why
tag-after mode l s at why (Err e) b i q h =
    let w : Varint e at ≡ why = cc in
    subst (FaultyIn mode l s at) w
    (record { place = at; fault = bad-tag (drop at s) (omega (arith, length-drop at s)) (unread s at e q) })
tag-after mode l s at why (Ok (x, m)) b i q h =
    either (eqb (x / 8) 0)
    (λ t. let k = simp t at h in
    let w : InvalidFieldNumber (x / 8) at ≡ why = cc in
    let z : NoField (x / 8) = subst NoField (sym (eqb-true (x / 8) 0 t)) none in
    subst (FaultyIn mode l s at) w (number-fault mode l s at x m b q z))
    (λ t. either (ltb 536870911 (x / 8))
    (λ u. let k = simp (t, u) at h in
    let w : InvalidFieldNumber (x / 8) at ≡ why = cc in
    subst (FaultyIn mode l s at) w (number-fault mode l s at x m b q (large (ltb-true 536870911 (x / 8) u))))
    (λ u. clash (let k = simp (t, u) at h in cc)))

tag-fault : (mode : Mode) (l : ℕ) (s : List ℕ) (at : ℕ) (why : WireError) → Bytes s → Err why ≡ read_tag s at
    → FaultyIn mode l s at why
unfolding read_tag read_varint
tag-fault mode l s at why b h =
    either (leb (length s) at) (λ t. clash (let k = simp t at h in cc))
    (λ t. tag-after mode l s at why (read_uvarint (drop at s)) b (leb-false (length s) at t) refl (simp t at h))

-- its value, after the tag
module _ (mode : Mode) (l : ℕ) (s : List ℕ) (at n type to : ℕ) (b : Bytes s) (t : Tagged s at n type to) where
  start : drop at s ≡ tag n type ++ drop to s
  unfolding tag
  start = t.spells.here

  tag-ends : to ≡ at + length (tag n type)
  unfolding tag
  tag-ends = t.spells.ends

  numbered : Numbered n
  numbered = (t.least, t.most)

  -- a fault that starts with the tag, at the place after it
  after_tag : (why : ℕ → WireError)
      → FaultIn mode l at (tag n type ++ drop to s) (at + length (tag n type)) (why (at + length (tag n type)))
      → FaultyIn mode l s at (why to)
  after_tag why f =
      record {
        place = to;
        fault = subst (λ (i : List ℕ). FaultIn mode l at i to (why to)) (sym start)
            (subst (λ (k : ℕ). FaultIn mode l at (tag n type ++ drop to s) k (why k)) (sym tag-ends) f);
      }

varint-fault : (mode : Mode) (l : ℕ) (s : List ℕ) (at n to : ℕ) (why : WireError) (r : Result (ℕ × ℕ) VarintError)
    → Bytes s → Tagged s at n 0 to → r ≡ read_uvarint (drop to s) → Err why ≡ past_value (located to r)
    → FaultyIn mode l s at why
varint-fault mode l s at n to why (Ok (x, m)) b t q h = clash (cc)
varint-fault mode l s at n to why (Err e) b t q h =
    let w : Varint e to ≡ why = cc in
    subst (FaultyIn mode l s at) w
    (after_tag mode l s at n 0 to b t (Varint e)
    (bad-value (drop to s) (numbered mode l s at n 0 to b t) (unread s to e q)))

part-fault : (mode : Mode) (l : ℕ) (s : List ℕ) (at n to : ℕ) (why : WireError) (r : Result (ℕ × ℕ) VarintError)
    → Bytes s → Tagged s at n 2 to → r ≡ read_uvarint (drop to s)
    → Err why ≡ past_value (and_then (part_of (length s)) (located to r)) → FaultyIn mode l s at why
part-fault mode l s at n to why (Err e) b t q h =
    let w : Varint e to ≡ why = cc in
    subst (FaultyIn mode l s at) w
    (after_tag mode l s at n 2 to b t (Varint e)
    (bad-length (drop to s) (numbered mode l s at n 2 to b t) (unread s to e q)))
part-fault mode l s at n to why (Ok (x, m)) b t q h =
    either (ltb (length s - (to + m)) x)
    (λ u. let k = simp u at h in
    let w : FieldOverflow (to + m) x (length s - (to + m)) ≡ why = cc in
    let v = spelt s to x m b q in
    let rest = drop (to + m) s in
    let all = tag n 2 ++ (uvarint x ++ rest) in
    let is : drop at s ≡ all = start mode l s at n 2 to b t ∙ ap (λ (i : List ℕ). tag n 2 ++ i) v.here in
    let place : to + m ≡ at + length (tag n 2) + length (uvarint x) =
    omega (arith, tag-ends mode l s at n 2 to b t, v.ends) in
    let left : length s - (to + m) ≡ length rest = sym (length-drop (to + m) s) in
    let f : FaultIn mode l at all (at + length (tag n 2) + length (uvarint x))
    (FieldOverflow (at + length (tag n 2) + length (uvarint x)) x (length rest)) =
    too_long rest (numbered mode l s at n 2 to b t) v.bound
    (omega (arith, left, ltb-true (length s - (to + m)) x u)) in
    subst (FaultyIn mode l s at) w
    (record {
      place = to + m;
      fault = subst (λ (i : List ℕ). FaultIn mode l at i (to + m) (FieldOverflow (to + m) x (length s - (to + m))))
          (sym is)
          (subst (λ (j : ℕ). FaultIn mode l at all (to + m) (FieldOverflow (to + m) x j)) (sym left)
          (subst (λ (j : ℕ). FaultIn mode l at all j (FieldOverflow j x (length rest))) (sym place) f));
    }))
    (λ u. clash (let k = simp u at h in cc))

fixed_fault : (mode : Mode) (l : ℕ) (s : List ℕ) (at n type to width : ℕ) (why : WireError) → Bytes s
    → Tagged s at n type to → FixedWidth type width → Err why ≡ skip_fixed (length s) to width
    → FaultyIn mode l s at why
unfolding skip_fixed
fixed_fault mode l s at n type to width why b t f h =
    either (ltb (length s - to) width)
    (λ u. let k = simp u at h in
    let w : FieldOverflow to width (length s - to) ≡ why = cc in
    let left : length s - to ≡ length (drop to s) = sym (length-drop to s) in
    subst (FaultyIn mode l s at) w
    (subst (λ (j : ℕ). FaultyIn mode l s at (FieldOverflow to width j)) (sym left)
    (after_tag mode l s at n type to b t (λ k. FieldOverflow k width (length (drop to s)))
    (too_wide (drop to s) (numbered mode l s at n type to b t) f
    (omega (arith, left, ltb-true (length s - to) width u))))))
    (λ u. clash (let k = simp u at h in cc))

value-fault : (mode : Mode) (l : ℕ) (s : List ℕ) (at n type to : ℕ) (why : WireError) → Bytes s → Tagged s at n type to
    → (eqb type 0 ≡ false → eqb type 2 ≡ false → eqb type 5 ≡ false → eqb type 1 ≡ false → Untaken mode type)
    → Err why ≡ skip_value s to type → FaultyIn mode l s at why
unfolding skip_value read_varint read_len
value-fault mode l s at n type to why b t u h =
    either (eqb type 0)
    (λ t0. varint-fault mode l s at n to why (read_uvarint (drop to s)) b (rw (eqb-true type 0 t0) at t) refl
    (simp t0 at h))
    (λ t0. either (eqb type 2)
    (λ t2. part-fault mode l s at n to why (read_uvarint (drop to s)) b (rw (eqb-true type 2 t2) at t) refl
    (simp (t0, t2) at h))
    (λ t2. either (eqb type 5)
    (λ t5. fixed_fault mode l s at n type to 4 why b t
    (subst (λ (k : ℕ). FixedWidth k 4) (sym (eqb-true type 5 t5)) i32) (simp (t0, t2, t5) at h))
    (λ t5. either (eqb type 1)
    (λ t1. fixed_fault mode l s at n type to 8 why b t
    (subst (λ (k : ℕ). FixedWidth k 8) (sym (eqb-true type 1 t1)) i64) (simp (t0, t2, t5, t1) at h))
    (λ t1. let k = simp (t0, t2, t5, t1) at h in
    let w : UnsupportedWireType type to ≡ why = cc in
    subst (FaultyIn mode l s at) w
    (after_tag mode l s at n type to b t (UnsupportedWireType type)
    (bad_type (drop to s) (numbered mode l s at n type to b t) (u t0 t2 t5 t1)))))))

-- the types that are left
untaken_rest : (mode : Mode) (type : ℕ) → type < 8 → eqb type 3 ≡ false → eqb type 4 ≡ false → eqb type 0 ≡ false
    → eqb type 2 ≡ false → eqb type 5 ≡ false → eqb type 1 ≡ false → Untaken mode type
untaken_rest mode type b t3 t4 t0 t2 t5 t1 =
    let low : 2 < type = omega (arith, eqb-false type 0 t0, eqb-false type 1 t1, eqb-false type 2 t2) in
    let high : 5 < type = omega (arith, eqb-false type 3 t3, eqb-false type 4 t4, eqb-false type 5 t5) in
    either (eqb type 6) (λ t6. subst (Untaken mode) (sym (eqb-true type 6 t6)) six)
    (λ t6. let e : 7 ≡ type = omega (arith, eqb-false type 6 t6) in subst (Untaken mode) e seven)

untaken_plain : (type : ℕ) → type < 8 → eqb type 0 ≡ false → eqb type 2 ≡ false → eqb type 5 ≡ false
    → eqb type 1 ≡ false → Untaken Plain type
untaken_plain type b t0 t2 t5 t1 =
    either (eqb type 3) (λ t3. subst (Untaken Plain) (sym (eqb-true type 3 t3)) start-group)
    (λ t3. either (eqb type 4) (λ t4. subst (Untaken Plain) (sym (eqb-true type 4 t4)) end-group)
    (λ t4. untaken_rest Plain type b t3 t4 t0 t2 t5 t1))

-- ---- in a group n, of which the fields before `base` are good: its part ends, an end tag has another number, or the
-- next field has a fault
data Stops : ℕ → ℕ → ℕ → List ℕ → ℕ → WireError → Type 0 where
  ends : {l n base : ℕ} → Stops l n base [] base GroupOpen
  crosses : {l n base k : ℕ} (s : List ℕ) → Numbered k → k ≢ n → Stops l n base (tag k 4 ++ s) base EndGroup
  faults : {l n base place : ℕ} {s : List ℕ} {why : WireError} → FaultIn Groups l base s place why
      → Stops l n base s place why

-- the good fields from a place on, and what stops the group after them
record Stopped (l n : ℕ) (s : List ℕ) (at : ℕ) (why : WireError) : Type 0 where
  bytes_of : List ℕ
  entries : List Entry
  is : BodyIn l bytes_of entries
  rest : List ℕ
  here : drop at s ≡ bytes_of ++ rest
  place : ℕ
  stops : Stops l n (at + length bytes_of) rest place why

at_once : {l n place : ℕ} {why : WireError} (s : List ℕ) (at : ℕ) → Stops l n at (drop at s) place why
    → Stopped l n s at why
at_once {l} {n} {place} {why} s at h =
    let e : at ≡ at + 0 = omega arith in
    record {
      bytes_of = [];
      entries = [];
      is = no_fields;
      rest = drop at s;
      here = refl;
      place = place;
      stops = subst (λ (k : ℕ). Stops l n k (drop at s) place why) e h;
    }

-- a field in front
in_line : {l n type m at to x : ℕ} {why : WireError} (s : List ℕ) → 1 ≤ m → m ≤ 536870911
    → drop at s ≡ uvarint (m * 8 + type) ++ drop to s → to ≡ at + length (uvarint (m * 8 + type))
    → (p : Past l m type s to x) → x ≡ to + length p.bytes_of → Stopped l n s x why → Stopped l n s at why
in_line {l} {n} {type} {m} {at} {to} {x} {why} s low high h g p y c =
    let t = uvarint (m * 8 + type) in
    let v = p.bytes_of in
    let w = c.bytes_of in
    let e : x + length w ≡ at + length (t ++ (v ++ w)) =
    omega (arith, g, y, length-append t (v ++ w), length-append v w) in
    record {
      bytes_of = t ++ (v ++ w);
      entries = record { field = m; payload = p.holds } ∷ c.entries;
      is = in_front low high p.is c.is;
      rest = c.rest;
      here = h ∙ ap (λ (i : List ℕ). t ++ i) (p.here ∙ ap (λ (i : List ℕ). v ++ i) c.here
          ∙ sym (append_assoc v w c.rest))
          ∙ sym (append_assoc t (v ++ w) c.rest);
      place = c.place;
      stops = subst (λ (k : ℕ). Stops l n k c.rest c.place why) e c.stops;
    }

-- a group that is stopped has a fault
stop-fault : {l n base : ℕ} {es : List Entry} (v rest : List ℕ) {place : ℕ} {why : WireError} → Numbered n
    → BodyIn l v es → Stops l n (base + length (tag n 3) + length v) rest place why
    → FaultIn Groups (suc l) base (tag n 3 ++ (v ++ rest)) place why
stop-fault {l} {n} {base} v rest m g ends =
    subst (λ (i : List ℕ). FaultIn Groups (suc l) base (tag n 3 ++ i) (base + length (tag n 3) + length v) GroupOpen)
    (sym (append-nil v)) (unclosed v m g)
stop-fault v rest m g (crosses s k z) = crossed v s m g k z
stop-fault v rest m g (faults f) = within v rest m g f

-- what opens a group that is stopped
opens-fault : {l n at to : ℕ} {why : WireError} (s : List ℕ) → Bytes s → Tagged s at n 3 to → Stopped l n s to why
    → FaultyIn Groups (suc l) s at why
opens-fault {l} {n} {at} {to} {why} s b t c =
    let m = numbered Groups l s at n 3 to b t in
    let e = tag-ends Groups l s at n 3 to b t in
    let h : drop at s ≡ tag n 3 ++ (c.bytes_of ++ c.rest) =
    start Groups l s at n 3 to b t ∙ ap (λ (i : List ℕ). tag n 3 ++ i) c.here in
    record {
      place = c.place;
      fault = subst (λ (i : List ℕ). FaultIn Groups (suc l) at i c.place why) (sym h)
          (stop-fault c.bytes_of c.rest m c.is
          (subst (λ (k : ℕ). Stops l n (k + length c.bytes_of) c.rest c.place why) e c.stops));
    }

-- what is refused after a place is stopped there
module _ (s : List ℕ) (b : Bytes s) (at : ℕ) (later : (l to n : ℕ) (why : WireError) → at < to → to ≤ length s
    → Err why ≡ skip_group l s to n → Stopped l n s to why) where
  opened-fault : (l n to : ℕ) (why : WireError) → Tagged s at n 3 to → (at < to) × (to ≤ length s)
      → Err why ≡ opened (λ j. skip_group j s) l to n → FaultyIn Groups l s at why
  opened-fault zero n to why t m h =
      let w : GroupDepth ≡ why = cc in
      subst (FaultyIn Groups zero s at) w
      (after_tag Groups zero s at n 3 to b t (λ k. GroupDepth)
      (too_deep (drop to s) (numbered Groups zero s at n 3 to b t)))
  opened-fault (suc l) n to why t m h = opens-fault s b t (later l to n why m.0 m.1 h)

  passed-fault : (l n type to : ℕ) (why : WireError) → Ok (Some (n, type, to)) ≡ read_tag s at → eqb type 4 ≡ false
      → Err why ≡ passed (λ j. skip_group j s) l s to n type → FaultyIn Groups l s at why
  unfolding passed
  passed-fault l n type to why q t4 h =
      let t = tag-spelt s at n type to b q in
      either (eqb type 3)
      (λ t3. opened-fault l n to why (rw (eqb-true type 3 t3) at t) (tag_moves s at n type to q) (simp t3 at h))
      (λ t3. value-fault Groups l s at n type to why b t (untaken_rest Groups type t.bits t3 t4)
      (simp (t3, t4) at h))

  on_stopped : (l n m type to : ℕ) (why : WireError) (r : Result ℕ WireError) → Ok (Some (m, type, to)) ≡ read_tag s at
      → eqb type 4 ≡ false → r ≡ passed (λ j. skip_group j s) l s to m type
      → Err why ≡ and_on (λ e. skip_group l s e n) r → Stopped l n s at why
  on_stopped l n m type to why (Err w) q t4 p h =
      let e : w ≡ why = cc in
      at_once s at (faults (passed-fault l m type to why q t4 (ap Err (sym e) ∙ p)).fault)
  on_stopped l n m type to why (Ok x) q t4 p h =
      let t = tag-spelt s at m type to b q in
      let i = tag_moves s at m type to q in
      let w = passed-past s b (λ j. skip_group j s) (group-closed s b) (group_moves s) l to m type x p in
      let y = passed_moves s (λ j. skip_group j s) (group_moves s) l to m type x p in
      in_line s t.least t.most t.spells.here t.spells.ends w (past-ends s w y.0 y.1)
      (later l x n why (omega (arith, i.0, y.0)) y.1 h)

  in_stopped : (l n : ℕ) (why : WireError) (r : Result (Option (ℕ × ℕ × ℕ)) WireError) → r ≡ read_tag s at
      → Err why ≡ in_group (λ j. skip_group j s) l s n r → Stopped l n s at why
  unfolding read_field tag
  in_stopped l n why (Ok None) q h =
      let w : GroupOpen ≡ why = cc in
      subst (Stopped l n s at) w
      (at_once s at (subst (λ (i : List ℕ). Stops l n at i at GroupOpen)
      (sym (drop_of_length-le s (field-ended Plain s at (ap (of_tag Plain s) q)))) ends))
  in_stopped l n why (Err w) q h =
      let e : w ≡ why = cc in
      at_once s at (faults (tag-fault Groups l s at why b (ap Err (sym e) ∙ q)).fault)
  in_stopped l n why (Ok (Some (m, type, to))) q h =
      either (eqb type 4)
      (λ t4. either (eqb m n) (λ u. clash (let k = simp (t4, u) at h in cc))
      (λ u. let k = simp (t4, u) at h in
      let w : EndGroup ≡ why = cc in
      let t = rw (eqb-true type 4 t4) at (tag-spelt s at m type to b q) in
      subst (Stopped l n s at) w
      (at_once s at (subst (λ (i : List ℕ). Stops l n at i at EndGroup) (sym t.spells.here)
      (crosses (drop to s) (t.least, t.most) (eqb-false m n u))))))
      (λ t4. on_stopped l n m type to why (passed (λ j. skip_group j s) l s to m type) q t4 refl (simp t4 at h))

group-stopped : (k : ℕ) (s : List ℕ) → Bytes s → (l at n : ℕ) (why : WireError) → length s - at < k
    → Err why ≡ skip_group l s at n → Stopped l n s at why
group-stopped zero s b l at n why i h = absurd (omega arith)
group-stopped (suc k) s b l at n why i h =
    in_stopped s b at (λ j to m w u v. group-stopped k s b j to m w (omega arith)) l n why (read_tag s at) refl
    (h ∙ group-step l s at n)

-- ---- a field that is refused has a fault
faulty : {s : List ℕ} {at : ℕ} {why : WireError} (mode : Mode) → FaultyIn mode (levels_of mode) s at why
    → Faulty mode s at why
faulty mode f = record { place = f.place; fault = of_field f.fault; spot-at = fault-spot f.fault }

skip_fault : (mode : Mode) (s : List ℕ) (at n type to : ℕ) (why : WireError) → Bytes s
    → Ok (Some (n, type, to)) ≡ read_tag s at → Err why ≡ skip_field mode max_groups s to n type
    → Faulty mode s at why
unfolding skip_field passed tag
skip_fault Plain s at n type to why b q h =
    let t = tag-spelt s at n type to b q in
    faulty Plain (value-fault Plain 0 s at n type to why b t (untaken_plain type t.bits) h)
skip_fault Groups s at n type to why b q h =
    either (eqb type 4)
    (λ t4. let z = eqb-true type 4 t4 in
    let k = rw z at h in
    let t = rw z at (tag-spelt s at n type to b q) in
    let w : EndGroup ≡ why = cc in
    subst (Faulty Groups s at) w
    (record {
      place = at;
      fault = subst (λ (i : List ℕ). Fault Groups at i at EndGroup) (sym t.spells.here)
          (stray (drop to s) (t.least, t.most));
      spot-at = refl;
    }))
    (λ t4. faulty Groups
    (passed-fault s b at (λ l x m w u v. group-stopped (suc (length s - x)) s b l x m w (omega arith)) max_groups n type
    to why q t4 h))

of_tag_lem : (mode : Mode) (s : List ℕ) (at : ℕ) (why : WireError) (r : Result (Option (ℕ × ℕ × ℕ)) WireError)
    → Bytes s → r ≡ read_tag s at → Err why ≡ of_tag mode s r → Faulty mode s at why
of_tag_lem mode s at why (Ok None) b q h = clash (cc)
of_tag_lem mode s at why (Err w) b q h =
    let e : w ≡ why = cc in
    faulty mode (tag-fault mode (levels_of mode) s at why b (ap Err (sym e) ∙ q))
of_tag_lem mode s at why (Ok (Some (n, type, to))) b q h =
    skip_fault mode s at n type to why b q (value_skipped mode s n type to why h)

pub is-fault : (mode : Mode) (s : List ℕ) (at : ℕ) (why : WireError) → Bytes s → Err why ≡ read_field mode s at
    → Faulty mode s at why
unfolding read_field
is-fault mode s at why b h = of_tag_lem mode s at why (read_tag s at) b refl h

-- ---- and back
varint-bad : (s : List ℕ) (at : ℕ) (rest : List ℕ) {e : VarintError} → drop at s ≡ rest → Bad rest e
    → read_uvarint (drop at s) ≡ Err e
varint-bad s at rest {e} h d = ap read_uvarint h ∙ (bad-exactly rest e).1 d

-- a tag that is no varint, or whose number is that of no field
tag_refused_lem : (s : List ℕ) (at : ℕ) (rest : List ℕ) {e : VarintError} → 0 < length rest → Bad rest e
    → drop at s ≡ rest → read_tag s at ≡ Err (Varint e at)
unfolding read_tag read_varint
tag_refused_lem s at rest l d h =
    let i : at < length s = omega (arith, length-drop at s, ap length h) in
    simp (lt-leb _ _ i, varint-bad s at rest h d)

number-refused : (s : List ℕ) (at n type : ℕ) (rest : List ℕ) → NoField n → type < 8 → n * 8 + type < 2 ^ 64
    → drop at s ≡ tag n type ++ rest → read_tag s at ≡ Err (InvalidFieldNumber n at)
unfolding read_tag tag read_varint
number-refused s at n type rest none b l h =
    let u = uvarint-some (0 * 8 + type) in
    let k = left-fits s at (uvarint (0 * 8 + type)) rest (omega arith) h in
    let i : at < length s = omega arith in
    let x : (0 * 8 + type) / 8 ≡ 0 = omega arith in
    simp (lt-leb _ _ i, reads-spelt s at (0 * 8 + type) rest l h, x)
number-refused s at n type rest (large m) b l h =
    let u = uvarint-some (n * 8 + type) in
    let k = left-fits s at (uvarint (n * 8 + type)) rest (omega arith) h in
    let i : at < length s = omega arith in
    let x : (n * 8 + type) / 8 ≡ n = omega arith in
    simp (
      lt-leb _ _ i,
      reads-spelt s at (n * 8 + type) rest l h,
      x,
      ne_eqb n 0 (λ z. omega arith),
      lt-ltb 536870911 n m,
    )

-- values that are not passed
fixed_refused : {type width : ℕ} (mode : Mode) (l : ℕ) (s : List ℕ) (n to : ℕ) (rest : List ℕ) → FixedWidth type width
    → drop to s ≡ rest → length rest < width
    → skip_field mode l s to n type ≡ Err (FieldOverflow to width (length rest))
unfolding skip_value skip_fixed
fixed_refused mode l s n to rest i64 h z =
    let e : length s - to ≡ length rest = sym (length-drop to s) ∙ ap length h in
    skip_value_lem mode l s to n 1 refl refl ∙ simp (e, lt-ltb (length rest) 8 z)
fixed_refused mode l s n to rest i32 h z =
    let e : length s - to ≡ length rest = sym (length-drop to s) ∙ ap length h in
    skip_value_lem mode l s to n 5 refl refl ∙ simp (e, lt-ltb (length rest) 4 z)

type_refused : {mode : Mode} {type : ℕ} (l : ℕ) (s : List ℕ) (n to : ℕ) → Untaken mode type
    → skip_field mode l s to n type ≡ Err (UnsupportedWireType type to)
unfolding skip_field skip_value
type_refused l s n to start-group = refl
type_refused l s n to end-group = refl
type_refused l s n to (six {m}) = skip_value_lem m l s to n 6 refl refl
type_refused l s n to (seven {m}) = skip_value_lem m l s to n 7 refl refl

varint-refused : (mode : Mode) (l : ℕ) (s : List ℕ) (n to : ℕ) (e : VarintError) → read_uvarint (drop to s) ≡ Err e
    → skip_field mode l s to n 0 ≡ Err (Varint e to)
unfolding skip_value read_varint
varint-refused mode l s n to e h = skip_value_lem mode l s to n 0 refl refl ∙ simp h

length-refused : (mode : Mode) (l : ℕ) (s : List ℕ) (n to : ℕ) (e : VarintError) → read_uvarint (drop to s) ≡ Err e
    → skip_field mode l s to n 2 ≡ Err (Varint e to)
unfolding skip_value read_len read_varint
length-refused mode l s n to e h = skip_value_lem mode l s to n 2 refl refl ∙ simp h

long-refused : (mode : Mode) (l : ℕ) (s : List ℕ) (n to size : ℕ) (rest : List ℕ) → size < 2 ^ 64
    → drop to s ≡ uvarint size ++ rest → length rest < size
    → skip_field mode l s to n 2 ≡ Err (FieldOverflow (to + length (uvarint size)) size (length rest))
unfolding skip_value read_len read_varint
long-refused mode l s n to size rest b h z =
    let a = to + length (uvarint size) in
    let e : length s - a ≡ length rest = sym (length-drop a s) ∙ ap length (drop-front s to (uvarint size) rest h) in
    skip_value_lem mode l s to n 2 refl refl ∙ simp (reads-spelt s to size rest b h, e, lt-ltb (length rest) size z)

-- how the field at a place is refused: by its tag, or after it
data Refuses (mode : Mode) (l : ℕ) (s : List ℕ) (at : ℕ) (why : WireError) : Type 0 where
  by-tag : read_tag s at ≡ Err why → Refuses mode l s at why
  by_value : (n type to : ℕ) → read_tag s at ≡ Ok (Some (n, type, to)) → (mode ≡ Groups → eqb type 4 ≡ false)
      → skip_field mode l s to n type ≡ Err why → Refuses mode l s at why

-- so in a group
group-refused : {l : ℕ} {why : WireError} (s : List ℕ) (at n : ℕ) → Refuses Groups l s at why
    → skip_group l s at n ≡ Err why
unfolding skip_field
group-refused {l} s at n (by-tag h) = group-step l s at n ∙ ap (in_group (λ j. skip_group j s) l s n) h
group-refused {l} s at n (by_value m type to h t4 p) =
    group-step l s at n ∙ ap (in_group (λ j. skip_group j s) l s n) h ∙ simp (t4 refl, p)

-- a tag, and what is not passed after it
tag-then : {l n : ℕ} {why : WireError} (mode : Mode) (type : ℕ) (s : List ℕ) (at : ℕ) (rest : List ℕ) → Numbered n
    → type < 8 → (mode ≡ Groups → eqb type 4 ≡ false) → drop at s ≡ tag n type ++ rest
    → (drop (at + length (tag n type)) s ≡ rest
    → skip_field mode l s (at + length (tag n type)) n type ≡ Err why)
    → Refuses mode l s at why
unfolding tag
tag-then {n = n} mode type s at rest m b t4 h f =
    by_value n type (at + length (tag n type)) (tag-reads s at n type rest m.0 m.1 b h) t4
    (f (drop-front s at (tag n type) rest h))

-- a start tag, and a group that is not passed
group-then : {l n : ℕ} {why : WireError} (s : List ℕ) (at : ℕ) (rest : List ℕ) → Numbered n
    → drop at s ≡ tag n 3 ++ rest
    → (drop (at + length (tag n 3)) s ≡ rest → skip_group l s (at + length (tag n 3)) n ≡ Err why)
    → Refuses Groups (suc l) s at why
unfolding skip_field passed
group-then s at rest m h f = tag-then Groups 3 s at rest m (omega arith) (λ e. refl) h f

untaken_bits : {mode : Mode} {type : ℕ} → Untaken mode type → (type < 8) × (mode ≡ Groups → eqb type 4 ≡ false)
untaken_bits start-group = (omega arith, λ e. refl)
untaken_bits end-group = (omega arith, λ e. clash (cc))
untaken_bits six = (omega arith, λ e. refl)
untaken_bits seven = (omega arith, λ e. refl)

fixed_bits : {type width : ℕ} → FixedWidth type width → (type < 8) × (eqb type 4 ≡ false)
fixed_bits i64 = (omega arith, refl)
fixed_bits i32 = (omega arith, refl)

fault-refuses : {mode : Mode} {l base place : ℕ} {r : List ℕ} {why : WireError} (s : List ℕ)
    → FaultIn mode l base r place why → drop base s ≡ r → Refuses mode l s base why
unfolding skip_field passed tag
fault-refuses s (bad-tag {base} r z d) h = by-tag (tag_refused_lem s base r z d h)
fault-refuses s (bad-number {base} {n} {type} r z b l) h = by-tag (number-refused s base n type r z b l h)
fault-refuses s (bad_type {m} {l} {base} {n} {type} r k u) h =
    let b = untaken_bits u in
    tag-then m type s base r k b.0 b.1 h (λ i. type_refused l s n (base + length (tag n type)) u)
fault-refuses s (bad-value {m} {l} {base} {n} {e} r k d) h =
    let to = base + length (tag n 0) in
    tag-then m 0 s base r k (omega arith) (λ q. refl) h (λ i. varint-refused m l s n to e (varint-bad s to r i d))
fault-refuses s (bad-length {m} {l} {base} {n} {e} r k d) h =
    let to = base + length (tag n 2) in
    tag-then m 2 s base r k (omega arith) (λ q. refl) h (λ i. length-refused m l s n to e (varint-bad s to r i d))
fault-refuses s (too_long {m} {l} {base} {n} {size} r k b z) h =
    tag-then m 2 s base (uvarint size ++ r) k (omega arith) (λ q. refl) h
    (λ i. long-refused m l s n (base + length (tag n 2)) size r b i z)
fault-refuses s (too_wide {m} {l} {base} {n} {type} r k f z) h =
    let b = fixed_bits f in
    tag-then m type s base r k b.0 (λ q. b.1) h (λ i. fixed_refused m l s n (base + length (tag n type)) r f i z)
fault-refuses s (too_deep {base} r k) h = tag-then Groups 3 s base r k (omega arith) (λ q. refl) h (λ i. refl)
fault-refuses s (unclosed {l} {base} {n} v k g) h =
    let to = base + length (tag n 3) in
    group-then s base v k h
    (λ i. let j : drop to s ≡ v ++ [] = i ∙ sym (append-nil v) in
    let d = ap length (drop-front s to v [] j) in
    let e : length s ≤ to + length v = omega (arith, length-drop (to + length v) s) in
    group_over s to n [] g j ∙ group-step l s (to + length v) n
    ∙ ap (in_group (λ x. skip_group x s) l s n) (tag-end s (to + length v) e))
fault-refuses s (crossed {l} {base} {n} {k} v r m g o z) h =
    let to = base + length (tag n 3) in
    group-then s base (v ++ (tag k 4 ++ r)) m h
    (λ i. group_over s to n (tag k 4 ++ r) g i ∙ group-step l s (to + length v) n
    ∙ ap (in_group (λ x. skip_group x s) l s n)
    (tag-reads s (to + length v) k 4 r o.0 o.1 (omega arith) (drop-front s to v (tag k 4 ++ r) i))
    ∙ simp (ne_eqb k n z))
fault-refuses s (within {l} {base} {n} v r m g f) h =
    let to = base + length (tag n 3) in
    group-then s base (v ++ r) m h
    (λ i. group_over s to n r g i ∙ group-refused s (to + length v) n (fault-refuses s f (drop-front s to v r i)))

-- ---- a field with a fault is refused
top_levels : (mode : Mode) (s : List ℕ) (at n type : ℕ)
    → skip_field mode max_groups s at n type ≡ skip_field mode (levels_of mode) s at n type
unfolding skip_field
top_levels Plain s at n type = refl
top_levels Groups s at n type = refl

field-refused : {why : WireError} (mode : Mode) (s : List ℕ) (at : ℕ) → Refuses mode (levels_of mode) s at why
    → read_field mode s at ≡ Err why
unfolding read_field
field-refused mode s at (by-tag h) = ap (of_tag mode s) h
field-refused {why} mode s at (by_value n type to h t4 p) =
    ap (of_tag mode s) h ∙ skipped_value mode s n type to why (top_levels mode s to n type ∙ p)

pub fault-refused : {place : ℕ} {r : List ℕ} {why : WireError} (mode : Mode) (s : List ℕ) (at : ℕ)
    → Fault mode at r place why → drop at s ≡ r
    → (read_field mode s at ≡ Err why) × (spot_of why ≡ placed_as (spot_of why) (Some (spot place)))
unfolding read_field skip_field passed tag
fault-refused mode s at (of_field f) h = (field-refused mode s at (fault-refuses s f h), fault-spot f)
fault-refused mode s at (stray {n = n} r k) h =
    let to = at + length (tag n 4) in (
      ap (of_tag Groups s) (tag-reads s at n 4 r k.0 k.1 (omega arith) h)
          ∙ skipped_value Groups s n 4 to EndGroup refl,
      refl,
    )
