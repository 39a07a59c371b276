-- The walk is the grammar's: it reaches the end of a body exactly where the body is well formed, and then its fields
-- are the grammar's.
use Rattle.std.specs.Prelude.{Result, Ok, Err, Option, Some, None, ℕ, ◌+◌, ◌-◌, ◌*◌, ◌/◌, ◌^◌, ◌≤◌, ◌<◌, ◌≡◌, refl, List, [], ◌∷◌, ◌++◌, ◌↔◌, false, length, take, drop, ltb, leb, eqb}
use Rattle.std.proofs.Common.{sym, ap, ap₂, subst, ◌∙◌, append_assoc, arith, length-append, length-drop, drop_of_length-le, leb-true, eqb-true, le-ltb}
use Rattle.basis.specs.declared.Mode.{Mode}
use Rattle.basis.specs.declared.Mode.TheVariants.{Plain, Groups}
use Rattle.basis.specs.Cases.{either, clash}
use Rattle.basis.specs.Bytes.{Bytes}
use Rattle.peer_id.specs.Uvarint.{uvarint, read_uvarint}
use Rattle.peer_id.specs.Laws.{uvarint-some}
use Rattle.protobuf.specs.declared.Field.{Field}
use Rattle.peer_id.specs.declared.VarintError.{VarintError}
use Rattle.protobuf.specs.declared.WireError.{WireError}
use Rattle.protobuf.specs.Field.{located, and_then, tag_of, read_tag, read_len, read_varint, skip_value, passed, skip_field}
use Rattle.protobuf.specs.Field.{of_value, of_part, of_skip, read_value, of_tag, read_field}
use Rattle.protobuf.specs.Grammar.{Payload, number, eight, bytes, group, four, Entry, Value, varint, i64}
use Rattle.protobuf.specs.Grammar.{len-prefix, i32, BodyIn, none, field, a_group, Holds, value as of_value_lem, grouped}
use Rattle.protobuf.specs.Grammar.{max_groups, levels_of, Body}
use Rattle.protobuf.specs.Walk.{Fields, refused, ◌then◌, on_step, walk_at, whole, between, payload_of, entry_of}
use Rattle.protobuf.specs.Walk.{entries_of}
use Rattle.protobuf.specs.WalkLaws.{between-length, walk_on, walk_end}
use Rattle.protobuf.specs.Spelt.{reads-spelt, drop-front, take-front, split, varint-spelt, part-spelt, tag-spelt}
use Rattle.protobuf.specs.Laws.{skip_value_lem}
use Rattle.protobuf.specs.GroupLaws.{in_front, Closed, group-closed, group-passes}
use Rattle.protobuf.specs.Spelt.{Fixed, fixed_at, left-fits, fixed_reads, fixed_bytes, tag-reads}

-- what a field n holds: its bytes stand at the end of the tag, and the grammar has them
record Valued (mode : Mode) (s : List ℕ) (n to : ℕ) (f : Field) : Type 0 where
  bytes_of : List ℕ
  is : Holds (levels_of mode) n f.wire_type bytes_of (payload_of s f)
  here : drop to s ≡ bytes_of ++ drop f.next s

value_valued : (mode : Mode) (s : List ℕ) (n type to : ℕ) (f : Field) (r : Result (ℕ × ℕ) WireError) → Bytes s
    → type ≡ 0 → r ≡ read_varint s to → Ok (Some f) ≡ of_value n type to r → Valued mode s n to f
unfolding payload_of
value_valued mode s n type to f (Ok (x, e)) b z q h =
    let t = varint-spelt s to x e b q in
    let ef : f ≡ record { field = n; wire_type = 0; tag_end = to; value = x; start = e; next = e } = (cc) in
    subst (Valued mode s n to) (sym ef)
    (record { bytes_of = uvarint x; is = of_value_lem (varint t.bound); here = t.here })
value_valued mode s n type to f (Err why) b z q h = clash (cc)

part_valued : (mode : Mode) (s : List ℕ) (n type to : ℕ) (f : Field) (r : Result (ℕ × ℕ) WireError) → Bytes s
    → type ≡ 2 → r ≡ read_len s to → Ok (Some f) ≡ of_part n type to r → Valued mode s n to f
unfolding payload_of
part_valued mode s n type to f (Ok (a, e)) b z q h =
    let t = part-spelt s to a e b q in
    let d = between s a e in
    let g : length d ≡ e - a = between-length s a e t.within in
    let ef : f ≡ record { field = n; wire_type = 2; tag_end = to; value = e - a; start = a; next = e } = (cc) in
    subst (Valued mode s n to) (sym ef)
    (record {
      bytes_of = uvarint (length d) ++ d;
      is = of_value_lem (len-prefix {d = d} (rw g t.size.bound));
      here = t.size.here ∙ ap₂ (λ (k : ℕ) (l : List ℕ). uvarint k ++ l) (sym g) (split s a e t.order)
          ∙ sym (append_assoc (uvarint (length d)) d (drop e s));
    })
part_valued mode s n type to f (Err why) b z q h = clash (cc)

four_valued : (mode : Mode) (s : List ℕ) (n to : ℕ) (f : Field) (e : ℕ) → Fixed s to 4 e
    → Ok (Some f) ≡ of_skip n 5 to (Ok e) → Valued mode s n to f
unfolding payload_of
four_valued mode s n to f e t h =
    let o : to ≤ e = omega (arith, t.ends) in
    let g : length (between s to e) ≡ 4 = between-length s to e t.within ∙ omega (arith, t.ends) in
    let ef : f ≡ record { field = n; wire_type = 5; tag_end = to; value = 0; start = to; next = e } = (cc) in
    subst (Valued mode s n to) (sym ef)
    (record { bytes_of = between s to e; is = of_value_lem (i32 g); here = split s to e o })

eight_valued : (mode : Mode) (s : List ℕ) (n to : ℕ) (f : Field) (e : ℕ) → Fixed s to 8 e
    → Ok (Some f) ≡ of_skip n 1 to (Ok e) → Valued mode s n to f
unfolding payload_of
eight_valued mode s n to f e t h =
    let o : to ≤ e = omega (arith, t.ends) in
    let g : length (between s to e) ≡ 8 = between-length s to e t.within ∙ omega (arith, t.ends) in
    let ef : f ≡ record { field = n; wire_type = 1; tag_end = to; value = 0; start = to; next = e } = (cc) in
    subst (Valued mode s n to) (sym ef)
    (record { bytes_of = between s to e; is = of_value_lem (i64 g); here = split s to e o })

-- a group
closed-bytes : (s : List ℕ) (n to e : ℕ) (c : Closed 31 n s to e)
    → between s to (e - length (uvarint (n * 8 + 4))) ≡ c.bytes_of
closed-bytes s n to e c =
    let z = uvarint (n * 8 + 4) in
    let k : e - length z - to ≡ length c.bytes_of = omega (arith, c.ends) in
    ap (λ (i : ℕ). take i (drop to s)) k
    ∙ take-front s to c.bytes_of (z ++ drop e s) (c.here ∙ append_assoc c.bytes_of z (drop e s))

group_valued : (s : List ℕ) (n to : ℕ) (f : Field) (e : ℕ) → Bytes s → Closed 31 n s to e
    → Ok (Some f) ≡ of_skip n 3 to (Ok e) → Valued Groups s n to f
unfolding payload_of
group_valued s n to f e b c h =
    let ef : f ≡ record { field = n; wire_type = 3; tag_end = to; value = 0; start = to; next = e } = (cc) in
    subst (Valued Groups s n to) (sym ef)
    (record {
      bytes_of = c.bytes_of ++ uvarint (n * 8 + 4);
      is = subst (λ (v : List ℕ). Holds 32 n 3 (c.bytes_of ++ uvarint (n * 8 + 4)) (group v))
          (sym (closed-bytes s n to e c)) (grouped c.is);
      here = c.here;
    })

past_valued : (mode : Mode) (s : List ℕ) (n type to : ℕ) (f : Field) (r : Result ℕ WireError) → eqb type 0 ≡ false
    → eqb type 2 ≡ false → r ≡ skip_value s to type → Ok (Some f) ≡ of_skip n type to r → Valued mode s n to f
unfolding skip_value
past_valued mode s n type to f (Ok e) t0 t2 q h =
    either (eqb type 5)
    (λ t5. let z : type ≡ 5 = eqb-true type 5 t5 in four_valued mode s n to f e
    (fixed_at s to 4 e (omega arith) (simp (t0, t2, t5) at q)) (rw z at h))
    (λ t5. either (eqb type 1)
    (λ t1. let z : type ≡ 1 = eqb-true type 1 t1 in eight_valued mode s n to f e
    (fixed_at s to 8 e (omega arith) (simp (t0, t2, t5, t1) at q)) (rw z at h))
    (λ t1. clash (let k = simp (t0, t2, t5, t1) at q in cc)))
past_valued mode s n type to f (Err why) t0 t2 q h = clash (cc)

skip_valued : (mode : Mode) (s : List ℕ) (n type to : ℕ) (f : Field) (r : Result ℕ WireError) → Bytes s
    → eqb type 0 ≡ false → eqb type 2 ≡ false → r ≡ skip_field mode max_groups s to n type
    → Ok (Some f) ≡ of_skip n type to r → Valued mode s n to f
unfolding skip_field passed
skip_valued Plain s n type to f r b t0 t2 q h = past_valued Plain s n type to f r t0 t2 q h
skip_valued Groups s n type to f (Err why) b t0 t2 q h = clash (cc)
skip_valued Groups s n type to f (Ok e) b t0 t2 q h =
    either (eqb type 3)
    (λ t3. let z : type ≡ 3 = eqb-true type 3 t3 in
    group_valued s n to f e b (group-closed s b 31 to n e (simp t3 at q)) (rw z at h))
    (λ t3. either (eqb type 4) (λ t4. clash (let k = simp (t3, t4) at q in cc))
    (λ t4. past_valued Groups s n type to f (Ok e) t0 t2 (simp (t3, t4) at q) h))

read_valued : (mode : Mode) (s : List ℕ) (n type to : ℕ) (f : Field) → Bytes s
    → Ok (Some f) ≡ read_value mode s n type to → Valued mode s n to f
unfolding read_value
read_valued mode s n type to f b h =
    either (eqb type 0)
    (λ t0. value_valued mode s n type to f (read_varint s to) b (eqb-true type 0 t0) refl (simp t0 at h))
    (λ t0. either (eqb type 2)
    (λ t2. part_valued mode s n type to f (read_len s to) b (eqb-true type 2 t2) refl (simp (t0, t2) at h))
    (λ t2. skip_valued mode s n type to f (skip_field mode max_groups s to n type) b t0 t2 refl (simp (t0, t2) at h)))

-- a field that was read has the tag's number and type
record Named (n type to : ℕ) (f : Field) : Type 0 where
  number_of : f.field ≡ n
  type_of_lem : f.wire_type ≡ type
  end_of : f.tag_end ≡ to

value-named : (n type to : ℕ) (f : Field) (r : Result (ℕ × ℕ) WireError) → Ok (Some f) ≡ of_value n type to r
    → Named n type to f
value-named n type to f (Ok (x, e)) h = record { number_of = cc; type_of_lem = cc; end_of = cc }
value-named n type to f (Err why) h = clash (cc)

part-named : (n type to : ℕ) (f : Field) (r : Result (ℕ × ℕ) WireError) → Ok (Some f) ≡ of_part n type to r
    → Named n type to f
part-named n type to f (Ok (a, e)) h = record { number_of = cc; type_of_lem = cc; end_of = cc }
part-named n type to f (Err why) h = clash (cc)

skip_named : (n type to : ℕ) (f : Field) (r : Result ℕ WireError) → Ok (Some f) ≡ of_skip n type to r
    → Named n type to f
skip_named n type to f (Ok e) h = record { number_of = cc; type_of_lem = cc; end_of = cc }
skip_named n type to f (Err why) h = clash (cc)

read_named : (mode : Mode) (s : List ℕ) (n type to : ℕ) (f : Field) → Ok (Some f) ≡ read_value mode s n type to
    → Named n type to f
unfolding read_value
read_named mode s n type to f h =
    either (eqb type 0) (λ t0. value-named n type to f (read_varint s to) (simp t0 at h))
    (λ t0. either (eqb type 2) (λ t2. part-named n type to f (read_len s to) (simp (t0, t2) at h))
    (λ t2. skip_named n type to f (skip_field mode max_groups s to n type) (simp (t0, t2) at h)))

-- a field that was read: its number, and its tag and value as the grammar has them, before what is left
pub record Stood (mode : Mode) (s : List ℕ) (at : ℕ) (f : Field) : Type 0 where
  pub bytes_of : List ℕ
  pub is : Holds (levels_of mode) f.field f.wire_type bytes_of (payload_of s f)
  pub least : 1 ≤ f.field
  pub most : f.field ≤ 536870911
  pub tagged : f.tag_end ≡ at + length (uvarint (f.field * 8 + f.wire_type))
  pub here : drop at s ≡ uvarint (f.field * 8 + f.wire_type) ++ (bytes_of ++ drop f.next s)

tag-stood : (mode : Mode) (s : List ℕ) (at : ℕ) (f : Field) (r : Result (Option (ℕ × ℕ × ℕ)) WireError) → Bytes s
    → r ≡ read_tag s at → Ok (Some f) ≡ of_tag mode s r → Stood mode s at f
tag-stood mode s at f (Ok None) b q h = clash (cc)
tag-stood mode s at f (Err why) b q h = clash (cc)
tag-stood mode s at f (Ok (Some (n, type, to))) b q h =
    let t = tag-spelt s at n type to b q in
    let v = read_valued mode s n type to f b h in
    let m = read_named mode s n type to f h in
    let tn : uvarint (f.field * 8 + f.wire_type) ≡ uvarint (n * 8 + type) =
    ap₂ (λ (x y : ℕ). uvarint (x * 8 + y)) m.number_of m.type_of_lem in
    record {
      bytes_of = v.bytes_of;
      is = subst (λ (k : ℕ). Holds (levels_of mode) k f.wire_type v.bytes_of (payload_of s f))
          (sym m.number_of) v.is;
      least = omega (arith, m.number_of, t.least);
      most = omega (arith, m.number_of, t.most);
      tagged = m.end_of ∙ t.spells.ends ∙ ap (λ (l : List ℕ). at + length l) (sym tn);
      here = t.spells.here ∙ ap₂ (λ (x y : List ℕ). x ++ y) (sym tn) v.here;
    }

pub field-stood : (mode : Mode) (s : List ℕ) (at : ℕ) (f : Field) → Bytes s → Ok (Some f) ≡ read_field mode s at
    → Stood mode s at f
unfolding read_field
field-stood mode s at f b h = tag-stood mode s at f (read_tag s at) b refl h

field-sound : (mode : Mode) (s : List ℕ) (at : ℕ) (f : Field) (es : List Entry) → Bytes s
    → Ok (Some f) ≡ read_field mode s at
    → Body mode (drop f.next s) es → Body mode (drop at s) (entry_of s f ∷ es)
unfolding entry_of
field-sound mode s at f es b h w =
    let t = field-stood mode s at f b h in
    subst (λ (x : List ℕ). Body mode x (record { field = f.field; payload = payload_of s f } ∷ es)) (sym t.here)
    (in_front t.least t.most t.is w)

-- the end is found only there
past-varint : (at : ℕ) (r : Result (ℕ × ℕ) VarintError) → Ok None ≡ and_then (tag_of at) (located at r) → ⊥
past-varint at (Ok (x, n)) h =
    either (eqb (x / 8) 0) (λ t. clash (let k = simp t at h in cc))
    (λ t. either (ltb 536870911 (x / 8)) (λ w. clash (let k = simp (t, w) at h in cc))
    (λ w. clash (let k = simp (t, w) at h in cc)))
past-varint at (Err why) h = clash (cc)

value-going : (mode : Mode) (s : List ℕ) (n type to : ℕ) → Ok None ≡ read_value mode s n type to → ⊥
unfolding read_value
value-going mode s n type to h =
    either (eqb type 0) (λ t0. of_value_lem (read_varint s to) (simp t0 at h))
    (λ t0. either (eqb type 2) (λ t2. of_part_lem (read_len s to) (simp (t0, t2) at h))
    (λ t2. of_skip_lem (skip_field mode max_groups s to n type) (simp (t0, t2) at h)))
  where
    of_value_lem : (r : Result (ℕ × ℕ) WireError) → Ok None ≡ of_value n type to r → ⊥
    of_value_lem (Ok (x, e)) h = clash (cc)
    of_value_lem (Err why) h = clash (cc)

    of_part_lem : (r : Result (ℕ × ℕ) WireError) → Ok None ≡ of_part n type to r → ⊥
    of_part_lem (Ok (a, e)) h = clash (cc)
    of_part_lem (Err why) h = clash (cc)

    of_skip_lem : (r : Result ℕ WireError) → Ok None ≡ of_skip n type to r → ⊥
    of_skip_lem (Ok e) h = clash (cc)
    of_skip_lem (Err why) h = clash (cc)

tag-ended : (mode : Mode) (s : List ℕ) (at : ℕ) (r : Result (Option (ℕ × ℕ × ℕ)) WireError) → r ≡ read_tag s at
    → Ok None ≡ of_tag mode s r → length s ≤ at
unfolding read_tag read_varint
tag-ended mode s at (Ok None) q h =
    either (leb (length s) at) (λ t. leb-true _ _ t)
    (λ t. absurd (past-varint at (read_uvarint (drop at s)) (simp t at q)))
tag-ended mode s at (Err why) q h = clash (cc)
tag-ended mode s at (Ok (Some (n, type, to))) q h = absurd (value-going mode s n type to h)

pub field-ended : (mode : Mode) (s : List ℕ) (at : ℕ) → Ok None ≡ read_field mode s at → length s ≤ at
unfolding read_field
field-ended mode s at h = tag-ended mode s at (read_tag s at) refl h

step-sound : (mode : Mode) (s : List ℕ) (at : ℕ) (fs : List Field) (r : Result (Option Field) WireError) → Bytes s
    → r ≡ read_field mode s at → on_step (walk_at mode s) r ≡ whole fs
    → ((f : Field) (gs : List Field) → walk_at mode s f.next ≡ whole gs → (fs ≡ f ∷ gs) → Body mode (drop f.next s) (entries_of s gs)) → Body mode (drop at s) (entries_of s fs)
step-sound mode s at [] (Ok None) b q h ih = rw (drop_of_length-le s (field-ended mode s at q)) none
step-sound mode s at (f ∷ fs) (Ok None) b q h ih = clash (cc)
step-sound mode s at fs (Err why) b q h ih = never fs h
  where
    never : (gs : List Field) → refused why ≡ whole gs → Body mode (drop at s) (entries_of s fs)
    never [] e = clash (cc)
    never (g ∷ gs) e = clash (cc)
step-sound mode s at [] (Ok (Some f)) b q h ih = clash (cc)
step-sound mode s at (g ∷ gs) (Ok (Some f)) b q h ih =
    let eg : g ≡ f = cc in
    let ew : walk_at mode s f.next ≡ whole gs = cc in
    rw eg (field-sound mode s at f (entries_of s gs) b q (ih f gs ew (ap (λ (x : Field). x ∷ gs) eg)))

sound : (mode : Mode) (s : List ℕ) (fs : List Field) (at : ℕ) → Bytes s → walk_at mode s at ≡ whole fs
    → Body mode (drop at s) (entries_of s fs)
sound mode s [] at b h = step-sound mode s at [] (read_field mode s at) b refl
    (sym (walk_on mode s at (read_field mode s at) refl) ∙ h)
    (λ f gs w e. clash (cc))
sound mode s (g ∷ hs) at b h =
    step-sound mode s at (g ∷ hs) (read_field mode s at) b refl (sym (walk_on mode s at (read_field mode s at) refl) ∙ h)
    (λ f gs w e. let eh : hs ≡ gs = cc in rw (← eh) (sound mode s hs f.next b (w ∙ ap whole (sym eh))))

-- ---- from the grammar to the walk: each value is read where it stands
-- a field of the grammar is read at its place, and what it holds is the grammar's
pub record Found (mode : Mode) (s : List ℕ) (at n type : ℕ) (p : Payload) (rest : List ℕ) : Type 0 where
  pub f : Field
  pub read : Ok (Some f) ≡ read_field mode s at
  pub tagged : f.tag_end ≡ at + length (uvarint (n * 8 + type))
  pub entry : entry_of s f ≡ record { field = n; payload = p }
  pub left : drop f.next s ≡ rest

-- the same of a value, whose tag ends at `to`
record Held (mode : Mode) (s : List ℕ) (n type to : ℕ) (p : Payload) (rest : List ℕ) : Type 0 where
  f : Field
  read : Ok (Some f) ≡ read_value mode s n type to
  tagged : f.tag_end ≡ to
  entry : entry_of s f ≡ record { field = n; payload = p }
  left : drop f.next s ≡ rest

varint-held : (mode : Mode) (s : List ℕ) (n to v : ℕ) (rest : List ℕ) → v < 2 ^ 64 → drop to s ≡ uvarint v ++ rest
    → Held mode s n 0 to (number v) rest
unfolding read_value read_varint entry_of payload_of
varint-held mode s n to v rest b h =
    let e = to + length (uvarint v) in
    record {
      f = record { field = n; wire_type = 0; tag_end = to; value = v; start = e; next = e };
      read = simp (reads-spelt s to v rest b h);
      tagged = refl;
      entry = refl;
      left = drop-front s to (uvarint v) rest h;
    }

bytes-held : (mode : Mode) (s : List ℕ) (n to : ℕ) (d rest : List ℕ) → length d < 2 ^ 64
    → drop to s ≡ (uvarint (length d) ++ d)
    ++ rest → Held mode s n 2 to (bytes d) rest
unfolding read_value read_len entry_of payload_of read_varint
bytes-held mode s n to d rest b h =
    let a = to + length (uvarint (length d)) in
    let e = a + length d in
    let h1 : drop to s ≡ uvarint (length d) ++ (d ++ rest) = h ∙ append_assoc (uvarint (length d)) d rest in
    let h2 : drop a s ≡ d ++ rest = drop-front s to (uvarint (length d)) (d ++ rest) h1 in
    let u = uvarint-some (length d) in
    let l = left-fits s to (uvarint (length d)) (d ++ rest) (omega arith) h1 in
    let k : length d ≤ length s - a = omega (arith, length-append d rest) in
    let x : e - a ≡ length d = omega arith in
    let t : take (e - a) (drop a s) ≡ d = ap (λ (i : ℕ). take i (drop a s)) x ∙ take-front s a d rest h2 in
    record {
      f = record { field = n; wire_type = 2; tag_end = to; value = e - a; start = a; next = e };
      read = simp (reads-spelt s to (length d) (d ++ rest) b h1, le-ltb _ _ k);
      tagged = refl;
      entry = ap (λ (y : List ℕ). record { field = n; payload = bytes y }) t;
      left = drop-front s a d rest h2;
    }

-- a value that is passed over
past-held : (mode : Mode) (s : List ℕ) (n type to k : ℕ) (d rest : List ℕ) (p : List ℕ → Payload) → 0 < k
    → length d ≡ k → drop to s ≡ d ++ rest
    → Ok (Some (record { field = n; wire_type = type; tag_end = to; value = 0; start = to; next = to + k }))
    ≡ read_value mode s n type to
    → entry_of s (record { field = n; wire_type = type; tag_end = to; value = 0; start = to; next = to + k })
    ≡ record { field = n; payload = p (between s to (to + k)) }
    → Held mode s n type to (p d) rest
past-held mode s n type to k d rest p z g h r e =
    let t = fixed_bytes s to d rest k g h in
    record {
      f = record { field = n; wire_type = type; tag_end = to; value = 0; start = to; next = to + k };
      read = r;
      tagged = refl;
      entry = e ∙ ap (λ (y : List ℕ). record { field = n; payload = p y }) t.0;
      left = t.1;
    }

-- a fixed number of bytes
fixed_skips : (mode : Mode) (s : List ℕ) (n to : ℕ) (d rest : List ℕ) → drop to s ≡ d ++ rest
    → (length d ≡ 4 → skip_field mode max_groups s to n 5 ≡ Ok (to + 4))
    × (length d ≡ 8 → skip_field mode max_groups s to n 1 ≡ Ok (to + 8))
unfolding skip_value
fixed_skips mode s n to d rest h = (
  λ g. skip_value_lem mode max_groups s to n 5 refl refl ∙ fixed_reads s to d rest 4 (omega arith) g h,
  λ g. skip_value_lem mode max_groups s to n 1 refl refl ∙ fixed_reads s to d rest 8 (omega arith) g h,
)

four-held : (mode : Mode) (s : List ℕ) (n to : ℕ) (d rest : List ℕ) → length d ≡ 4 → drop to s ≡ d ++ rest
    → Held mode s n 5 to (four d) rest
unfolding read_value entry_of payload_of
four-held mode s n to d rest g h =
    past-held mode s n 5 to 4 d rest four (omega arith) g h (simp ((fixed_skips mode s n to d rest h).0 g)) refl

eight-held : (mode : Mode) (s : List ℕ) (n to : ℕ) (d rest : List ℕ) → length d ≡ 8 → drop to s ≡ d ++ rest
    → Held mode s n 1 to (eight d) rest
unfolding read_value entry_of payload_of
eight-held mode s n to d rest g h =
    past-held mode s n 1 to 8 d rest eight (omega arith) g h (simp ((fixed_skips mode s n to d rest h).1 g)) refl

-- a group
group-held : (s : List ℕ) (n to : ℕ) (v rest : List ℕ) (is : List Entry) → 1 ≤ n → n ≤ 536870911 → BodyIn 31 v is
    → drop to s ≡ (v ++ uvarint (n * 8 + 4)) ++ rest → Held Groups s n 3 to (group v) rest
unfolding read_value skip_field passed entry_of payload_of
group-held s n to v rest is low high g h =
    let z = uvarint (n * 8 + 4) in
    let e = to + length v + length z in
    let h1 : drop to s ≡ v ++ (z ++ rest) = h ∙ append_assoc v z rest in
    let k : e - length z - to ≡ length v = omega arith in
    record {
      f = record { field = n; wire_type = 3; tag_end = to; value = 0; start = to; next = e };
      read = simp (group-passes s to n rest low high g h1);
      tagged = refl;
      entry = ap (λ (y : List ℕ). record { field = n; payload = group y })
          (ap (λ (i : ℕ). take i (drop to s)) k ∙ take-front s to v (z ++ rest) h1);
      left = drop-front s (to + length v) z rest (drop-front s to v (z ++ rest) h1);
    }

value-held : {type : ℕ} {v : List ℕ} {p : Payload} (mode : Mode) (s : List ℕ) (n to : ℕ) (rest : List ℕ)
    → Value type v p → drop to s ≡ v ++ rest → Held mode s n type to p rest
value-held mode s n to rest (varint b) h = varint-held mode s n to _ rest b h
value-held mode s n to rest (i64 g) h = eight-held mode s n to _ rest g h
value-held mode s n to rest (len-prefix b) h = bytes-held mode s n to _ rest b h
value-held mode s n to rest (i32 g) h = four-held mode s n to _ rest g h

held : (mode : Mode) (s : List ℕ) (n to : ℕ) (rest : List ℕ) {l type : ℕ} {v : List ℕ} {p : Payload} → 1 ≤ n
    → n ≤ 536870911 → l ≡ levels_of mode → Holds l n type v p → drop to s ≡ v ++ rest → Held mode s n type to p rest
held mode s n to rest low high e (of_value_lem w) h = value-held mode s n to rest w h
held Plain s n to rest low high e (grouped g) h = absurd (omega arith)
held Groups s n to rest low high e (grouped {l = l} {v = v} {is = is} g) h =
    let i : l ≡ 31 = omega arith in
    group-held s n to v rest is low high (subst (λ (k : ℕ). BodyIn k v is) i g) h

pub holds-bits : {l n type : ℕ} {v : List ℕ} {p : Payload} → Holds l n type v p → type < 8
holds-bits (of_value_lem (varint b)) = omega arith
holds-bits (of_value_lem (i64 g)) = omega arith
holds-bits (of_value_lem (len-prefix b)) = omega arith
holds-bits (of_value_lem (i32 g)) = omega arith
holds-bits (grouped g) = omega arith

pub found : (mode : Mode) (s : List ℕ) (at n type : ℕ) (v rest : List ℕ) (p : Payload) → 1 ≤ n → n ≤ 536870911
    → Holds (levels_of mode) n type v p → drop at s ≡ uvarint (n * 8 + type) ++ (v ++ rest)
    → Found mode s at n type p rest
unfolding read_field
found mode s at n type v rest p l m w h =
    let t = tag-reads s at n type (v ++ rest) l m (holds-bits w) h in
    let r = held mode s n (at + length (uvarint (n * 8 + type))) rest l m refl w
    (drop-front s at (uvarint (n * 8 + type)) (v ++ rest) h) in
    record {
      f = r.f;
      read = r.read ∙ ap (of_tag mode s) (sym t);
      tagged = r.tagged;
      entry = r.entry;
      left = r.left;
    }

-- the walk that a body of the grammar has
pub record Walks (mode : Mode) (s : List ℕ) (at : ℕ) (es : List Entry) : Type 0 where
  pub fields : List Field
  pub walked : walk_at mode s at ≡ whole fields
  pub entries : entries_of s fields ≡ es

-- a field in front of a walk
completed : {es : List Entry} (mode : Mode) (s : List ℕ) (at n type : ℕ) (rest : List ℕ) (p : Payload)
    (t : Found mode s at n type p rest) → Walks mode s t.f.next es
    → Walks mode s at (record { field = n; payload = p } ∷ es)
completed mode s at n type rest p t k =
    record {
      fields = t.f ∷ k.fields;
      walked = walk_on mode s at (Ok (Some t.f)) t.read ∙ ap (λ (y : Fields). t.f then y) k.walked;
      entries = ap₂ (λ (x : Entry) (y : List Entry). x ∷ y) t.entry k.entries;
    }

complete : {l : ℕ} {b : List ℕ} {es : List Entry} (mode : Mode) (s : List ℕ) (at : ℕ) → l ≡ levels_of mode
    → BodyIn l b es → drop at s ≡ b → Walks mode s at es
complete mode s at q none h =
    let k : length s ≤ at = let e : length s - at ≡ 0 = sym (length-drop at s) ∙ ap length h in omega arith in
    record { fields = []; walked = walk_end mode s at k; entries = refl }
complete mode s at q (field {n = n} {type = type} {v = v} {rest = rest} {p = p} l m w r) h =
    let t = found mode s at n type v rest p l m (of_value_lem w) h in
    completed mode s at n type rest p t (complete mode s t.f.next q r t.left)
complete mode s at q (a_group {l = j} {n = n} {v = v} {rest = rest} l m g r) h =
    let t = found mode s at n 3 (v ++ uvarint (n * 8 + 4)) rest (group v) l m
    (subst (λ (k : ℕ). Holds k n 3 (v ++ uvarint (n * 8 + 4)) (group v)) q (grouped g)) h in
    completed mode s at n 3 rest (group v) t (complete mode s t.f.next q r t.left)

pub body_walks : (mode : Mode) (s : List ℕ) (es : List Entry) → Body mode s es → Walks mode s 0 es
body_walks mode s es g = complete mode s 0 refl g refl

-- a body is the grammar's exactly where its walk reaches the end, and the fields that the walk finds are the grammar's
pub exactly : (mode : Mode) (s : List ℕ) (es : List Entry) → Bytes s → Walks mode s 0 es ↔ Body mode s es
exactly mode s es b = (
  λ w. subst (Body mode s) w.entries
      (sound mode s w.fields 0 b w.walked),
  body_walks mode s es,
)

-- a body has one meaning
whole_same : (fs gs : List Field) → whole fs ≡ whole gs → fs ≡ gs
whole_same [] [] e = refl
whole_same [] (g ∷ gs) e = clash (cc)
whole_same (f ∷ fs) [] e = clash (cc)
whole_same (f ∷ fs) (g ∷ gs) e = let h : f ≡ g = cc in let t : whole fs ≡ whole gs = cc in
    ap₂ (λ (x : Field) (y : List Field). x ∷ y) h (whole_same fs gs t)

pub one_meaning : (mode : Mode) (s : List ℕ) (ds es : List Entry) → Body mode s ds → Body mode s es → ds ≡ es
one_meaning mode s ds es p q =
    let w = complete mode s 0 refl p refl in
    let v = complete mode s 0 refl q refl in
    sym w.entries ∙ ap (entries_of s) (whole_same w.fields v.fields (sym w.walked ∙ v.walked)) ∙ v.entries
