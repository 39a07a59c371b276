-- Between the modes: a message that the first mode does not refuse by 5 with wire type 3 or 4 has the same records in both,
-- or the same refusal at the same place, and only such a one; what the first mode accepts has the same fields in both. Of
-- one that it refuses for another reason, the second may find fields after a group.
use Rattle.std.specs.Prelude.{ℕ, zero, suc, ◌-◌, ◌≤◌, ◌<◌, ◌≡◌, refl, true, cond, List, ◌≢◌, ◌↔◌, length, eqb}
use Rattle.std.specs.Prelude.{Option, Some, None, Result, Ok, Err}
use Rattle.std.proofs.Common.{sym, ap, ap₂, subst, ◌∙◌, arith, eqb-true}
use Rattle.basis.specs.declared.Mode.{Mode}
use Rattle.basis.specs.declared.Mode.TheVariants.{Plain, Groups}
use Rattle.basis.specs.declared.Edition.{Edition}
use Rattle.basis.specs.Dialect.{spoken}
use Rattle.basis.specs.declared.Spot.{Spot}
use Rattle.basis.specs.Spot.{at, inside, or_else}
use Rattle.basis.specs.Cases.{either, clash, both}
use Rattle.basis.specs.Bytes.{Bytes as AreBytes}
use Rattle.basis.specs.Lists.{take-bytes, drop-bytes}
use Rattle.utf8.specs.Utf8.{is_utf8}
use Rattle.protobuf.specs.declared.Field.{Field}
use Rattle.protobuf.specs.declared.WireError.{WireError}
use Rattle.protobuf.specs.declared.WireError.TheVariants.{InvalidUtf8, TooLarge, TooManyRecords}
use Rattle.protobuf.specs.declared.Refusal.{Refusal as Placed}
use Rattle.protobuf.specs.Refusal.{spot_of, nowhere, placed_as, standing}
use Rattle.protobuf.specs.Told.{refusal_number}
use Rattle.protobuf.specs.RefusalLaws.{told-place, OfField, low, of-group, field-early}
use Rattle.protobuf.specs.Field.{read_field}
use Rattle.protobuf.specs.Laws.{field-stands}
use Rattle.protobuf.specs.Walk.{Fields, end, refused, ◌then◌, on_step, walk_at, fields_of, between, is_bytes, value_in}
use Rattle.protobuf.specs.WalkLaws.{along, walk_step_lem}
use Rattle.protobuf.specs.ModeLaws.{ByGroup, start as by-start, end as by_end, NoGroup, same-field, never-by-group, same-walk}
use Rattle.schema.specs.declared.Kind.{Kind}
use Rattle.schema.specs.declared.Kind.TheVariants as kind
use Rattle.schema.specs.declared.Form.{Form}
use Rattle.schema.specs.declared.Role.{Role}
use Rattle.schema.specs.declared.Role.TheVariants.{Skip, Number, Text, Bytes, Unsigned, Topic, MessageId, Sub}
use Rattle.schema.specs.Schema.{row_of, is_varint, role_of, rank, own_of}
use Rattle.schema.specs.SchemaLaws.{sub-rank}
use Rattle.schema.specs.Kinds.{by_rank}
use Rattle.schema.specs.Count.{plus, and_then, text_count, role_count, count_along, counted}
use Rattle.schema.specs.CountLaws.{count_along_lem, plus-fits, plus-refused, then-fits}
use Rattle.schema.specs.Spots.{text_spot, role_spot, spot_along, spot_in}
use Rattle.schema.specs.SpotsLaws.{spot_along_lem, role_clean}
use Rattle.schema.specs.Slots.{no_slots, slots_along, slots_of, has_along, has_field}
use Rattle.schema.specs.Accept.{body_records, checked, accept_of}
use Rattle.schema.specs.AcceptLaws.{Gate, large, bad, many, passes, gate, records-taken, records-many, records-large, records_wrong, is-taken, taken_fine}

abbrev pub RoleAt : Kind → Field → Role
RoleAt k f = role_of k f.field f.wire_type

-- ---- what the first mode accepts
along-passes : (k : Kind) (s : List ℕ) (w : Fields) (n : ℕ) → count_along (counted Plain) k s w ≡ Ok n
    → NoGroup w
along-passes k s end n h = tt
along-passes k s (refused why) n h = clash (cc)
along-passes k s (f then w) n h =
    let t = then-fits (role_count (counted Plain) s f (RoleAt k f)) (count_along (counted Plain) k s w) n h in
    along-passes k s w t.1 t.3

-- the same fields
pub same-fields : (k : Kind) (s : List ℕ) (n : ℕ) → counted Plain k s ≡ Ok n
    → fields_of Groups s ≡ fields_of Plain s
same-fields k s n h = same-walk s 0 (along-passes k s (fields_of Plain s) n (sym (count_along_lem Plain k s) ∙ h))

-- the same singular fields
pub same_slots : (k : Kind) (s : List ℕ) (n : ℕ) → counted Plain k s ≡ Ok n
    → slots_of Groups k s ≡ slots_of Plain k s
unfolding slots_of
same_slots k s n h = ap (slots_along k no_slots) (same-fields k s n h)

-- a field is there in both or in neither
pub same-has : (k : Kind) (s : List ℕ) (n m : ℕ) → counted Plain k s ≡ Ok n
    → has_field Groups m s ≡ has_field Plain m s
unfolding has_field
same-has k s n m h = ap (has_along m) (same-fields k s n h)

-- ---- a submessage of a message that is accepted is accepted
-- how the first mode counts a field of a message
abbrev pub count_at : Kind → List ℕ → Field → Result ℕ WireError
count_at k s f = role_count (counted Plain) s f (RoleAt k f)

sub_role : (k j : Kind) (form : Form) (m : ℕ) (f : Field) → row_of k m ≡ Sub j form → is_bytes m f ≡ true
    → role_of k f.field f.wire_type ≡ Sub j form
unfolding role_of
sub_role k j form m f h t =
    let b = both (eqb f.wire_type 2) (eqb f.field m) t in
    rw (eqb-true f.wire_type 2 b.0, eqb-true f.field m b.1)
    (ap (λ (r : Role). cond (is_varint r) Skip r) h)

pub sub-accepted : (k j : Kind) (form : Form) (m : ℕ) (s : List ℕ) (f : Field) (x : ℕ) → row_of k m ≡ Sub j form
    → is_bytes m f ≡ true → count_at k s f ≡ Ok x → (y : ℕ) × (counted Plain j (value_in s f) ≡ Ok y)
sub-accepted k j form m s f x h t q =
    let e = subst (λ (r : Role). role_count (counted Plain) s f r ≡ Ok x) (sub_role k j form m f h t) q in
    let p = plus-fits (own_of j) x (counted Plain j (value_in s f)) e in
    (p.0, p.1)

-- ---- what the first mode does not refuse by 5 with type 3 or 4
-- a message
abbrev pub NoGroupIn : Kind → List ℕ → Type 0
NoGroupIn k s = (why : WireError) → counted Plain k s ≡ Err why → ByGroup why → ⊥

-- a body
abbrev pub NoGroupBody : Edition → List ℕ → Type 0
NoGroupBody e s = (r : Placed) → body_records (spoken Plain e) s ≡ Err r → ByGroup r.why → ⊥

-- ---- the walks of a message in the two modes, up to a field that is refused
-- a count that is no such refusal
abbrev NoGroupCount : Result ℕ WireError → Type 0
NoGroupCount c = (why : WireError) → c ≡ Err why → ByGroup why → ⊥

data Alike (k : Kind) (s : List ℕ) : Fields → Fields → Type 0 where
  ends : Alike k s end end
  stops : {why : WireError} → Alike k s (refused why) (refused why)
  refuses : {f : Field} {v w : Fields} {why : WireError}
      → role_count (counted Plain) s f (RoleAt k f) ≡ Err why → (ByGroup why → ⊥)
      → Alike k s (f then v) (f then w)
  goes : {f : Field} {v w : Fields} {m : ℕ} → role_count (counted Plain) s f (RoleAt k f) ≡ Ok m
      → Alike k s v w → Alike k s (f then v) (f then w)

module _ (k : Kind) (s : List ℕ) where
  -- the rest of a walk after a field
  alike-field : (f : Field) (c : Result ℕ WireError) → role_count (counted Plain) s f (RoleAt k f) ≡ c
      → NoGroupCount (and_then c (count_along (counted Plain) k s (walk_at Plain s f.next)))
      → (NoGroupCount (count_along (counted Plain) k s (walk_at Plain s f.next))
      → Alike k s (walk_at Plain s f.next) (walk_at Groups s f.next))
      → Alike k s (f then walk_at Plain s f.next) (f then walk_at Groups s f.next)
  alike-field f (Err why) q h ih = refuses q (h why refl)
  alike-field f (Ok m) q h ih = goes q (ih (λ why e. h why (ap (plus m) e)))

  alike-step : (at : ℕ) (r : Result (Option Field) WireError) → r ≡ read_field Plain s at
      → NoGroupCount (count_along (counted Plain) k s (on_step (walk_at Plain s) r))
      → ((f : Field) → Ok (Some f) ≡ r → NoGroupCount (count_along (counted Plain) k s (walk_at Plain s f.next))
      → Alike k s (walk_at Plain s f.next) (walk_at Groups s f.next))
      → Alike k s (on_step (walk_at Plain s) r) (on_step (walk_at Groups s) (read_field Groups s at))
  alike-step at (Ok None) q h ih =
      subst (λ (x : Result (Option Field) WireError). Alike k s end (on_step (walk_at Groups s) x))
      (q ∙ sym (same-field s at (λ why e. clash (cc)))) ends
  alike-step at (Err w) q h ih =
      subst (λ (x : Result (Option Field) WireError). Alike k s (refused w) (on_step (walk_at Groups s) x))
      (q ∙ sym (same-field s at (λ why e y. let i : why ≡ w = cc in h w refl (subst ByGroup i y)))) stops
  alike-step at (Ok (Some f)) q h ih =
      subst
      (λ (x : Result (Option Field) WireError). Alike k s (f then walk_at Plain s f.next) (on_step (walk_at Groups s) x))
      (q ∙ sym (same-field s at (λ why e. clash (cc))))
      (alike-field f (role_count (counted Plain) s f (RoleAt k f)) refl h (ih f refl))

  alike_from : (n at : ℕ) → length s - at < n → NoGroupCount (count_along (counted Plain) k s (walk_at Plain s at))
      → Alike k s (walk_at Plain s at) (walk_at Groups s at)
  alike_from zero at l h = absurd (omega arith)
  alike_from (suc n) at l h =
      subst (λ (v : Fields). Alike k s v (walk_at Groups s at)) (sym (walk_step_lem Plain s at))
      (subst (Alike k s (on_step (walk_at Plain s) (read_field Plain s at))) (sym (walk_step_lem Groups s at))
      (alike-step at (read_field Plain s at) refl
      (subst (λ (v : Fields). NoGroupCount (count_along (counted Plain) k s v)) (walk_step_lem Plain s at) h)
      (λ f q. let m = field-stands Plain s at f q in alike_from n f.next (omega arith))))

  alike : NoGroupIn k s → Alike k s (fields_of Plain s) (fields_of Groups s)
  alike h = alike_from (suc (length s)) 0 (omega arith) (λ why e. h why (count_along_lem Plain k s ∙ e))

-- ---- counting
same_role : (s : List ℕ) (f : Field) (r : Role) → NoGroupCount (role_count (counted Plain) s f r)
    → ((j : Kind) (form : Form) (p : List ℕ) → r ≡ Sub j form → NoGroupIn j p → counted Groups j p ≡ counted Plain j p)
    → role_count (counted Groups) s f r ≡ role_count (counted Plain) s f r
same_role s f Skip h ih = refl
same_role s f (Number figure) h ih = refl
same_role s f (Text slot) h ih = refl
same_role s f (Bytes slot) h ih = refl
same_role s f (Unsigned slot) h ih = refl
same_role s f Topic h ih = refl
same_role s f MessageId h ih = refl
same_role s f (Sub j form) h ih =
    ap (plus (own_of j)) (ih j form (value_in s f) refl (λ why e. h why (ap (plus (own_of j)) e)))

same-along : (k : Kind) (s : List ℕ) {v w : Fields} → Alike k s v w
    → ((j : Kind) (p : List ℕ) → rank j < rank k → NoGroupIn j p → counted Groups j p ≡ counted Plain j p)
    → count_along (counted Groups) k s w ≡ count_along (counted Plain) k s v
same-along k s ends ih = refl
same-along k s stops ih = refl
same-along k s (refuses {f} {v} {w} {why} q g) ih =
    let e = same_role s f (RoleAt k f) (λ x y z. let i : x ≡ why = cc in g (subst ByGroup i z))
    (λ j form p u. ih j p (sub-rank k j form f.field f.wire_type u)) in
    ap (λ (c : Result ℕ WireError). and_then c (count_along (counted Groups) k s w)) (e ∙ q)
    ∙ ap (λ (c : Result ℕ WireError). and_then c (count_along (counted Plain) k s v)) (sym q)
same-along k s (goes {f} {v} {w} {m} q a) ih =
    ap₂ and_then
    (same_role s f (RoleAt k f) (λ x y z. clash (cc))
    (λ j form p u. ih j p (sub-rank k j form f.field f.wire_type u)))
    (same-along k s a ih)

-- such a message has the same number of records in both modes, or the same refusal
pub same-counted : (k : Kind) (s : List ℕ) → NoGroupIn k s → counted Groups k s ≡ counted Plain k s
same-counted =
    by_rank (λ k. (s : List ℕ) → NoGroupIn k s → counted Groups k s ≡ counted Plain k s)
    (λ k ih s h. count_along_lem Groups k s ∙ same-along k s (alike k s h) (λ j p l. ih j l p)
    ∙ sym (count_along_lem Plain k s))

-- ---- the place of a refusal
-- in the first mode each refusal has one
plain-low : {mode : Mode} {n : ℕ} → OfField mode n → mode ≡ Plain → n ≤ 6
plain-low (low l) e = l
plain-low (of-group l u) e = clash (cc)

some-spot : (why : WireError) → refusal_number why ≤ 6 → spot_of why ≢ None
some-spot why h e =
    let p : placed_as (spot_of why) (Some (at 0)) ≡ Some (at 0) = told-place why (Some (at 0)) (omega arith) in
    let q : None ≡ Some (at 0) = ap (λ (x : Option Spot). placed_as x (Some (at 0))) (sym e) ∙ p in
    clash (cc)

inside-some : (n start : ℕ) (x : Option Spot) → x ≢ None → inside n start x ≢ None
inside-some n start None h e = h refl
inside-some n start (Some spot) h e = clash (cc)

first_some : (x y : Option Spot) → x ≢ None → or_else x y ≢ None
first_some None y h e = h refl
first_some (Some spot) y h e = clash (cc)

text-some : (s : List ℕ) (f : Field) (n : ℕ) (why : WireError) → text_count s f n ≡ Err why
    → text_spot s f ≢ None
unfolding text_count text_spot
text-some s f n why h e =
    either (is_utf8 (between s f.start f.next)) (λ t. clash (let z = simp t at h in cc))
    (λ t. clash (let z = simp t at e in cc))

role_some : (s : List ℕ) (f : Field) (r : Role) (why : WireError) → role_count (counted Plain) s f r ≡ Err why
    → ((j : Kind) (form : Form) (p : List ℕ) → r ≡ Sub j form → counted Plain j p ≡ Err why
    → spot_in Plain j p ≢ None) → role_spot (spot_in Plain) s f r ≢ None
role_some s f Skip why h ih = clash (cc)
role_some s f (Number figure) why h ih = clash (cc)
role_some s f (Text slot) why h ih = text-some s f 0 why h
role_some s f (Bytes slot) why h ih = clash (cc)
role_some s f (Unsigned slot) why h ih = clash (cc)
role_some s f Topic why h ih = text-some s f 1 why h
role_some s f MessageId why h ih = clash (cc)
role_some s f (Sub j form) why h ih =
    inside-some f.field f.start (spot_in Plain j (value_in s f))
    (ih j form (value_in s f) refl (plus-refused (own_of j) (counted Plain j (value_in s f)) why h))

field-some : (k : Kind) (s : List ℕ) (f : Field) (w : Fields) (why : WireError) (c : Result ℕ WireError)
    → role_count (counted Plain) s f (RoleAt k f) ≡ c → and_then c (count_along (counted Plain) k s w) ≡ Err why
    → (count_along (counted Plain) k s w ≡ Err why → spot_along (spot_in Plain) k s w ≢ None)
    → ((j : Kind) (p : List ℕ) → rank j < rank k → counted Plain j p ≡ Err why → spot_in Plain j p ≢ None)
    → or_else (role_spot (spot_in Plain) s f (RoleAt k f)) (spot_along (spot_in Plain) k s w) ≢ None
field-some k s f w why (Ok m) q h rest ih e =
    rest (plus-refused m (count_along (counted Plain) k s w) why h)
    (ap (λ (x : Option Spot). or_else x (spot_along (spot_in Plain) k s w))
    (sym (role_clean Plain s f (RoleAt k f) m q)) ∙ e)
field-some k s f w why (Err v) q h rest ih e =
    let z : v ≡ why = cc in
    first_some (role_spot (spot_in Plain) s f (RoleAt k f)) (spot_along (spot_in Plain) k s w)
    (role_some s f (RoleAt k f) why (q ∙ ap Err z)
    (λ j form p u. ih j p (sub-rank k j form f.field f.wire_type u))) e

has-spot : (k : Kind) (s : List ℕ) (why : WireError) → counted Plain k s ≡ Err why
    → spot_in Plain k s ≢ None
has-spot =
    by_rank (λ k. (s : List ℕ) (why : WireError) → counted Plain k s ≡ Err why → spot_in Plain k s ≢ None)
    (λ k ih s why h e.
    along Plain s (λ (at : ℕ) (w : Fields). count_along (counted Plain) k s w ≡ Err why
    → spot_along (spot_in Plain) k s w ≢ None)
    (λ at g. clash (cc))
    (λ at v q g. some-spot v (plain-low (field-early Plain s at v q) refl))
    (λ at f st q rest g.
    field-some k s f (walk_at Plain s f.next) why (role_count (counted Plain) s f (RoleAt k f)) refl g rest
    (λ j p l. ih j l p why))
    0 (sym (count_along_lem Plain k s) ∙ h) (sym (spot_along_lem Plain k s) ∙ e))

first_alone : (x y z : Option Spot) → x ≢ None → or_else x y ≡ or_else x z
first_alone None y z h = absurd (h refl)
first_alone (Some spot) y z h = refl

role_spot_lem : (s : List ℕ) (f : Field) (r : Role) → NoGroupCount (role_count (counted Plain) s f r)
    → ((j : Kind) (form : Form) (p : List ℕ) → r ≡ Sub j form → NoGroupIn j p → spot_in Groups j p ≡ spot_in Plain j p)
    → role_spot (spot_in Groups) s f r ≡ role_spot (spot_in Plain) s f r
role_spot_lem s f Skip h ih = refl
role_spot_lem s f (Number figure) h ih = refl
role_spot_lem s f (Text slot) h ih = refl
role_spot_lem s f (Bytes slot) h ih = refl
role_spot_lem s f (Unsigned slot) h ih = refl
role_spot_lem s f Topic h ih = refl
role_spot_lem s f MessageId h ih = refl
role_spot_lem s f (Sub j form) h ih =
    ap (inside f.field f.start) (ih j form (value_in s f) refl (λ why e. h why (ap (plus (own_of j)) e)))

along-spot : (k : Kind) (s : List ℕ) {v w : Fields} → Alike k s v w
    → ((j : Kind) (p : List ℕ) → rank j < rank k → NoGroupIn j p → spot_in Groups j p ≡ spot_in Plain j p)
    → spot_along (spot_in Groups) k s w ≡ spot_along (spot_in Plain) k s v
along-spot k s ends ih = refl
along-spot k s stops ih = refl
along-spot k s (refuses {f} {v} {w} {why} q g) ih =
    let e = role_spot_lem s f (RoleAt k f) (λ x y z. let i : x ≡ why = cc in g (subst ByGroup i z))
    (λ j form p u. ih j p (sub-rank k j form f.field f.wire_type u)) in
    ap (λ (x : Option Spot). or_else x (spot_along (spot_in Groups) k s w)) e
    ∙ first_alone (role_spot (spot_in Plain) s f (RoleAt k f)) (spot_along (spot_in Groups) k s w)
    (spot_along (spot_in Plain) k s v)
    (role_some s f (RoleAt k f) why q (λ j form p u h. has-spot j p why h))
along-spot k s (goes {f} {v} {w} {m} q a) ih =
    ap₂ or_else
    (role_spot_lem s f (RoleAt k f) (λ x y z. clash (cc))
    (λ j form p u. ih j p (sub-rank k j form f.field f.wire_type u)))
    (along-spot k s a ih)

-- such a message is refused at the same place
pub same_spot : (k : Kind) (s : List ℕ) → NoGroupIn k s → spot_in Groups k s ≡ spot_in Plain k s
same_spot =
    by_rank (λ k. (s : List ℕ) → NoGroupIn k s → spot_in Groups k s ≡ spot_in Plain k s)
    (λ k ih s h. spot_along_lem Groups k s ∙ along-spot k s (alike k s h) (λ j p l. ih j l p) ∙ sym (spot_along_lem Plain k s))

-- ---- the test of a body
of-gate : (e : Edition) (s : List ℕ) (r : Result ℕ Placed) → Gate (spoken Plain e) s r
    → ((why : Placed) → r ≡ Err why → ByGroup why.why → ⊥) → body_records (spoken Groups e) s ≡ r
of-gate e s _ (large h) g = records-large (spoken Groups e) s h
of-gate e s _ (bad h why q) g =
    let p : NoGroupIn (kind.Rpc e) s = λ w u. let i : w ≡ why = cc in
    λ y. g (standing (spot_in Plain (kind.Rpc e) s) why) refl (subst ByGroup i y) in
    records_wrong (spoken Groups e) s why h (same-counted (kind.Rpc e) s p ∙ q)
    ∙ ap (λ (x : Option Spot). Err (standing x why)) (same_spot (kind.Rpc e) s p)
of-gate e s _ (many h n q l) g =
    records-many (spoken Groups e) s n h (same-counted (kind.Rpc e) s (λ w u. clash (cc)) ∙ q) l
of-gate e s _ (passes h n q l) g =
    records-taken (spoken Groups e) s n h (same-counted (kind.Rpc e) s (λ w u. clash (cc)) ∙ q) l

-- such a body has the same number of records in both modes, or the same refusal at the same place
pub same-records : (e : Edition) (s : List ℕ) → NoGroupBody e s
    → body_records (spoken Groups e) s ≡ body_records (spoken Plain e) s
same-records e s g = of-gate e s (body_records (spoken Plain e) s) (gate (spoken Plain e) s) g

-- so it is accepted by both or by neither
pub same_accept : (e : Edition) (s : List ℕ) → NoGroupBody e s
    → accept_of (spoken Groups e) s ≡ accept_of (spoken Plain e) s
unfolding accept_of
same_accept e s g = ap checked (same-records e s g)

-- what the first mode accepts the second accepts
pub plain_accept : (e : Edition) (s : List ℕ) → accept_of (spoken Plain e) s ≡ Ok tt
    → accept_of (spoken Groups e) s ≡ Ok tt
plain_accept e s h =
    let t = is-taken (spoken Plain e) s h in
    taken_fine (spoken Groups e) s (record {
      records = t.records;
      counts = same-counted (kind.Rpc e) s (λ w u. clash (let c = t.counts in cc)) ∙ t.counts;
      few = t.few;
      small = t.small;
    })

-- ---- the second mode never refuses by 5 with type 3 or 4
by_five : {why : WireError} → ByGroup why → refusal_number why ≡ 5
by_five by-start = refl
by_five by_end = refl

text-never : (s : List ℕ) (f : Field) (n : ℕ) (why : WireError) → text_count s f n ≡ Err why → ByGroup why → ⊥
unfolding text_count
text-never s f n why h g =
    either (is_utf8 (between s f.start f.next)) (λ t. clash (let e = simp t at h in cc))
    (λ t. let e = simp t at h in
    let w : why ≡ InvalidUtf8 f.tag_end = cc in
    omega (arith, by_five (subst ByGroup w g)))

role_never : (s : List ℕ) (f : Field) (r : Role) (why : WireError) → AreBytes s
    → role_count (counted Groups) s f r ≡ Err why
    → ((j : Kind) (form : Form) (p : List ℕ) → r ≡ Sub j form → AreBytes p → counted Groups j p ≡ Err why
    → ByGroup why → ⊥) → ByGroup why → ⊥
role_never s f Skip why b h ih = clash (cc)
role_never s f (Number figure) why b h ih = clash (cc)
role_never s f (Text slot) why b h ih = text-never s f 0 why h
role_never s f (Bytes slot) why b h ih = clash (cc)
role_never s f (Unsigned slot) why b h ih = clash (cc)
role_never s f Topic why b h ih = text-never s f 1 why h
role_never s f MessageId why b h ih = clash (cc)
role_never s f (Sub j form) why b h ih =
    ih j form (value_in s f) refl (take-bytes (f.next - f.start) _ (drop-bytes f.start s b))
    (plus-refused (own_of j) (counted Groups j (value_in s f)) why h)

field-never : (k : Kind) (s : List ℕ) (f : Field) (w : Fields) (why : WireError) (c : Result ℕ WireError) → AreBytes s
    → role_count (counted Groups) s f (RoleAt k f) ≡ c
    → and_then c (count_along (counted Groups) k s w) ≡ Err why
    → (count_along (counted Groups) k s w ≡ Err why → ByGroup why → ⊥)
    → ((j : Kind) (p : List ℕ) → rank j < rank k → AreBytes p → counted Groups j p ≡ Err why
    → ByGroup why → ⊥) → ByGroup why → ⊥
field-never k s f w why (Ok m) b q h rest ih =
    rest (plus-refused m (count_along (counted Groups) k s w) why h)
field-never k s f w why (Err v) b q h rest ih =
    let z : v ≡ why = cc in
    role_never s f (RoleAt k f) why b (q ∙ ap Err z)
    (λ j form p u. ih j p (sub-rank k j form f.field f.wire_type u))

-- a message
pub never_five : (k : Kind) (s : List ℕ) (why : WireError) → AreBytes s → counted Groups k s ≡ Err why
    → ByGroup why → ⊥
never_five =
    by_rank (λ k. (s : List ℕ) (why : WireError) → AreBytes s → counted Groups k s ≡ Err why → ByGroup why
    → ⊥)
    (λ k ih s why b h.
    along Groups s (λ (at : ℕ) (w : Fields). count_along (counted Groups) k s w ≡ Err why → ByGroup why → ⊥)
    (λ at g. clash (cc))
    (λ at v q g. let z : v ≡ why = cc in never-by-group s at why b (ap Err (sym z) ∙ q))
    (λ at f st q rest g.
    field-never k s f (walk_at Groups s f.next) why (role_count (counted Groups) s f (RoleAt k f)) b refl g rest
    (λ j p l c. ih j l p why c))
    0 (sym (count_along_lem Groups k s) ∙ h))

gate-never : (e : Edition) (s : List ℕ) (r : Result ℕ Placed) (why : Placed) → AreBytes s → Gate (spoken Groups e) s r
    → r ≡ Err why → ByGroup why.why → ⊥
gate-never e s _ why b (large h) q g =
    let i : nowhere (TooLarge (length s)) ≡ why = cc in
    omega (arith, by_five (subst (λ (x : Placed). ByGroup x.why) (sym i) g))
gate-never e s _ why b (bad h w p) q g =
    let i : standing (spot_in Groups (kind.Rpc e) s) w ≡ why = cc in
    never_five (kind.Rpc e) s w b p (subst (λ (x : Placed). ByGroup x.why) (sym i) g)
gate-never e s _ why b (many h n p l) q g =
    let i : nowhere (TooManyRecords n) ≡ why = cc in
    omega (arith, by_five (subst (λ (x : Placed). ByGroup x.why) (sym i) g))
gate-never e s _ why b (passes h n p l) q g = clash (cc)

-- a body
pub body-never_five : (e : Edition) (s : List ℕ) (r : Placed) → AreBytes s
    → body_records (spoken Groups e) s ≡ Err r → ByGroup r.why → ⊥
body-never_five e s r b h = gate-never e s (body_records (spoken Groups e) s) r b (gate (spoken Groups e) s) h

-- so the modes differ exactly where the first refuses a body by 5 with type 3 or 4
pub same-exactly : (e : Edition) (s : List ℕ) → AreBytes s
    → (body_records (spoken Groups e) s ≡ body_records (spoken Plain e) s) ↔ NoGroupBody e s
same-exactly e s b = (λ h r q. body-never_five e s r b (h ∙ q), same-records e s)
