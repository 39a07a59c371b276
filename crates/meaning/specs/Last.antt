-- The slots of a message hold the last of each singular field.
use Rattle.std.specs.Prelude.{Option, Result, Ok, Err, Some, None, ℕ, ◌+◌, ◌-◌, ◌≤◌, ◌≡◌, refl, Bool, false, cond, List, [], ◌∷◌, length, take, drop, eqb}
use Rattle.std.proofs.Common.{sym, ap, subst, ◌∙◌, arith, length-drop, drop-drop, take-take, length-take-le, eqb-true}
use Rattle.basis.specs.declared.Mode.{Mode}
use Rattle.basis.specs.Cases.{either, clash}
use Rattle.basis.specs.Lists.{drop-take}
use Rattle.protobuf.specs.declared.Field.{Field}
use Rattle.protobuf.specs.Field.{read_field}
use Rattle.protobuf.specs.Laws.{field-stands}
use Rattle.protobuf.specs.Walk.{on_step, walk_at, whole, between, entries_of}
use Rattle.protobuf.specs.WalkLaws.{walk_step_lem}
use Rattle.schema.specs.declared.Kind.{Kind}
use Rattle.schema.specs.declared.Place.{Place}
use Rattle.schema.specs.declared.Number.{Number}
use Rattle.schema.specs.declared.Number.TheVariants as number
use Rattle.schema.specs.declared.Slots.{Slots}
use Rattle.schema.specs.declared.Role.{Role}
use Rattle.schema.specs.declared.Role.TheVariants.{Skip, Number as NumberRole, Text, Bytes, Unsigned, Topic, MessageId}
use Rattle.schema.specs.declared.Role.TheVariants.{Sub}
use Rattle.protobuf.specs.declared.WireError.{WireError}
use Rattle.schema.specs.Schema.{is_varint, row_of, len_role, role_of}
use Rattle.schema.specs.Count.{FieldWithin}
use Rattle.schema.specs.Slots.{set_number, place_of, role_slots, with_field, slots_along}
use Rattle.rpc.specs.Grammar.{numbers_in, bytes_in, or_else, last, Each, none_left, ◌and◌}
use Rattle.meaning.specs.ReadBack.{bytes_at, number_at}
use Rattle.protobuf.specs.Walk.{is_bytes, is_number, value_in}
use Rattle.meaning.specs.Entries.{put_bytes_lem, put_number_lem}

-- ---- a part of the body, and the fields inside it
-- p stands in b from base on
pub record Part (b : List ℕ) (base : ℕ) (p : List ℕ) : Type 0 where
  pub here : p ≡ between b base (base + length p)
  pub fits : base + length p ≤ length b

inside-step : (mode : Mode) (p : List ℕ) (at : ℕ) (fs : List Field) (r : Result (Option Field) WireError) → r ≡ read_field mode p at
    → on_step (walk_at mode p) r ≡ whole fs
    → ((f : Field) (gs : List Field) → fs ≡ f ∷ gs → walk_at mode p f.next ≡ whole gs → Each (FieldWithin p) gs)
    → Each (FieldWithin p) fs
inside-step mode p at [] r q h ih = none_left
inside-step mode p at (g ∷ gs) (Ok None) q h ih = clash (cc)
inside-step mode p at (g ∷ gs) (Err why) q h ih = clash (cc)
inside-step mode p at (g ∷ gs) (Ok (Some f)) q h ih =
    let eg : f ≡ g = cc in let ew : walk_at mode p f.next ≡ whole gs = cc in
    let m = field-stands mode p at f q in
    subst (FieldWithin p) eg (record { order = m.ends; fits = m.within }) and ih f gs
    (ap (λ (x : Field). x ∷ gs) (sym eg)) ew

inside-from : (mode : Mode) (p : List ℕ) (fs : List Field) (at : ℕ) → walk_at mode p at ≡ whole fs
    → Each (FieldWithin p) fs
inside-from mode p [] at h = none_left
inside-from mode p (g ∷ hs) at h =
    inside-step mode p at (g ∷ hs) (read_field mode p at) refl (sym (walk_step_lem mode p at) ∙ h)
    (λ f gs e w. let eh : hs ≡ gs = cc in subst (Each (FieldWithin p)) eh
    (inside-from mode p hs f.next (w ∙ ap whole (sym eh))))

pub walk_inside : (mode : Mode) (p : List ℕ) (fs : List Field) → walk_at mode p 0 ≡ whole fs → Each (FieldWithin p) fs
walk_inside mode p fs h = inside-from mode p fs 0 h

-- the value of a field of a part, in the whole body
pub part-value : (b : List ℕ) (base : ℕ) (p : List ℕ) (a e : ℕ) → Part b base p → a ≤ e → e ≤ length p
    → between b (base + a) (base + e) ≡ between p a e
part-value b base p a e q o f =
    let n = length p in
    let x : base + n - base ≡ n = omega arith in
    let h : p ≡ take n (drop base b) = q.here ∙ ap (λ (k : ℕ). take k (drop base b)) x in
    let y : base + e - (base + a) ≡ e - a = omega arith in
    let d : drop a p ≡ take (n - a) (drop (base + a) b) = ap (drop a) h ∙ drop-take n a (drop base b)
    ∙ ap (take (n - a)) (drop-drop a base b) in
    ap (λ (k : ℕ). take k (drop (base + a) b)) y
    ∙ sym (ap (take (e - a)) d ∙ take-take (e - a) (n - a) (drop (base + a) b) (omega arith))

-- a part of a part
pub part-part : (b : List ℕ) (base : ℕ) (p : List ℕ) (f : Field) → Part b base p → FieldWithin p f
    → Part b (base + f.start) (value_in p f)
part-part b base p f q i =
    let l : length (value_in p f) ≡ f.next - f.start =
    length-take-le (f.next - f.start) (drop f.start p) (rw (length-drop f.start p) (omega arith)) in
    let e : base + f.start + length (value_in p f) ≡ base + f.next = omega arith in
    record {
      here = sym (part-value b base p f.start f.next q i.order i.fits)
          ∙ ap (between b (base + f.start)) (sym e);
      fits = omega (arith, q.fits);
    }

-- ---- the last of a list, or what was before
abbrev pub or_last : {A : Type 0} → Option A → Option A → Option A
or_last None d = d
or_last (Some x) d = Some x

or_put : {A : Type 0} (o d : Option A) (x : A) → or_last (or_else o x) d ≡ or_last o (Some x)
or_put None d x = refl
or_put (Some y) d x = refl

pub or-none : {A : Type 0} (o : Option A) → or_last o None ≡ o
or-none None = refl
or-none (Some x) = refl

-- a slot g of kind k is fed by the length-delimited fields m, and by no other
abbrev pub Feeds : Kind → (Slots → Place) → ℕ → Type 0
Feeds k g m = (t : Slots) (f : Field) → g (with_field k t f) ≡ cond (is_bytes m f) (place_of f) (g t)

along-last : (b : List ℕ) (base : ℕ) (p : List ℕ) (k : Kind) (g : Slots → Place) (m : ℕ) → Part b base p → Feeds k g m
    → (fs : List Field) (t : Slots) → Each (FieldWithin p) fs → bytes_at b base (g (slots_along k t (whole fs))) ≡ or_last
    (last (bytes_in m (entries_of p fs))) (bytes_at b base (g t))
along-last b base p k g m q feed [] t none_left = refl
along-last b base p k g m q feed (f ∷ fs) t (i and is) =
    let ih = along-last b base p k g m q feed fs (with_field k t f) is in
    let ds = bytes_in m (entries_of p fs) in
    let pb = put_bytes_lem p m f ds in
    let fd = feed t f in
    either (is_bytes m f)
    (λ x. let fx : g (with_field k t f) ≡ place_of f = fd ∙ ap (λ (z : Bool). cond z (place_of f) (g t)) x in
    let px = pb ∙ ap (λ (z : Bool). cond z (value_in p f ∷ ds) ds) x in
    let v : bytes_at b base (place_of f) ≡ Some (value_in p f) =
    ap Some (part-value b base p f.start f.next q i.order i.fits) in
    ih ∙ ap (or_last (last ds)) (ap (bytes_at b base) fx ∙ v)
    ∙ sym (ap (λ (l : List (List ℕ)). or_last (last l) (bytes_at b base (g t))) px
    ∙ or_put (last ds) (bytes_at b base (g t)) (value_in p f)))
    (λ x. let fx : g (with_field k t f) ≡ g t = fd ∙ ap (λ (z : Bool). cond z (place_of f) (g t)) x in
    let px = pb ∙ ap (λ (z : Bool). cond z (value_in p f ∷ ds) ds) x in
    ih ∙ ap (λ (y : Place). or_last (last ds) (bytes_at b base y)) fx
    ∙ sym (ap (λ (l : List (List ℕ)). or_last (last l) (bytes_at b base (g t))) px))

pub slot_last : (b : List ℕ) (base : ℕ) (p : List ℕ) (k : Kind) (g : Slots → Place) (m : ℕ) → Part b base p
    → Feeds k g m → (fs : List Field) (t : Slots) → Each (FieldWithin p) fs → bytes_at b base (g t) ≡ None
    → bytes_at b base (g (slots_along k t (whole fs))) ≡ last (bytes_in m (entries_of p fs))
slot_last b base p k g m q feed fs t i z = along-last b base p k g m q feed fs t i
    ∙ ap (or_last (last (bytes_in m (entries_of p fs)))) z ∙ or-none (last (bytes_in m (entries_of p fs)))

-- the same of the number
abbrev pub FeedsNumber : Kind → ℕ → Type 0
FeedsNumber k m = (t : Slots) (f : Field) → (with_field k t f).number ≡ cond (is_number m f) (number.Present f.value)
    t.number

along-number : (p : List ℕ) (k : Kind) (m : ℕ) → FeedsNumber k m → (fs : List Field) (t : Slots)
    → number_at (slots_along k t (whole fs)).number ≡ or_last (last (numbers_in m (entries_of p fs))) (number_at t.number)
along-number p k m feed [] t = refl
along-number p k m feed (f ∷ fs) t =
    let ih = along-number p k m feed fs (with_field k t f) in
    let vs = numbers_in m (entries_of p fs) in
    let pb = put_number_lem p m f vs in
    let fd = feed t f in
    either (is_number m f)
    (λ x. let fx : (with_field k t f).number ≡ number.Present f.value = fd
    ∙ ap (λ (z : Bool). cond z (number.Present f.value) t.number) x in
    let px = pb ∙ ap (λ (z : Bool). cond z (f.value ∷ vs) vs) x in
    ih ∙ ap (λ (y : Number). or_last (last vs) (number_at y)) fx
    ∙ sym (ap (λ (l : List ℕ). or_last (last l) (number_at t.number)) px
    ∙ or_put (last vs) (number_at t.number) f.value))
    (λ x. let fx : (with_field k t f).number ≡ t.number = fd
    ∙ ap (λ (z : Bool). cond z (number.Present f.value) t.number) x in
    let px = pb ∙ ap (λ (z : Bool). cond z (f.value ∷ vs) vs) x in
    ih ∙ ap (λ (y : Number). or_last (last vs) (number_at y)) fx
    ∙ sym (ap (λ (l : List ℕ). or_last (last l) (number_at t.number)) px))

pub number-last : (p : List ℕ) (k : Kind) (m : ℕ) → FeedsNumber k m → (fs : List Field) (t : Slots)
    → number_at t.number ≡ None → number_at (slots_along k t (whole fs)).number ≡ last (numbers_in m (entries_of p fs))
number-last p k m feed fs t z = along-number p k m feed fs t ∙ ap (or_last (last (numbers_in m (entries_of p fs)))) z
    ∙ or-none (last (numbers_in m (entries_of p fs)))

-- ---- which fields feed which slots
-- a field number is one of 1 to 6, or none of them
pub six : (P : ℕ → Type 0) → P 1 → P 2 → P 3 → P 4 → P 5 → P 6
    → ((n : ℕ) → eqb n 1 ≡ false → eqb n 2 ≡ false → eqb n 3 ≡ false → eqb n 4 ≡ false → eqb n 5 ≡ false
    → eqb n 6 ≡ false → P n) → (n : ℕ) → P n
six P p1 p2 p3 p4 p5 p6 q n =
    either (eqb n 1) (λ t. subst P (sym (eqb-true n 1 t)) p1)
    (λ e1. either (eqb n 2) (λ t. subst P (sym (eqb-true n 2 t)) p2)
    (λ e2. either (eqb n 3) (λ t. subst P (sym (eqb-true n 3 t)) p3)
    (λ e3. either (eqb n 4) (λ t. subst P (sym (eqb-true n 4 t)) p4)
    (λ e4. either (eqb n 5) (λ t. subst P (sym (eqb-true n 5 t)) p5)
    (λ e5. either (eqb n 6) (λ t. subst P (sym (eqb-true n 6 t)) p6) (λ e6. q n e1 e2 e3 e4 e5 e6))))))

-- a number changes no place
number_slots : (g : Slots → Place) → ((t : Slots) (v : ℕ) → g (set_number t v) ≡ g t)
    → (t : Slots) (f : Field) (r : Role) → g (role_slots t f (cond (is_varint r) r Skip)) ≡ g t
number_slots g keep t f Skip = refl
number_slots g keep t f (NumberRole figure) = keep t f.value
number_slots g keep t f (Text slot) = refl
number_slots g keep t f (Bytes slot) = refl
number_slots g keep t f (Unsigned slot) = refl
number_slots g keep t f Topic = refl
number_slots g keep t f MessageId = refl
number_slots g keep t f (Sub k form) = refl

-- so it is the length-delimited fields alone that feed a slot
pub feeds_from : (k : Kind) (g : Slots → Place) (m : ℕ) → ((t : Slots) (v : ℕ) → g (set_number t v) ≡ g t)
    → ((t : Slots) (f : Field) (n : ℕ) → g (role_slots t f (len_role k n)) ≡ cond (eqb n m) (place_of f) (g t))
    → Feeds k g m
unfolding with_field role_of
feeds_from k g m keep lens t f =
    either (eqb f.wire_type 2) (λ t2. simp t2 (lens t f f.field))
    (λ t2. either (eqb f.wire_type 0) (λ t0. simp (t2, t0) (number_slots g keep t f (row_of k f.field)))
    (λ t0. simp (t2, t0)))
