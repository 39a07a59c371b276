-- Laws between the modes: a field is read alike in both but where the first refuses type 3 or 4 by 5; the second never
-- refuses by 5 with these; and what the first accepts the second accepts, with the same meaning.
use Rattle.std.specs.Prelude.{Result, Ok, Err, Option, Some, None, ℕ, zero, suc, ◌-◌, ◌≤◌, ◌<◌, ◌≡◌, refl, List, [], ◌∷◌, true, false, length, eqb}
use Rattle.std.proofs.Common.{sym, ap, subst, ◌∙◌, arith, eqb-true}
use Rattle.basis.specs.declared.Mode.{Mode}
use Rattle.basis.specs.declared.Mode.TheVariants.{Plain, Groups}
use Rattle.basis.specs.Cases.{either, clash}
use Rattle.basis.specs.Bytes.{Bytes}
use Rattle.protobuf.specs.declared.WireError.{WireError}
use Rattle.protobuf.specs.declared.WireError.TheVariants.{UnsupportedWireType}
use Rattle.protobuf.specs.declared.Field.{Field}
use Rattle.protobuf.specs.Grammar.{Payload, number, eight, bytes, group, four, Entry, Value, varint, i64}
use Rattle.protobuf.specs.Grammar.{len-prefix, i32, BodyIn, none, field, a_group, max_groups, Body}
use Rattle.protobuf.specs.Field.{read_tag, skip_value, skip_field, read_value, of_tag, read_field}
use Rattle.protobuf.specs.Laws.{skip_value_lem, field-stands}
use Rattle.protobuf.specs.Walk.{Fields, end as at-end, refused, ◌then◌, on_step, walk_at, whole}
use Rattle.protobuf.specs.WalkLaws.{walk_step_lem}
use Rattle.protobuf.specs.Faults.{Untaken, start-group, end-group, six, seven, FaultIn, bad-tag, bad-number}
use Rattle.protobuf.specs.Faults.{bad_type, bad-value, bad-length, too_long, too_wide, too_deep, unclosed}
use Rattle.protobuf.specs.Faults.{crossed, within, Fault, of_field, stray}
use Rattle.protobuf.specs.FaultLaws.{is-fault}

-- the refusals 5 of a start tag and of an end tag
pub data ByGroup : WireError → Type 0 where
  start : {offset : ℕ} → ByGroup (UnsupportedWireType 3 offset)
  end : {offset : ℕ} → ByGroup (UnsupportedWireType 4 offset)

-- a walk that these do not stop
abbrev pub NoGroup : Fields → Type 0
NoGroup at-end = Unit {0}
NoGroup (refused why) = ByGroup why → ⊥
NoGroup (f then w) = NoGroup w

-- a payload that is no group, and entries that hold none
abbrev pub Ungrouped : Payload → Type 0
Ungrouped (number v) = Unit {0}
Ungrouped (eight d) = Unit {0}
Ungrouped (bytes d) = Unit {0}
Ungrouped (group v) = ⊥
Ungrouped (four d) = Unit {0}

abbrev pub AllUngrouped : List Entry → Type 0
AllUngrouped [] = Unit {0}
AllUngrouped (e ∷ es) = Ungrouped e.payload × AllUngrouped es

-- ---- a field
-- the first mode refuses types 3 and 4 by 5
plain-start : (s : List ℕ) (n type to : ℕ) → eqb type 3 ≡ true
    → read_value Plain s n type to ≡ Err (UnsupportedWireType 3 to)
unfolding read_value skip_field skip_value
plain-start s n type to t = rw (eqb-true type 3 t) refl

plain_end : (s : List ℕ) (n type to : ℕ) → eqb type 4 ≡ true
    → read_value Plain s n type to ≡ Err (UnsupportedWireType 4 to)
unfolding read_value skip_field skip_value
plain_end s n type to t = rw (eqb-true type 4 t) refl

-- and reads others as the second
same-value : (s : List ℕ) (n type to : ℕ) → eqb type 3 ≡ false → eqb type 4 ≡ false
    → read_value Groups s n type to ≡ read_value Plain s n type to
unfolding read_value
same-value s n type to t3 t4 =
    let e : skip_field Groups max_groups s to n type ≡ skip_field Plain max_groups s to n type =
    skip_value_lem Groups max_groups s to n type t3 t4 ∙ sym (skip_value_lem Plain max_groups s to n type t3 t4) in
    rw e refl

same_tag : (s : List ℕ) (r : Result (Option (ℕ × ℕ × ℕ)) WireError)
    → ((why : WireError) → Err why ≡ of_tag Plain s r → ByGroup why → ⊥) → of_tag Groups s r ≡ of_tag Plain s r
same_tag s (Ok None) h = refl
same_tag s (Err why) h = refl
same_tag s (Ok (Some (n, type, to))) h =
    either (eqb type 3) (λ t3. absurd (h _ (sym (plain-start s n type to t3)) start))
    (λ t3. either (eqb type 4) (λ t4. absurd (h _ (sym (plain_end s n type to t4)) end))
    (λ t4. same-value s n type to t3 t4))

-- the modes differ only where the first refuses type 3 or 4 by 5
pub same-field : (s : List ℕ) (at : ℕ)
    → ((why : WireError) → Err why ≡ read_field Plain s at → ByGroup why → ⊥)
    → read_field Groups s at ≡ read_field Plain s at
unfolding read_field
same-field s at h = same_tag s (read_tag s at) h

-- ---- and there they differ: a type that is refused by 5 is none that the mode takes
fault_type : {mode : Mode} {l base place : ℕ} {s : List ℕ} {why : WireError} (type offset : ℕ)
    → FaultIn mode l base s place why → why ≡ UnsupportedWireType type offset → Untaken mode type
fault_type type offset (bad-tag s z d) e = clash (cc)
fault_type type offset (bad-number s z b l) e = clash (cc)
fault_type type offset (bad_type {m} {type = k} s n u) e = let i : k ≡ type = cc in subst (Untaken m) i u
fault_type type offset (bad-value s n d) e = clash (cc)
fault_type type offset (bad-length s n d) e = clash (cc)
fault_type type offset (too_long s n b z) e = clash (cc)
fault_type type offset (too_wide s n f z) e = clash (cc)
fault_type type offset (too_deep s n) e = clash (cc)
fault_type type offset (unclosed v n g) e = clash (cc)
fault_type type offset (crossed v s n g k z) e = clash (cc)
fault_type type offset (within v s n g f) e = fault_type type offset f e

of-fault : {mode : Mode} {base place : ℕ} {s : List ℕ} {why : WireError} (type offset : ℕ)
    → Fault mode base s place why → why ≡ UnsupportedWireType type offset → Untaken mode type
of-fault type offset (of_field f) e = fault_type type offset f e
of-fault type offset (stray s n) e = clash (cc)

pub type_untaken : (mode : Mode) (s : List ℕ) (at type offset : ℕ) → Bytes s
    → Err (UnsupportedWireType type offset) ≡ read_field mode s at → Untaken mode type
type_untaken mode s at type offset b h =
    of-fault type offset (is-fault mode s at (UnsupportedWireType type offset) b h).fault refl

taken : {mode : Mode} {type : ℕ} → Untaken mode type → mode ≡ Groups → 5 < type
taken start-group e = clash (cc)
taken end-group e = clash (cc)
taken six e = omega arith
taken seven e = omega arith

-- the second mode refuses neither type 3 nor type 4 by 5
pub never-by-group : (s : List ℕ) (at : ℕ) (why : WireError) → Bytes s → Err why ≡ read_field Groups s at
    → ByGroup why → ⊥
never-by-group s at why b h (start {offset}) =
    let k : 5 < 3 = taken (type_untaken Groups s at 3 offset b h) refl in omega arith
never-by-group s at why b h (end {offset}) =
    let k : 5 < 4 = taken (type_untaken Groups s at 4 offset b h) refl in omega arith

-- ---- a walk
module _ (s : List ℕ) where
  -- a step, where the walks after it are the same
  same_step : (at : ℕ) (r : Result (Option Field) WireError) → r ≡ read_field Plain s at
      → NoGroup (on_step (walk_at Plain s) r)
      → ((f : Field) → Ok (Some f) ≡ read_field Plain s at → NoGroup (walk_at Plain s f.next) → walk_at Groups s f.next ≡ walk_at Plain s f.next) → on_step (walk_at Groups s) (read_field Groups s at) ≡ on_step (walk_at Plain s) r
  same_step at (Ok None) q g ih =
      ap (on_step (walk_at Groups s)) (same-field s at (λ why e. clash (cc)) ∙ sym q)
  same_step at (Err w) q g ih =
      ap (on_step (walk_at Groups s))
      (same-field s at (λ why e y. let i : why ≡ w = cc in g (subst ByGroup i y)) ∙ sym q)
  same_step at (Ok (Some f)) q g ih =
      ap (on_step (walk_at Groups s)) (same-field s at (λ why e. clash (cc)) ∙ sym q)
      ∙ ap (λ (w : Fields). f then w) (ih f q g)

  same_from : (k at : ℕ) → length s - at < k → NoGroup (walk_at Plain s at) → walk_at Groups s at ≡ walk_at Plain s at
  same_from zero at h g = absurd (omega arith)
  same_from (suc k) at h g =
      walk_step_lem Groups s at
      ∙ same_step at (read_field Plain s at) refl (subst NoGroup (walk_step_lem Plain s at) g)
      (λ f q. let m = field-stands Plain s at f q in same_from k f.next (omega arith))
      ∙ sym (walk_step_lem Plain s at)

-- the walks differ only where the first mode's is stopped at type 3 or 4 by 5
pub same-walk : (s : List ℕ) (at : ℕ) → NoGroup (walk_at Plain s at) → walk_at Groups s at ≡ walk_at Plain s at
same-walk s at = same_from s (suc (length s - at)) at (omega arith)

whole-passes : (fs : List Field) → NoGroup (whole fs)
whole-passes [] = tt
whole-passes (f ∷ fs) = whole-passes fs

-- where the first mode's reaches the end, the second's finds the same fields
pub same_whole : (s : List ℕ) (at : ℕ) (fs : List Field) → walk_at Plain s at ≡ whole fs
    → walk_at Groups s at ≡ whole fs
same_whole s at fs h = same-walk s at (subst NoGroup (sym h) (whole-passes fs)) ∙ h

-- ---- a body
-- where more groups may open, a body has the same meaning
pub body_more : {l k : ℕ} {s : List ℕ} {es : List Entry} → l ≤ k → BodyIn l s es → BodyIn k s es
body_more h none = none
body_more h (field low high w r) = field low high w (body_more h r)
body_more {k = zero} h (a_group low high g r) = absurd (omega arith)
body_more {k = suc k} h (a_group low high g r) = a_group {l = k} low high (body_more (omega arith) g) (body_more h r)

-- what the first mode accepts the second accepts, with the same meaning
pub plain_body : {s : List ℕ} {es : List Entry} → Body Plain s es → Body Groups s es
plain_body = body_more {l = 0} {k = max_groups} (omega arith)

value_ungrouped : {type : ℕ} {v : List ℕ} {p : Payload} → Value type v p → Ungrouped p
value_ungrouped (varint b) = tt
value_ungrouped (i64 g) = tt
value_ungrouped (len-prefix b) = tt
value_ungrouped (i32 g) = tt

none_open : {l : ℕ} {s : List ℕ} {es : List Entry} → l ≡ 0 → BodyIn l s es → AllUngrouped es
none_open e none = tt
none_open e (field low high w r) = (value_ungrouped w, none_open e r)
none_open e (a_group low high g r) = absurd (omega arith)

-- and none of its fields is a group
pub plain-entries : {s : List ℕ} {es : List Entry} → Body Plain s es → AllUngrouped es
plain-entries = none_open {l = 0} refl
