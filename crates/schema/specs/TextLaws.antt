-- Text is read as `read_string` reads it: for a field that the walk meets and that the table calls text, what is counted
-- is what `read_string` gives at the place after the field's tag. So 7 comes exactly where it gives 7, with the same
-- offset; and else it takes the bytes that the field holds.
use Rattle.std.specs.Prelude.{Result, Ok, Err, Option, Some, None, ℕ, ◌≡◌, refl, true, false, List, ◌↔◌, eqb}
use Rattle.std.proofs.Common.{sym, ◌∙◌, arith, eqb-true}
use Rattle.std.proofs.Math.Path.{ap}
use Rattle.basis.specs.declared.Mode.{Mode}
use Rattle.basis.specs.Cases.{either, clash}
use Rattle.utf8.specs.Utf8.{is_utf8}
use Rattle.protobuf.specs.declared.WireError.TheVariants.{InvalidUtf8}
use Rattle.protobuf.specs.declared.Field.{Field}
use Rattle.protobuf.specs.Field.{read_tag, read_len, string_of, read_string, read_varint, skip_field, of_value, of_part, of_skip}
use Rattle.protobuf.specs.Field.{read_value, of_tag, read_field}
use Rattle.protobuf.specs.Grammar.{max_groups}
use Rattle.protobuf.specs.Walk.{between}
use Rattle.schema.specs.declared.Kind.{Kind}
use Rattle.schema.specs.declared.Role.{Role}
use Rattle.schema.specs.declared.Role.TheVariants.{Skip, Text, Topic}
use Rattle.protobuf.specs.declared.WireError.{WireError}
use Rattle.schema.specs.Schema.{row_of, is_varint, number_role, role_of}
use Rattle.schema.specs.Count.{text_count, role_count, counted, field_count}

-- ---- a length-delimited field that is read: its part is what `read_len` gives after its tag
value_none : (n type to : ℕ) (f : Field) (r : Result (ℕ × ℕ) WireError) → type ≡ 0 → Ok (Some f) ≡ of_value n type to r
    → f.wire_type ≡ 2 → ⊥
value_none n type to f (Ok (x, e)) z h w = let q : f.wire_type ≡ type = cc in omega arith
value_none n type to f (Err why) z h w = clash (cc)

skip_none : (n type to : ℕ) (f : Field) (r : Result ℕ WireError) → eqb type 2 ≡ false
    → Ok (Some f) ≡ of_skip n type to r → f.wire_type ≡ 2 → ⊥
skip_none n type to f (Ok e) z h w =
    let q : type ≡ 2 = cc in let k : eqb type 2 ≡ true = rw q in clash (cc)
skip_none n type to f (Err why) z h w = clash (cc)

of_part_lem : (s : List ℕ) (n type to : ℕ) (f : Field) (r : Result (ℕ × ℕ) WireError) → r ≡ read_len s to
    → Ok (Some f) ≡ of_part n type to r
    → read_len s f.tag_end ≡ Ok (f.start, f.next)
of_part_lem s n type to f (Ok (a, e)) q h =
    let t : f.tag_end ≡ to = cc in let x : f.start ≡ a = cc in let y : f.next ≡ e = cc in
    ap (read_len s) t ∙ cc
of_part_lem s n type to f (Err why) q h = clash (cc)

of_value_lem : (mode : Mode) (s : List ℕ) (n type to : ℕ) (f : Field) → Ok (Some f) ≡ read_value mode s n type to
    → f.wire_type ≡ 2
    → read_len s f.tag_end ≡ Ok (f.start, f.next)
unfolding read_value
of_value_lem mode s n type to f h w =
    either (eqb type 0)
    (λ t0. absurd (value_none n type to f (read_varint s to) (eqb-true type 0 t0) (simp t0 at h) w))
    (λ t0. either (eqb type 2) (λ t2. of_part_lem s n type to f (read_len s to) refl (simp (t0, t2) at h))
    (λ t2. absurd (skip_none n type to f (skip_field mode max_groups s to n type) t2 (simp (t0, t2) at h) w)))

of_tag_lem : (mode : Mode) (s : List ℕ) (f : Field) (r : Result (Option (ℕ × ℕ × ℕ)) WireError)
    → Ok (Some f) ≡ of_tag mode s r → f.wire_type ≡ 2
    → read_len s f.tag_end ≡ Ok (f.start, f.next)
of_tag_lem mode s f (Ok None) h w = clash (cc)
of_tag_lem mode s f (Err why) h w = clash (cc)
of_tag_lem mode s f (Ok (Some (n, type, to))) h w = of_value_lem mode s n type to f h w

pub part-read : (mode : Mode) (s : List ℕ) (at : ℕ) (f : Field) → Ok (Some f) ≡ read_field mode s at → f.wire_type ≡ 2
    → read_len s f.tag_end ≡ Ok (f.start, f.next)
unfolding read_field
part-read mode s at f h w = of_tag_lem mode s f (read_tag s at) h w

-- ---- what counting makes of a string: n records, or its refusal
abbrev pub string_count : ℕ → Result (ℕ × ℕ) WireError → Result ℕ WireError
string_count n (Ok (a, e)) = Ok n
string_count n (Err why) = Err why

module _ (mode : Mode) (s : List ℕ) (at : ℕ) (f : Field) (n : ℕ) (met : Ok (Some f) ≡ read_field mode s at)
    (len : f.wire_type ≡ 2) where
  string_taken : is_utf8 (between s f.start f.next) ≡ true
      → read_string s f.tag_end ≡ Ok (f.start, f.next)
  unfolding read_string
  string_taken t = ap (string_of s f.tag_end) (part-read mode s at f met len) ∙ simp t

  string_refused : is_utf8 (between s f.start f.next) ≡ false
      → read_string s f.tag_end ≡ Err (InvalidUtf8 f.tag_end)
  unfolding read_string
  string_refused t = ap (string_of s f.tag_end) (part-read mode s at f met len) ∙ simp t

  -- the same answer
  pub text-read : text_count s f n ≡ string_count n (read_string s f.tag_end)
  unfolding text_count
  text-read =
      either (is_utf8 (between s f.start f.next))
      (λ t. simp t (ap (string_count n) (sym (string_taken t))))
      (λ t. simp t (ap (string_count n) (sym (string_refused t))))

  -- 7 exactly where `read_string` gives it, with the same offset
  pub text-refused-exactly : (offset : ℕ) → (text_count s f n ≡ Err (InvalidUtf8 offset))
      ↔ (read_string s f.tag_end ≡ Err (InvalidUtf8 offset))
  text-refused-exactly offset = (
    λ h. back (read_string s f.tag_end) refl (sym text-read ∙ h),
    λ h. text-read ∙ ap (string_count n) h,
  )
    where
      back : (r : Result (ℕ × ℕ) WireError) → read_string s f.tag_end ≡ r → string_count n r ≡ Err (InvalidUtf8 offset)
          → read_string s f.tag_end ≡ Err (InvalidUtf8 offset)
      back (Ok (a, e)) q h = clash (cc)
      back (Err why) q h = cc

  -- and else both take the bytes that the field holds
  pub text-taken-exactly : (text_count s f n ≡ Ok n)
      ↔ (read_string s f.tag_end ≡ Ok (f.start, f.next))
  unfolding text_count
  text-taken-exactly = (
    λ h. either (is_utf8 (between s f.start f.next)) string_taken (λ t. clash (let e = simp t at h in cc)),
    λ h. text-read ∙ ap (string_count n) h,
  )

-- ---- the roles that are text: it is counted as no record, and a topic of a message as one
pub data IsText : Role → ℕ → Type 0 where
  text : {slot : ℕ} → IsText (Text slot) 0
  topic : IsText Topic 1

not-varint : {r : Role} {n : ℕ} → IsText r n → is_varint r ≡ false
not-varint text = refl
not-varint topic = refl

not_skip : {r : Role} {n : ℕ} → IsText r n → Skip ≡ r → ⊥
not_skip text e = clash (cc)
not_skip topic e = clash (cc)

not-number : (k : Kind) (m : ℕ) (r : Role) (n : ℕ) → IsText r n → number_role k m ≡ r → ⊥
not-number k m r n t e =
    either (is_varint (row_of k m))
    (λ u. let z : row_of k m ≡ r = simp u at e in
    let y : is_varint (row_of k m) ≡ false = ap is_varint z ∙ not-varint t in clash (cc))
    (λ u. not_skip t (simp u at e))

text-len : (k : Kind) (m type : ℕ) (r : Role) (n : ℕ) → role_of k m type ≡ r → IsText r n → type ≡ 2
unfolding role_of
text-len k m type r n h t =
    either (eqb type 2) (λ u. eqb-true type 2 u)
    (λ u. either (eqb type 0) (λ v. absurd (not-number k m r n t (simp (u, v) at h)))
    (λ v. absurd (not_skip t (simp (u, v) at h))))

role_read : (mode : Mode) (s : List ℕ) (at : ℕ) (f : Field) (n : ℕ) (r : Role) → Ok (Some f) ≡ read_field mode s at
    → f.wire_type ≡ 2
    → IsText r n → role_count (counted mode) s f r ≡ string_count n (read_string s f.tag_end)
role_read mode s at f _ _ met len text = text-read mode s at f 0 met len
role_read mode s at f _ _ met len topic = text-read mode s at f 1 met len

-- a message of kind k counts each text field that the walk meets as `read_string` reads it
pub field-read : (mode : Mode) (k : Kind) (s : List ℕ) (at : ℕ) (f : Field) (n : ℕ) → Ok (Some f) ≡ read_field mode s at
    → IsText (role_of k f.field f.wire_type) n
    → field_count mode k s f ≡ string_count n (read_string s f.tag_end)
unfolding field_count
field-read mode k s at f n met t =
    let r = role_of k f.field f.wire_type in
    role_read mode s at f n r met (text-len k f.field f.wire_type r n refl t) t
