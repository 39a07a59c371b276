-- How long encodings are: a smaller number takes no more bytes, and a field no more than the field that it stands for.
use Rattle.std.specs.Prelude.{Option, Some, None, ℕ, zero, suc, ◌+◌, ◌*◌, ◌/◌, ◌≤◌, ◌<◌, ◌≡◌, refl, false, List, [], ◌∷◌}
use Rattle.std.specs.Prelude.{◌++◌, length, ltb, eqb}
use Rattle.std.proofs.Common.{sym, ap, ◌∙◌, arith, length-append, ltb-true, ltb-false, eqb-true, eq-eqb, ne_eqb}
use Rattle.basis.specs.Cases.{either}
use Rattle.peer_id.specs.Uvarint.{uvarint}
use Rattle.peer_id.specs.Laws.{uvarint-small, uvarint_big, uvarint-some}
use Rattle.protobuf.specs.Grammar.{Payload, number, eight, bytes, group, four, Entry, Value, varint, i64, len-prefix}
use Rattle.protobuf.specs.Grammar.{i32, BodyIn, none as no_fields, field, a_group}
use Rattle.protobuf.specs.Encode.{tag, varint_field, bytes_field}
use Rattle.protobuf.specs.EncodeLaws.{varint_field-length, bytes_field-length}
use Rattle.rpc.specs.Grammar.{numbers_in, bytes_in, or_else, last, Pairs, no_pairs, ◌paired◌}
use Rattle.rpc.specs.Encode.{optional, repeated}

-- ---- varints
-- f bounds the recursion
mono_from : (f a b : ℕ) → b ≤ f → a ≤ b → length (uvarint a) ≤ length (uvarint b)
mono_from zero a b h l = let e : a ≡ b = omega arith in rw e (omega arith)
mono_from (suc f) a b h l =
    either (ltb a 128)
    (λ t. let s = uvarint-some b in rw (uvarint-small a (ltb-true a 128 t)) (omega arith))
    (λ t. let p : 128 ≤ a = ltb-false a 128 t in
    let r = mono_from f (a / 128) (b / 128) (omega arith) (omega arith) in
    rw (uvarint_big a p, uvarint_big b (omega arith)) (omega arith))

pub uvarint_mono : (a b : ℕ) → a ≤ b → length (uvarint a) ≤ length (uvarint b)
uvarint_mono a b l = mono_from b a b (omega arith) l

-- twice a number takes at most one byte more
double : (b : ℕ) → length (uvarint (b + b)) ≤ 1 + length (uvarint b)
double zero = omega arith
double (suc b) =
    let n = suc b in
    let big = uvarint_big (128 * n) (omega arith) in
    let e : 128 * n / 128 ≡ n = omega arith in
    let l = uvarint_mono (n + n) (128 * n) (omega arith) in
    omega (arith, l, ap length big, ap (λ (x : ℕ). length (uvarint x)) e)

-- a sum takes no more bytes than its parts
pub uvarint-sum : (a b : ℕ) → length (uvarint (a + b)) ≤ length (uvarint a) + length (uvarint b)
uvarint-sum a b =
    either (ltb a b)
    (λ t. let h = ltb-true a b t in let d = double b in let m = uvarint_mono (a + b) (b + b) (omega arith) in
    let s = uvarint-some a in omega arith)
    (λ t. let h = ltb-false a b t in let d = double a in let m = uvarint_mono (a + b) (a + a) (omega arith) in
    let s = uvarint-some b in omega arith)

-- ---- fields
pub varint_field_mono : (n a b : ℕ) → a ≤ b → length (varint_field n a) ≤ length (varint_field n b)
varint_field_mono n a b h = let m = uvarint_mono a b h in
    omega (arith, varint_field-length n a, varint_field-length n b)

pub bytes_field_mono : (n : ℕ) (d e : List ℕ) → length d ≤ length e → length (bytes_field n d) ≤ length (bytes_field n e)
bytes_field_mono n d e h = let m = uvarint_mono (length d) (length e) h in
    omega (arith, bytes_field-length n d, bytes_field-length n e)

-- ---- a body is as long as its fields
abbrev value_length : ℕ → Payload → ℕ
value_length n (number v) = length (varint_field n v)
value_length n (eight d) = length (tag n 1) + length d
value_length n (bytes d) = length (bytes_field n d)
value_length n (group d) = length (tag n 3) + length d + length (tag n 4)
value_length n (four d) = length (tag n 5) + length d

abbrev entries_length : List Entry → ℕ
entries_length [] = 0
entries_length (e ∷ es) = value_length e.field e.payload + entries_length es

value_length_lem : {type : ℕ} {v : List ℕ} {p : Payload} (n : ℕ) → Value type v p
    → length (uvarint (n * 8 + type)) + length v ≡ value_length n p
unfolding varint_field bytes_field tag
value_length_lem n (varint {v = v} b) = sym (length-append (uvarint (n * 8 + 0)) (uvarint v))
value_length_lem n (i64 g) = refl
value_length_lem n (len-prefix {d = d} b) = sym (length-append (uvarint (n * 8 + 2)) (uvarint (length d) ++ d))
value_length_lem n (i32 g) = refl

group-length : (n : ℕ) (v : List ℕ)
    → length (uvarint (n * 8 + 3)) + length (v ++ uvarint (n * 8 + 4)) ≡ value_length n (group v)
unfolding tag
group-length n v = omega (arith, length-append v (uvarint (n * 8 + 4)))

pub body-length : {l : ℕ} {s : List ℕ} {es : List Entry} → BodyIn l s es → length s ≡ entries_length es
body-length no_fields = refl
body-length (field {n = n} {type = type} {v = v} {rest = rest} {es = es} l m w r) =
    let a = length-append (uvarint (n * 8 + type)) (v ++ rest) in
    let b = length-append v rest in
    omega (arith, a, b, value_length_lem n w, body-length r)
body-length (a_group {n = n} {v = v} {rest = rest} {es = es} l m g r) =
    let w = v ++ uvarint (n * 8 + 4) in
    let a = length-append (uvarint (n * 8 + 3)) (w ++ rest) in
    let b = length-append w rest in
    omega (arith, a, b, group-length n v, body-length r)

-- the lengths of all fields m of bytes, and of numbers
abbrev pub bytes_length : ℕ → List (List ℕ) → ℕ
bytes_length m [] = 0
bytes_length m (d ∷ ds) = length (bytes_field m d) + bytes_length m ds

abbrev pub numbers_length : ℕ → List ℕ → ℕ
numbers_length m [] = 0
numbers_length m (v ∷ vs) = length (varint_field m v) + numbers_length m vs

-- what the fields m take, and those from 1 to c
abbrev pub spent_on : ℕ → List Entry → ℕ
spent_on m es = bytes_length m (bytes_in m es) + numbers_length m (numbers_in m es)

abbrev pub spent_to : ℕ → List Entry → ℕ
spent_to zero es = 0
spent_to (suc c) es = spent_to c es + spent_on (suc c) es

-- one field is counted once at most
other_entry : (m n : ℕ) (p : Payload) (es : List Entry) → eqb n m ≡ false
    → spent_on m (record { field = n; payload = p } ∷ es) ≡ spent_on m es
other_entry m n (number v) es t = simp t
other_entry m n (eight d) es t = refl
other_entry m n (bytes d) es t = simp t
other_entry m n (group d) es t = refl
other_entry m n (four d) es t = refl

this-entry : (m : ℕ) (p : Payload) (es : List Entry)
    → spent_on m (record { field = m; payload = p } ∷ es) ≤ value_length m p + spent_on m es
this-entry m (number v) es = simp (eq-eqb m m refl) (omega arith)
this-entry m (eight d) es = omega arith
this-entry m (bytes d) es = simp (eq-eqb m m refl) (omega arith)
this-entry m (group d) es = omega arith
this-entry m (four d) es = omega arith

later-entry : (c n : ℕ) (p : Payload) (es : List Entry) → c < n → spent_to c (record { field = n; payload = p } ∷ es)
    ≡ spent_to c es
later-entry zero n p es h = refl
later-entry (suc c) n p es h =
    let a = later-entry c n p es (omega arith) in
    let b = other_entry (suc c) n p es (ne_eqb n (suc c) (λ e. omega arith)) in
    omega arith

one_entry : (c n : ℕ) (p : Payload) (es : List Entry)
    → spent_to c (record { field = n; payload = p } ∷ es) ≤ value_length n p + spent_to c es
one_entry zero n p es = omega arith
one_entry (suc c) n p es =
    either (eqb n (suc c))
    (λ t. let e = eqb-true n (suc c) t in rw e (let a = later-entry c (suc c) p es (omega arith) in let b = this-entry
    (suc c) p es in omega arith))
    (λ t. let a = one_entry c n p es in let b = other_entry (suc c) n p es t in omega arith)

spent_fits : (c : ℕ) (es : List Entry) → spent_to c es ≤ entries_length es
spent_fits zero [] = omega arith
spent_fits (suc c) [] = let r = spent_fits c [] in omega arith
spent_fits c (e ∷ es) = let l = one_entry c e.field e.payload es in let r = spent_fits c es in omega arith

-- the fields 1 to c of a body take no more than the body
pub fields_fit : {l : ℕ} {s : List ℕ} {es : List Entry} (c : ℕ) → BodyIn l s es → spent_to c es ≤ length s
fields_fit {s = s} {es = es} c g = let f = spent_fits c es in omega (arith, body-length g)

-- ---- what is written of them
-- the last of a list is one of them
pub last-bytes : (m : ℕ) (ds : List (List ℕ)) → length (optional (bytes_field m) (last ds)) ≤ bytes_length m ds
last-bytes m [] = omega arith
last-bytes m (d ∷ ds) = of-last (last ds) (last-bytes m ds)
  where
    of-last : (o : Option (List ℕ)) → length (optional (bytes_field m) o) ≤ bytes_length m ds
        → length (optional (bytes_field m) (or_else o d)) ≤ length (bytes_field m d) + bytes_length m ds
    of-last None h = omega arith
    of-last (Some x) h = omega arith

pub last-numbers : (m : ℕ) (f : ℕ → ℕ) → ((v : ℕ) → f v ≤ v) → (vs : List ℕ)
    → length (optional (λ v. varint_field m (f v)) (last vs)) ≤ numbers_length m vs
last-numbers m f small [] = omega arith
last-numbers m f small (v ∷ vs) = of-last (last vs) (last-numbers m f small vs)
  where
    of-last : (o : Option ℕ) → length (optional (λ v. varint_field m (f v)) o) ≤ numbers_length m vs
        → length (optional (λ v. varint_field m (f v)) (or_else o v)) ≤ length (varint_field m v) + numbers_length m vs
    of-last None h = let l = varint_field_mono m (f v) v (small v) in omega arith
    of-last (Some x) h = omega arith

pub all-bytes : (m : ℕ) (ds : List (List ℕ)) → length (repeated (bytes_field m) ds) ≡ bytes_length m ds
all-bytes m [] = refl
all-bytes m (d ∷ ds) = length-append (bytes_field m d) (repeated (bytes_field m) ds) ∙ omega (arith, all-bytes m ds)

-- submessages that are no longer than those that they stand for
pub all-subs : {X : Type 0} {R : List ℕ → X → Type 0} (m : ℕ) (enc : X → List ℕ)
    → ((d : List ℕ) (x : X) → R d x → length (enc x) ≤ length d) → {ds : List (List ℕ)} {xs : List X} → Pairs R ds xs
    → length (repeated (λ x. bytes_field m (enc x)) xs) ≤ bytes_length m ds
all-subs m enc short no_pairs = omega arith
all-subs m enc short (◌paired◌ {x = d} {y = x} {xs = ds} {ys = xs} p ps) =
    let a = length-append (bytes_field m (enc x)) (repeated (λ x. bytes_field m (enc x)) xs) in
    let b = bytes_field_mono m (enc x) d (short d x p) in
    let c = all-subs m enc short ps in
    omega arith
