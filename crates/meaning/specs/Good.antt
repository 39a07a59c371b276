-- A message of any kind is accepted exactly where its body is well formed and the bytes of each of its fields are good:
-- text is UTF-8, and a submessage is accepted.
use Rattle.std.specs.Prelude.{Ok, ℕ, ◌+◌, ◌≡◌, refl, Bool, true, false, cond, List, [], ◌∷◌, eqb}
use Rattle.std.proofs.Common.{sym, ap, ap₂, subst, ◌∙◌, eqb-true, eq-eqb}
use Rattle.basis.specs.declared.Mode.{Mode}
use Rattle.basis.specs.Cases.{either, clash, both}
use Rattle.utf8.specs.Grammar.{Utf8}
use Rattle.utf8.specs.Utf8.{is_utf8}
use Rattle.utf8.specs.Laws.{exactly}
use Rattle.protobuf.specs.declared.Field.{Field}
use Rattle.protobuf.specs.Grammar.{Entry}
use Rattle.protobuf.specs.Walk.{Fields, end, refused, ◌then◌, fields_of, whole, entries_of}
use Rattle.schema.specs.declared.Kind.{Kind}
use Rattle.schema.specs.declared.Role.{Role}
use Rattle.schema.specs.declared.Role.TheVariants.{Skip, Number, Text, Bytes, Unsigned, Topic, MessageId, Sub}
use Rattle.schema.specs.Schema.{is_varint, row_of, role_of, own_of}
use Rattle.schema.specs.Count.{plus, and_then, text_count, role_count, count_along, counted}
use Rattle.schema.specs.CountLaws.{plus-fits, then-fits, count_along_lem}
use Rattle.rpc.specs.Grammar.{bytes_in, Each, none_left, ◌and◌}
use Rattle.protobuf.specs.Walk.{is_bytes, value_in}
use Rattle.meaning.specs.Entries.{put_bytes_lem}

-- a message of kind k with the bytes p is accepted
pub record Accepted (mode : Mode) (k : Kind) (p : List ℕ) : Type 0 where
  pub records : ℕ
  pub counts : counted mode k p ≡ Ok records

-- the bytes of a length-delimited field are good for its role
abbrev pub GoodRole : Mode → Role → List ℕ → Type 0
GoodRole mode Skip d = Unit {0}
GoodRole mode (Number figure) d = Unit {0}
GoodRole mode (Text slot) d = Utf8 d
GoodRole mode (Bytes slot) d = Unit {0}
GoodRole mode (Unsigned slot) d = Unit {0}
GoodRole mode Topic d = Utf8 d
GoodRole mode MessageId d = Unit {0}
GoodRole mode (Sub j form) d = Accepted mode j d

-- all bytes in the fields m are good
abbrev pub Good : Mode → Kind → List Entry → Type 0
Good mode k es = (m : ℕ) → Each (GoodRole mode (role_of k m 2)) (bytes_in m es)

-- ---- one field
abbrev RoleAt : Kind → Field → Role
RoleAt k f = role_of k f.field f.wire_type

text-good : (s : List ℕ) (f : Field) (n m : ℕ) → text_count s f n ≡ Ok m → Utf8 (value_in s f)
unfolding text_count
text-good s f n m h =
    either (is_utf8 (value_in s f)) (λ t. (exactly (value_in s f)).0 t) (λ t. clash (let e = simp t at h in cc))

good-text : (s : List ℕ) (f : Field) (n : ℕ) → Utf8 (value_in s f) → text_count s f n ≡ Ok n
unfolding text_count
good-text s f n u = let t : is_utf8 (value_in s f) ≡ true = (exactly (value_in s f)).1 u in simp t

pub counts-good : (mode : Mode) (s : List ℕ) (f : Field) (r : Role) (m : ℕ) → role_count (counted mode) s f r ≡ Ok m
    → GoodRole mode r (value_in s f)
counts-good mode s f Skip m h = tt
counts-good mode s f (Number figure) m h = tt
counts-good mode s f (Text slot) m h = text-good s f 0 m h
counts-good mode s f (Bytes slot) m h = tt
counts-good mode s f (Unsigned slot) m h = tt
counts-good mode s f Topic m h = text-good s f 1 m h
counts-good mode s f MessageId m h = tt
counts-good mode s f (Sub j form) m h = let t = plus-fits (own_of j) m (counted mode j (value_in s f)) h in
    record { records = t.0; counts = t.1 }

pub good-counts : (mode : Mode) (s : List ℕ) (f : Field) (r : Role) → GoodRole mode r (value_in s f) → (m : ℕ)
    × (role_count (counted mode) s f r ≡ Ok m)
good-counts mode s f Skip g = (0, refl)
good-counts mode s f (Number figure) g = (0, refl)
good-counts mode s f (Text slot) g = (0, good-text s f 0 g)
good-counts mode s f (Bytes slot) g = (0, refl)
good-counts mode s f (Unsigned slot) g = (0, refl)
good-counts mode s f Topic g = (1, good-text s f 1 g)
good-counts mode s f MessageId g = (1, refl)
good-counts mode s f (Sub j form) g = (own_of j + g.records, ap (plus (own_of j)) g.counts)

-- a field that is not length-delimited is passed over or a number
number_counts : (mode : Mode) (s : List ℕ) (f : Field) (r : Role)
    → role_count (counted mode) s f (cond (is_varint r) r Skip) ≡ Ok 0
number_counts mode s f Skip = refl
number_counts mode s f (Number figure) = refl
number_counts mode s f (Text slot) = refl
number_counts mode s f (Bytes slot) = refl
number_counts mode s f (Unsigned slot) = refl
number_counts mode s f Topic = refl
number_counts mode s f MessageId = refl
number_counts mode s f (Sub k form) = refl

pub other_counts : (mode : Mode) (k : Kind) (s : List ℕ) (f : Field) → eqb f.wire_type 2 ≡ false → (m : ℕ)
    × (role_count (counted mode) s f (RoleAt k f) ≡ Ok m)
unfolding role_of
other_counts mode k s f t2 =
    either (eqb f.wire_type 0) (λ t0. (0, simp (t2, t0) (number_counts mode s f (row_of k f.field))))
    (λ t0. (0, simp (t2, t0)))

-- ---- all fields of a walk that reaches the end
pub each-put : (P : List ℕ → Type 0) (t : Bool) (d : List ℕ) (ds : List (List ℕ)) → (t ≡ true → P d) → Each P ds
    → Each P (cond t (d ∷ ds) ds)
each-put P true d ds p ps = p refl and ps
each-put P false d ds p ps = ps

pub is_bytes_lem : (m : ℕ) (f : Field) → is_bytes m f ≡ true → (f.wire_type ≡ 2) × (f.field ≡ m)
is_bytes_lem m f h = let t = both (eqb f.wire_type 2) (eqb f.field m) h in
    (eqb-true _ _ t.0, eqb-true _ _ t.1)

along-good : (mode : Mode) (k : Kind) (s : List ℕ) (fs : List Field) (n : ℕ)
    → count_along (counted mode) k s (whole fs) ≡ Ok n → Good mode k (entries_of s fs)
along-good mode k s [] n h m = none_left
along-good mode k s (f ∷ fs) n h m =
    let t = then-fits (role_count (counted mode) s f (RoleAt k f)) (count_along (counted mode) k s (whole fs)) n h in
    subst (Each (GoodRole mode (role_of k m 2))) (sym (put_bytes_lem s m f (bytes_in m (entries_of s fs))))
    (each-put (GoodRole mode (role_of k m 2)) (is_bytes m f) (value_in s f) (bytes_in m (entries_of s fs))
    (λ b. let q = is_bytes_lem m f b in
    let r : RoleAt k f ≡ role_of k m 2 = ap₂ (role_of k) q.1 q.0 in
    subst (λ (x : Role). GoodRole mode x (value_in s f)) r (counts-good mode s f (RoleAt k f) t.0 t.2))
    (along-good mode k s fs t.1 t.3 m))

each-head : (P : List ℕ → Type 0) (d : List ℕ) (ds : List (List ℕ)) → Each P (d ∷ ds) → P d × Each P ds
each-head P d ds (p and ps) = (p, ps)

good-rest : (mode : Mode) (k : Kind) (s : List ℕ) (f : Field) (fs : List Field) → Good mode k (entries_of s (f ∷ fs))
    → Good mode k (entries_of s fs)
good-rest mode k s f fs g m =
    let h : Each (GoodRole mode (role_of k m 2)) (cond (is_bytes m f) (value_in s f ∷ bytes_in m (entries_of s fs))
    (bytes_in m (entries_of s fs))) =
    subst (Each (GoodRole mode (role_of k m 2))) (put_bytes_lem s m f (bytes_in m (entries_of s fs))) (g m) in
    either (is_bytes m f) (λ b. (each-head (GoodRole mode (role_of k m 2)) (value_in s f) (bytes_in m (entries_of s fs))
    (simp b at h)).1) (λ b. simp b at h)

good-first : (mode : Mode) (k : Kind) (s : List ℕ) (f : Field) (fs : List Field) → Good mode k (entries_of s (f ∷ fs))
    → eqb f.wire_type 2 ≡ true → GoodRole mode (RoleAt k f) (value_in s f)
good-first mode k s f fs g t2 =
    let m = f.field in
    let b : is_bytes m f ≡ true = simp (t2, eq-eqb m m refl) in
    let h : Each (GoodRole mode (role_of k m 2)) (cond (is_bytes m f) (value_in s f ∷ bytes_in m (entries_of s fs))
    (bytes_in m (entries_of s fs))) =
    subst (Each (GoodRole mode (role_of k m 2))) (put_bytes_lem s m f (bytes_in m (entries_of s fs))) (g m) in
    let r : role_of k m 2 ≡ RoleAt k f = ap (role_of k m) (sym (eqb-true f.wire_type 2 t2)) in
    subst (λ (x : Role). GoodRole mode x (value_in s f)) r
    (each-head (GoodRole mode (role_of k m 2)) (value_in s f) (bytes_in m (entries_of s fs)) (simp b at h)).0

field-counts : (mode : Mode) (k : Kind) (s : List ℕ) (f : Field) (fs : List Field) → Good mode k (entries_of s (f ∷ fs))
    → (m : ℕ) × (role_count (counted mode) s f (RoleAt k f) ≡ Ok m)
field-counts mode k s f fs g =
    either (eqb f.wire_type 2) (λ t2. good-counts mode s f (RoleAt k f) (good-first mode k s f fs g t2))
    (λ t2. other_counts mode k s f t2)

good-along : (mode : Mode) (k : Kind) (s : List ℕ) (fs : List Field) → Good mode k (entries_of s fs) → (n : ℕ)
    × (count_along (counted mode) k s (whole fs) ≡ Ok n)
good-along mode k s [] g = (0, refl)
good-along mode k s (f ∷ fs) g =
    let a = field-counts mode k s f fs g in
    let b = good-along mode k s fs (good-rest mode k s f fs g) in
    (a.0 + b.0, ap₂ and_then a.1 b.1)

-- ---- a message is accepted where its walk reaches the end, and its fields are good
pub walked-good : (mode : Mode) (k : Kind) (s : List ℕ) (fs : List Field) → fields_of mode s ≡ whole fs
    → Accepted mode k s → Good mode k (entries_of s fs)
walked-good mode k s fs w a = along-good mode k s fs a.records (ap (count_along (counted mode) k s) (sym w)
    ∙ sym (count_along_lem mode k s) ∙ a.counts)

pub good-walked : (mode : Mode) (k : Kind) (s : List ℕ) (fs : List Field) → fields_of mode s ≡ whole fs
    → Good mode k (entries_of s fs) → Accepted mode k s
good-walked mode k s fs w g = let a = good-along mode k s fs g in
    record { records = a.0; counts = count_along_lem mode k s ∙ ap (count_along (counted mode) k s) w ∙ a.1 }

-- what is accepted has a walk that reaches the end
ends : (mode : Mode) (k : Kind) (s : List ℕ) (w : Fields) (n : ℕ) → count_along (counted mode) k s w ≡ Ok n
    → (fs : List Field) × (w ≡ whole fs)
ends mode k s end n h = ([], refl)
ends mode k s (refused why) n h = clash (cc)
ends mode k s (f then w) n h =
    let t = then-fits (role_count (counted mode) s f (RoleAt k f)) (count_along (counted mode) k s w) n h in
    let r = ends mode k s w t.1 t.3 in
    (f ∷ r.0, ap (λ (x : Fields). f then x) r.1)

pub accepted_walks : (mode : Mode) (k : Kind) (s : List ℕ) → Accepted mode k s → (fs : List Field)
    × (fields_of mode s ≡ whole fs)
accepted_walks mode k s a = ends mode k s (fields_of mode s) a.records (sym (count_along_lem mode k s) ∙ a.counts)
