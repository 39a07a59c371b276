-- Laws of tables of places: the parts one by one, one part more, and a part of a part; the parts at a path field by
-- field, and how many there can be; each part once; and how many fit.
use Rattle.std.specs.Prelude.{Ok, Err, Some, None, ℕ, zero, suc, ◌+◌, ◌-◌, ◌*◌, ◌≤◌, ◌<◌, ◌≡◌, refl, Bool, true, false, cond, not, ◌&&◌, ◌||◌, length, take, drop, get_or, set, leb, ltb}
use Rattle.std.proofs.Common.{sym, ap, ◌∙◌, arith, add-one, one-add, length-append, length-take, drop_of_length-le, drop-cons, drop-drop, take-take, get_or-set_same, get_or-set_other, eqb-true, ltb-true, ltb-false, leb-true, leb-false, le-leb}
use Rattle.std.proofs.Math.Path.{ap₂}
use mathlib.Core.List.{List, [], ◌∷◌, ◌++◌, append_assoc, append-nil}
use Rattle.std.proofs.Math.Bool.{and-false}
use Rattle.std.proofs.lemmas.List.Edits.{sets}
use Rattle.std.proofs.Math.Seq.{length-sets}
use Rattle.std.proofs.lemmas.Bool.{lt-leb}
use Rattle.basis.specs.declared.Mode.{Mode}
use Rattle.basis.specs.declared.Dialect.{Dialect}
use Rattle.basis.specs.declared.Edition.TheVariants.{V12}
use Rattle.basis.specs.Dialect.{spoken}
use Rattle.basis.specs.Cases.{either, clash, both}
use Rattle.basis.specs.Lists.{drop-take}
use Rattle.rows.specs.Rows.{tab}
use Rattle.rows.specs.RowsLaws.{length-tab, get_d_tab, tab_ext, tab_snoc}
use Rattle.rows.specs.Ids.{same_bytes, among, distinct}
use Rattle.rows.specs.IdsLaws.{same_self, same_equal, among-append, distinct_snoc, distinct_middle}
use Rattle.protobuf.specs.declared.Field.{Field}
use Rattle.protobuf.specs.declared.WireError.{WireError}
use Rattle.protobuf.specs.Field.{read_field}
use Rattle.protobuf.specs.Walk.{Fields, end, refused, ◌then◌, walk_at, fields_of, between, is_bytes, value_in}
use Rattle.protobuf.specs.WalkLaws.{walk_on, walk_end}
use Rattle.protobuf.specs.Encode.{bytes_field}
use Rattle.rpc.specs.Encode.{repeated}
use Rattle.schema.specs.declared.Kind.{Kind}
use Rattle.schema.specs.declared.Kind.TheVariants as kind
use Rattle.schema.specs.declared.Form.{Form}
use Rattle.schema.specs.declared.Form.TheVariants.{Anew, Merged}
use Rattle.schema.specs.declared.Role.TheVariants.{MessageId, Sub}
use Rattle.schema.specs.Schema.{role_of, own_of}
use Rattle.schema.specs.Count.{role_count, count_along, counted}
use Rattle.schema.specs.CountLaws.{count_along_lem, plus-fits, then-fits}
use Rattle.schema.specs.Accept.{accept_of}
use Rattle.schema.specs.AcceptLaws.{accept_records}
use Rattle.node.specs.Parts.{part_at, parts_in, Parts, values_along, in_each, at_path, once_after, once, without}
use Rattle.node.specs.Parts.{fitting}

-- ---- the parts one by one
pub length-parts : (s t : List ℕ) (n : ℕ) → length (parts_in s t n) ≡ n
unfolding parts_in
length-parts s t n = length-tab (part_at s t) n

pub part-is : (s t : List ℕ) (n i : ℕ) → i < n → get_or (parts_in s t n) i [] ≡ part_at s t i
unfolding parts_in
part-is s t n i h = get_d_tab (part_at s t) n i [] h

pub parts_from : (s t : List ℕ) (n i : ℕ) → i < n → drop i (parts_in s t n) ≡ part_at s t i ∷ drop (i + 1) (parts_in s t n)
parts_from s t n i h =
    let l = length-parts s t n in
    rw (add-one i) (drop-cons (parts_in s t n) i [] (omega arith) ∙ ap (λ (p : List ℕ). p ∷ drop (suc i) (parts_in s t n))
    (part-is s t n i h))

pub parts-end : (s t : List ℕ) (n i : ℕ) → n ≤ i → drop i (parts_in s t n) ≡ []
parts-end s t n i h = let l = length-parts s t n in drop_of_length-le (parts_in s t n) {i = i} (omega arith)

-- the first k of them
take-tab : (f : ℕ → List ℕ) (k n : ℕ) → k ≤ n → take k (tab f n) ≡ tab f k
take-tab f zero n h = refl
take-tab f (suc k) zero h = absurd (omega arith)
take-tab f (suc k) (suc n) h = ap (λ (l : List (List ℕ)). f 0 ∷ l) (take-tab (λ (i : ℕ). f (suc i)) k n (omega arith))

pub parts-take : (s t : List ℕ) (k n : ℕ) → k ≤ n → take k (parts_in s t n) ≡ parts_in s t k
unfolding parts_in
parts-take s t k n h = take-tab (part_at s t) k n h

pub parts-fewer : (s t : List ℕ) (k n : ℕ) → k ≤ n → Parts s t n → Parts s t k
parts-fewer s t k n h p = let r = p.room in record { room = omega arith; within = λ i q. p.within i (omega arith) }

-- two tables that have the same places
pub parts_ext : (s t u : List ℕ) (n : ℕ)
    → ((i : ℕ) → i < n → (get_or t (i * 2) 0 ≡ get_or u (i * 2) 0) × (get_or t (i * 2 + 1) 0 ≡ get_or u (i * 2 + 1) 0))
    → parts_in s t n ≡ parts_in s u n
unfolding parts_in
parts_ext s t u n h = tab_ext (part_at s t) (part_at s u) n (λ i k. ap₂ (between s) (h i k).0 (h i k).1)

-- ---- one part more, put after the n parts
module _ (t : List ℕ) (n a e : ℕ) where
  abbrev more : List ℕ
  more = sets t (n * 2) (a ∷ e ∷ [])

  more-before : (j : ℕ) → j < n * 2 → get_or more j 0 ≡ get_or t j 0
  more-before j h =
      get_or-set_other (set t (n * 2) a) (suc (n * 2)) j e 0 (λ q. omega arith) ∙ get_or-set_other t (n * 2) j a 0
      (λ q. omega arith)

  module _ (room : (n + 1) * 2 ≤ length t) where
    more-start : get_or more (n * 2) 0 ≡ a
    more-start =
        get_or-set_other (set t (n * 2) a) (suc (n * 2)) (n * 2) e 0 (λ q. omega arith)
        ∙ get_or-set_same t (n * 2) a 0 (omega arith)

    more-end : get_or more (n * 2 + 1) 0 ≡ e
    more-end =
        let l = length-sets t (n * 2) (a ∷ []) in
        rw (add-one (n * 2)) (get_or-set_same (set t (n * 2) a) (suc (n * 2)) e 0 (omega arith))

    pub parts_more : (s : List ℕ) → parts_in s (sets t (n * 2) (a ∷ e ∷ [])) (n + 1) ≡ parts_in s t n
        ++ (between s a e ∷ [])
    unfolding parts_in
    parts_more s =
        rw (add-one n) (tab_snoc (part_at s more) n
        ∙ ap₂ (λ (l : List (List ℕ)) (p : List ℕ). l ++ (p ∷ []))
        (parts_ext s more t n (λ i k. (more-before (i * 2) (omega arith), more-before (i * 2 + 1) (omega arith))))
        (ap₂ (between s) more-start more-end))

    pub parts-within_more : (s : List ℕ) → Parts s t n → a ≤ e → e ≤ length s
        → Parts s (sets t (n * 2) (a ∷ e ∷ [])) (n + 1)
    parts-within_more s p h k =
        record {
          room = omega (arith, length-sets t (n * 2) (a ∷ e ∷ []));
          within = λ i q. either (ltb i n)
              (λ u. let r = ltb-true i n u in let w = p.within i r in
              rw (more-before (i * 2) (omega arith), more-before (i * 2 + 1) (omega arith)) w)
              (λ u. let r = ltb-false i n u in let z : i ≡ n = omega arith in rw (z, more-start, more-end) (h, k));
        }

-- a table with no parts
pub no-parts : (s t : List ℕ) → parts_in s t 0 ≡ []
unfolding parts_in
no-parts s t = refl

pub parts_none : (s t : List ℕ) → Parts s t 0
parts_none s t = record { room = omega arith; within = λ i h. absurd (omega arith) }

-- ---- a part of a part is a part of the whole
pub between-between : (s : List ℕ) (b z a e : ℕ) → a ≤ e → e ≤ length (between s b z)
    → between (between s b z) a e ≡ between s (b + a) (b + e)
between-between s b z a e h k =
    let l = length-take (z - b) (drop b s) in
    let d : (b + e) - (b + a) ≡ e - a = omega arith in
    rw (d, drop-take (z - b) a (drop b s), drop-drop a b s)
    (take-take (e - a) (z - b - a) (drop (b + a) s) (omega arith))

-- ---- the parts at a path, field by field: those in the fields from a place on
abbrev pub rest_at : Mode → List ℕ → List ℕ → ℕ → List (List ℕ)
rest_at mode path s at = in_each (at_path mode (drop 1 path)) (values_along (get_or path 0 0) s (walk_at mode s at))

-- those in one field
abbrev pub field_parts : Mode → List ℕ → List ℕ → Field → List (List ℕ)
field_parts mode path s f = cond (is_bytes (get_or path 0 0) f) (at_path mode (drop 1 path) (value_in s f)) []

pub path-none : (mode : Mode) (path s : List ℕ) → length path ≡ 0 → at_path mode path s ≡ s ∷ []
unfolding at_path
path-none mode [] s h = refl
path-none mode (n ∷ ns) s h = absurd (omega arith)

pub path-all : (mode : Mode) (path s : List ℕ) → 1 ≤ length path → rest_at mode path s 0 ≡ at_path mode path s
unfolding at_path
path-all mode [] s h = absurd (omega arith)
path-all mode (n ∷ ns) s h = refl

pub path-field : (mode : Mode) (path s : List ℕ) (at : ℕ) (f : Field) → Ok (Some f) ≡ read_field mode s at
    → rest_at mode path s at ≡ field_parts mode path s f ++ rest_at mode path s f.next
path-field mode path s at f h =
    ap (λ (w : Fields). in_each (at_path mode (drop 1 path)) (values_along (get_or path 0 0) s w))
    (walk_on mode s at (Ok (Some f)) h)
    ∙ either (is_bytes (get_or path 0 0) f) (λ t. simp t) (λ t. simp t)

pub path-end : (mode : Mode) (path s : List ℕ) (at : ℕ) → Ok None ≡ read_field mode s at → rest_at mode path s at ≡ []
path-end mode path s at h = ap (λ (w : Fields). in_each (at_path mode (drop 1 path)) (values_along (get_or path 0 0) s w))
    (walk_on mode s at (Ok None) h)

pub path-refused : (mode : Mode) (path s : List ℕ) (at : ℕ) (why : WireError) → Err why ≡ read_field mode s at
    → rest_at mode path s at ≡ []
path-refused mode path s at why h = ap (λ (w : Fields). in_each (at_path mode (drop 1 path))
    (values_along (get_or path 0 0) s w))
    (walk_on mode s at (Err why) h)

pub path-done : (mode : Mode) (path s : List ℕ) (at : ℕ) → length s ≤ at → rest_at mode path s at ≡ []
path-done mode path s at h = ap (λ (w : Fields). in_each (at_path mode (drop 1 path)) (values_along (get_or path 0 0) s w))
    (walk_end mode s at h)

-- ---- each once
module _ (earlier is : List (List ℕ)) (i : List ℕ) where
  pub once-again : among i earlier ≡ true → once_after earlier (i ∷ is) ≡ once_after earlier is
  unfolding once_after
  once-again h = simp h

  pub once-new : among i earlier ≡ false → once_after earlier (i ∷ is) ≡ i ∷ once_after (earlier ++ (i ∷ [])) is
  unfolding once_after
  once-new h = simp h

snoc_append : (l r : List (List ℕ)) (i : List ℕ) → (l ++ (i ∷ [])) ++ r ≡ l ++ (i ∷ r)
snoc_append l r i = append_assoc l (i ∷ []) r

after-distinct : (earlier is : List (List ℕ)) → distinct earlier ≡ true → distinct (earlier ++ once_after earlier is)
    ≡ true
unfolding once_after
after-distinct earlier [] h = rw append-nil h
after-distinct earlier (i ∷ is) h =
    either (among i earlier) (λ t. rw (once-again earlier is i t) (after-distinct earlier is h))
    (λ t. rw (once-new earlier is i t, ← (snoc_append earlier (once_after (earlier ++ (i ∷ [])) is) i))
    (after-distinct (earlier ++ (i ∷ [])) is (distinct_snoc earlier i h t)))

-- no part twice
pub once-distinct : (is : List (List ℕ)) → distinct (once is) ≡ true
unfolding distinct
once-distinct is = after-distinct [] is refl

seen : (x i : List ℕ) (earlier : List (List ℕ)) → among i earlier ≡ true → same_bytes i x ≡ true → among x earlier ≡ true
seen x i earlier h k = rw (sym (same_equal i x k)) h

or-seen : (a b c : Bool) → (b ≡ true → a ≡ true) → (a || c) ≡ (a || (b || c))
or-seen true b c h = refl
or-seen false true c h = clash (let k = h refl in cc)
or-seen false false c h = refl

or_snoc : (a b c : Bool) → ((a || (b || false)) || c) ≡ (a || (b || c))
or_snoc true b c = refl
or_snoc false true c = refl
or_snoc false false c = refl

or-none : (a : Bool) → a ≡ (a || false)
or-none true = refl
or-none false = refl

after-among : (x : List ℕ) (earlier is : List (List ℕ))
    → among x (earlier ++ once_after earlier is) ≡ (among x earlier || among x is)
unfolding once_after among
after-among x earlier [] = rw append-nil (or-none (among x earlier))
after-among x earlier (i ∷ is) =
    either (among i earlier)
    (λ t. rw (once-again earlier is i t) (after-among x earlier is
    ∙ or-seen (among x earlier) (same_bytes i x) (among x is) (seen x i earlier t)))
    (λ t. rw (once-new earlier is i t, ← (snoc_append earlier (once_after (earlier ++ (i ∷ [])) is) i))
    (after-among x (earlier ++ (i ∷ [])) is
    ∙ ap (λ (b : Bool). b || among x is) (among-append x earlier (i ∷ []))
    ∙ or_snoc (among x earlier) (same_bytes i x) (among x is)))

-- and no part missing
pub once-among : (x : List ℕ) (is : List (List ℕ)) → among x (once is) ≡ among x is
unfolding among
once-among x is = after-among x [] is

-- parts that are each there once stay as they are
once-from : (earlier is : List (List ℕ)) → distinct (earlier ++ is) ≡ true → once_after earlier is ≡ is
unfolding once_after
once-from earlier [] d = refl
once-from earlier (i ∷ is) d =
    let e : distinct ((earlier ++ (i ∷ [])) ++ is) ≡ true = ap distinct (append_assoc earlier (i ∷ []) is) ∙ d in
    once-new earlier is i (distinct_middle earlier is i d)
    ∙ ap (λ (l : List (List ℕ)). i ∷ l) (once-from (earlier ++ (i ∷ [])) is e)

pub once-same : (is : List (List ℕ)) → distinct is ≡ true → once is ≡ is
once-same is d = once-from [] is d

-- ---- those that are not among others
-- without none, all
pub without-none : (is : List (List ℕ)) → without [] is ≡ is
unfolding without among
without-none [] = refl
without-none (i ∷ is) = ap (λ (l : List (List ℕ)). i ∷ l) (without-none is)

-- of some, those and no others
pub without-among : (others is : List (List ℕ)) (x : List ℕ)
    → among x (without others is) ≡ (among x is && not (among x others))
unfolding without among
without-among others [] x = refl
without-among others (i ∷ is) x =
    let r = without-among others is x in
    either (same_bytes i x)
    (λ t.
    let e : i ≡ x = same_equal i x t in
    either (among x others) (λ u. rw (e, u, same_self x) (rw u at r ∙ and-false (among x is)))
    (λ u. rw (e, u, same_self x)))
    (λ t. either (among i others) (λ u. rw (u, t) r) (λ u. rw (u, t) r))

pub without-distinct : (others is : List (List ℕ)) → distinct is ≡ true → distinct (without others is) ≡ true
unfolding without distinct
without-distinct others [] d = refl
without-distinct others (i ∷ is) d =
    let b = both (not (among i is)) (distinct is) d in
    let r = without-distinct others is b.1 in
    either (among i others) (λ t. rw t r)
    (λ t. either (among i is) (λ u. clash (let z = rw u at b.0 in cc))
    (λ u. rw (t, without-among others is i, u, r)))

-- ---- how many fit
module _ (n room : ℕ) (m : List ℕ) (ms : List (List ℕ)) where
  pub fitting-more : length (bytes_field n m) ≤ room
      → fitting n room (m ∷ ms) ≡ 1 + fitting n (room - length (bytes_field n m)) ms
  unfolding fitting
  fitting-more h = simp (le-leb _ _ h)

  pub fitting-stop : room < length (bytes_field n m) → fitting n room (m ∷ ms) ≡ 0
  unfolding fitting
  fitting-stop h = simp (lt-leb _ _ h)

pub fitting-le : (n room : ℕ) (ms : List (List ℕ)) → fitting n room ms ≤ length ms
unfolding fitting
fitting-le n room [] = omega arith
fitting-le n room (m ∷ ms) =
    either (leb (length (bytes_field n m)) room) (λ t. let k = fitting-le n (room - length (bytes_field n m)) ms in
    simp t (omega arith)) (λ t. simp t (omega arith))

-- the fields of k parts after the first
fields-more : (n k : ℕ) (m : List ℕ) (ms : List (List ℕ)) → length (repeated (bytes_field n) (take (1 + k) (m ∷ ms)))
    ≡ length (bytes_field n m) + length (repeated (bytes_field n) (take k ms))
fields-more n k m ms = rw (one-add k) (length-append (bytes_field n m) (repeated (bytes_field n) (take k ms)))

-- those that fit have the room
pub fitting-room : (n room : ℕ) (ms : List (List ℕ))
    → length (repeated (bytes_field n) (take (fitting n room ms) ms)) ≤ room
unfolding fitting
fitting-room n room [] = omega arith
fitting-room n room (m ∷ ms) =
    either (leb (length (bytes_field n m)) room)
    (λ t. let k = leb-true _ _ t in
    let f = fitting n (room - length (bytes_field n m)) ms in
    let r = fitting-room n (room - length (bytes_field n m)) ms in
    let l = fields-more n f m ms in
    rw (fitting-more n room m ms k) (omega arith))
    (λ t. rw (fitting-stop n room m ms (leb-false _ _ t)) (omega arith))

-- and one more does not fit
pub fitting-next : (n room : ℕ) (ms : List (List ℕ)) → fitting n room ms < length ms
    → room < length (repeated (bytes_field n) (take (fitting n room ms + 1) ms))
unfolding fitting
fitting-next n room [] h = absurd (omega arith)
fitting-next n room (m ∷ ms) h =
    either (leb (length (bytes_field n m)) room)
    (λ t. let k = leb-true _ _ t in
    let f = fitting n (room - length (bytes_field n m)) ms in
    let g : 1 + f < length (m ∷ ms) = rw (fitting-more n room m ms k) at h in
    let r = fitting-next n (room - length (bytes_field n m)) ms (omega arith) in
    let e : 1 + f + 1 ≡ 1 + (f + 1) = omega arith in
    let l = fields-more n (f + 1) m ms in
    rw (fitting-more n room m ms k, e) (omega arith))
    (λ t. let k = leb-false _ _ t in let l = fields-more n 0 m ms in rw (fitting-stop n room m ms k) (omega arith))

-- ---- a body has no more parts at a path than records
along-counted : (mode : Mode) (k : Kind) (m : ℕ) (s : List ℕ) (g : List ℕ → List (List ℕ))
    → ((f : Field) (x : ℕ) → role_count (counted mode) s f (role_of k m 2) ≡ Ok x → length (g (value_in s f)) ≤ x)
    → (w : Fields) (r : ℕ) → count_along (counted mode) k s w ≡ Ok r → length (in_each g (values_along m s w)) ≤ r
along-counted mode k m s g h end r e = omega arith
along-counted mode k m s g h (refused why) r e = clash (cc)
along-counted mode k m s g h (f then w) r e =
    let t = then-fits (role_count (counted mode) s f (role_of k f.field f.wire_type))
    (count_along (counted mode) k s w) r e in
    let i = along-counted mode k m s g h w t.1 t.3 in
    let z = t.4 in
    either (is_bytes m f)
    (λ u. let b = both _ _ u in
    let q : role_of k f.field f.wire_type ≡ role_of k m 2 =
    ap₂ (role_of k) (eqb-true _ _ b.1) (eqb-true _ _ b.0) in
    let y = h f t.0 (sym (ap (role_count (counted mode) s f) q) ∙ t.2) in
    let l = length-append (g (value_in s f)) (in_each g (values_along m s w)) in
    simp u (omega arith))
    (λ u. simp u (omega arith))

-- the field m leads into submessages, or holds the parts themselves
pub path-sub : (mode : Mode) (k j : Kind) (form : Form) (m : ℕ) (ns : List ℕ) → role_of k m 2 ≡ Sub j form
    → ((p : List ℕ) (x : ℕ) → counted mode j p ≡ Ok x → length (at_path mode ns p) ≤ x) → (s : List ℕ) (r : ℕ)
    → counted mode k s ≡ Ok r → length (at_path mode (m ∷ ns) s) ≤ r
unfolding at_path
path-sub mode k j form m ns q h s r e =
    along-counted mode k m s (at_path mode ns)
    (λ f x c. let t = plus-fits (own_of j) x (counted mode j (value_in s f)) (sym (ap (role_count (counted mode) s f) q)
    ∙ c) in
    let y = h (value_in s f) t.0 t.1 in let z = t.2 in omega arith)
    (fields_of mode s) r (sym (count_along_lem mode k s) ∙ e)

pub path-id : (mode : Mode) (k : Kind) (m : ℕ) → role_of k m 2 ≡ MessageId → (s : List ℕ) (r : ℕ)
    → counted mode k s ≡ Ok r
    → length (at_path mode (m ∷ []) s) ≤ r
unfolding at_path
path-id mode k m q s r e =
    along-counted mode k m s (at_path mode [])
    (λ f x c. let z : Ok 1 ≡ Ok x = sym (ap (role_count (counted mode) s f) q)
    ∙ c in let y : x ≡ 1 = cc in omega arith)
    (fields_of mode s) r (sym (count_along_lem mode k s) ∙ e)

-- the ids of IHAVEs and of IWANTs
pub ihave-counted : (d : Dialect) (s : List ℕ) (r : ℕ) → counted d.mode (kind.Rpc d.edition) s ≡ Ok r
    → length (at_path d.mode (3 ∷ 1 ∷ 2 ∷ []) s) ≤ r
unfolding role_of
ihave-counted d =
    path-sub d.mode (kind.Rpc d.edition) (kind.ControlMessage d.edition) Merged 3 (1 ∷ 2 ∷ []) refl
    (path-sub d.mode (kind.ControlMessage d.edition) kind.ControlIHave Anew 1 (2 ∷ []) refl
    (path-id d.mode kind.ControlIHave 2 refl))

pub iwant-counted : (d : Dialect) (s : List ℕ) (r : ℕ) → counted d.mode (kind.Rpc d.edition) s ≡ Ok r
    → length (at_path d.mode (3 ∷ 2 ∷ 1 ∷ []) s) ≤ r
unfolding role_of
iwant-counted d =
    path-sub d.mode (kind.Rpc d.edition) (kind.ControlMessage d.edition) Merged 3 (2 ∷ 1 ∷ []) refl
    (path-sub d.mode (kind.ControlMessage d.edition) kind.ControlIWant Anew 2 (1 ∷ []) refl
    (path-id d.mode kind.ControlIWant 1 refl))

pub path-counted : (d : Dialect) (s : List ℕ) (r : ℕ) → counted d.mode (kind.Rpc d.edition) s ≡ Ok r
    → (length (at_path d.mode (3 ∷ 1 ∷ 2 ∷ []) s) ≤ r) × (length (at_path d.mode (3 ∷ 2 ∷ 1 ∷ []) s) ≤ r)
path-counted d s r e = (ihave-counted d s r e, iwant-counted d s r e)

pub path-accepted : (d : Dialect) (s : List ℕ) → accept_of d s ≡ Ok tt
    → (length (at_path d.mode (3 ∷ 1 ∷ 2 ∷ []) s) ≤ 512)
    × (length (at_path d.mode (3 ∷ 2 ∷ 1 ∷ []) s) ≤ 512)
path-accepted d s h = let t = accept_records d s h in let p = path-counted d s t.0 t.1 in let m = t.2 in
    (omega arith, omega arith)

-- and of IDONTWANTs, which only 1.2 has
pub idontwant-counted : (mode : Mode) (s : List ℕ) (r : ℕ) → counted mode (kind.Rpc V12) s ≡ Ok r
    → length (at_path mode (3 ∷ 5 ∷ 1 ∷ []) s) ≤ r
unfolding role_of
idontwant-counted mode =
    path-sub mode (kind.Rpc V12) (kind.ControlMessage V12) Merged 3 (5 ∷ 1 ∷ []) refl
    (path-sub mode (kind.ControlMessage V12) kind.ControlIDontWant Anew 5 (1 ∷ []) refl
    (path-id mode kind.ControlIDontWant 1 refl))

pub idontwant-accepted : (mode : Mode) (s : List ℕ) → accept_of (spoken mode V12) s ≡ Ok tt
    → length (at_path mode (3 ∷ 5 ∷ 1 ∷ []) s) ≤ 512
idontwant-accepted mode s h =
    let t = accept_records (spoken mode V12) s h in
    let p = idontwant-counted mode s t.0 t.1 in let m = t.2 in omega arith
