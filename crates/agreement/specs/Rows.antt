-- The messages that a gateway got, beside the ids that it has seen and the messages that it holds: one row for each,
-- the oldest first.
use Rattle.std.specs.Prelude.{ℕ, suc, ◌≤◌, ◌<◌, ◌≡◌, Bool, ◌&&◌, ◌||◌, List, [], ◌∷◌, ◌++◌, length, eqb}
use Rattle.std.proofs.Math.Path.{refl, ap₂}
use Rattle.std.proofs.Common.{sym, ap, subst, ◌∙◌, arith, lt-ltb}
use Rattle.std.proofs.Math.Bool.{true, false, or-true, and-false}
use Rattle.std.proofs.lemmas.Bool.{lt-leb}
use Rattle.basis.specs.Dialect.{mode_of}
use Rattle.basis.specs.Cases.{either, clash}
use Rattle.rows.specs.Ids.{same_bytes, among}
use Rattle.rows.specs.IdsLaws.{same_self, same_equal}
use Rattle.ids.specs.Ids.{mark}
use Rattle.admission.specs.Flags.{allows_unsigned}
use Rattle.admission.specs.Admission.{is_signed, gives_id}
use Rattle.admission.specs.AdmissionLaws.{gives-signed, one-id}
use Rattle.seen.specs.Entries.{Entry, holds, live}
use Rattle.mcache.specs.Messages.{Cached, held, shift}
use Rattle.node.specs.Gateway.{Gateway, marked, form_of, knows}
use Rattle.agreement.specs.Premises.{MessageSet}

-- a message got, its marked id as it is seen and the message as it is cached: the expiry is at least `least`, the
-- window at most `most`
pub record Row (flags least most : ℕ) (m : List ℕ) (e : Entry) (c : Cached) : Type 0 where
  pub own : gives_id flags m c.id ≡ true
  pub seen : e.id ≡ form_of (mode_of flags) m c.id
  pub message : c.message ≡ m
  pub lasts : least ≤ e.expiry
  pub young : c.window ≤ most

pub data Rows (flags least most : ℕ) : List (List ℕ) → List Entry → List Cached → Type 0 where
  none : Rows flags least most [] [] []
  row : {m : List ℕ} {e : Entry} {c : Cached} {ms : List (List ℕ)} {es : List Entry} {cs : List Cached}
      → Row flags least most m e c → Rows flags least most ms es cs → Rows flags least most (m ∷ ms) (e ∷ es) (c ∷ cs)

pub rows_snoc : {flags least most : ℕ} {m : List ℕ} {e : Entry} {c : Cached} {ms : List (List ℕ)} {es : List Entry}
    {cs : List Cached}
    → Rows flags least most ms es cs → Row flags least most m e c
    → Rows flags least most (ms ++ (m ∷ [])) (es ++ (e ∷ [])) (cs ++ (c ∷ []))
rows_snoc none r = row r none
rows_snoc (row x rs) r = row x (rows_snoc rs r)

-- rows under some flags are rows under flags that are the same
pub rows_under : {flags other least most : ℕ} {ms : List (List ℕ)} {es : List Entry} {cs : List Cached} → flags ≡ other
    → Rows flags least most ms es cs → Rows other least most ms es cs
rows_under {least = least} {most = most} {ms} {es} {cs} e rs = subst (λ (f : ℕ). Rows f least most ms es cs) e rs

pub rows-lengths : {flags least most : ℕ} {ms : List (List ℕ)} {es : List Entry} {cs : List Cached}
    → Rows flags least most ms es cs → (length es ≡ length ms) × (length cs ≡ length ms)
rows-lengths none = (refl, refl)
rows-lengths (row x rs) = let l = rows-lengths rs in (ap suc l.0, ap suc l.1)

-- ---- a clean-up drops nothing before the least expiry
pub rows-live : {flags least most : ℕ} {ms : List (List ℕ)} {es : List Entry} {cs : List Cached} (at : ℕ) → at < least
    → Rows flags least most ms es cs → live at es ≡ es
unfolding live
rows-live at h none = refl
rows-live at h (row {m} {e} {c} {ms} {es} {cs} x rs) = let l = x.lasts in rw (lt-leb e.expiry at (omega arith))

-- ---- a shift drops nothing before the windows are used up
pub rows-shift : {flags least most : ℕ} {ms : List (List ℕ)} {es : List Entry} {cs : List Cached} (history : ℕ)
    → suc most < history → Rows flags least most ms es cs
    → Rows flags least (suc most) ms es (shift history cs)
unfolding shift
rows-shift history h none = none
rows-shift history h (row {m} {e} {c} {ms} {es} {cs} x rs) =
    let y = x.young in
    rw (lt-ltb (suc c.window) history (omega arith))
    (row {c = record { id = c.id; message = c.message; window = suc c.window }}
    (record { own = x.own; seen = x.seen; message = x.message; lasts = x.lasts; young = omega arith })
    (rows-shift history h rs))

-- ---- an id counts as held by a row exactly where it is the row's: a message that was taken without a signature was
-- allowed, and then either form counts
form-known : (flags : ℕ) (k i id : List ℕ) (signed : Bool) → is_signed (mode_of flags) k ≡ signed
    → gives_id flags k i ≡ true
    → (same_bytes (marked signed i) (marked true id)
    || (allows_unsigned flags && same_bytes (marked signed i) (marked false id))) ≡ same_bytes i id
unfolding same_bytes
form-known flags k i id true e own =
    either (same_bytes i id) (λ t. rw t) (λ t. rw t (and-false (allows_unsigned flags)))
form-known flags k i id false e own =
    either (allows_unsigned flags) (λ t. rw t) (λ t. clash (let z = gives-signed flags k i own t in cc))

-- the tests of one row and of the others, both forms
row-tests : (u a b c d : Bool) → ((a || b) || (u && (c || d))) ≡ ((a || (u && c)) || (b || (u && d)))
row-tests u true b c d = refl
row-tests u false true c d = sym (or-true (u && c))
row-tests true false false c d = refl
row-tests false false false c d = refl

-- ---- the ids of a set's messages are the same exactly where the messages are
module _ {flags : ℕ} {set : List (List ℕ)} (ms : MessageSet flags set) (m id : List ℕ) (inside : among m set ≡ true)
    (own : gives_id flags m id ≡ true) where
  same-ids : (k i : List ℕ) → among k set ≡ true → gives_id flags k i ≡ true → same_bytes i id ≡ same_bytes k m
  same-ids k i a g =
      either (same_bytes k m)
      (λ t. let e = same_equal k m t in let f = one-id flags m i id (rw e at g) own in rw (t, f) (same_self id))
      (λ t. either (same_bytes i id)
      (λ u.
      let f : gives_id flags k id ≡ true = rw (← same_equal i id u) g in
      let e : k ≡ m = ms.ids-differ k m id a inside f own in
      clash (let z = rw e at t in let y = same_self m in cc))
      (λ u. u ∙ sym t))

  -- and so are their marked forms
  same_forms : (k i : List ℕ) → among k set ≡ true → gives_id flags k i ≡ true
      → same_bytes (form_of (mode_of flags) k i) (form_of (mode_of flags) m id) ≡ same_bytes k m
  unfolding same_bytes
  same_forms k i a g =
      let s = same-ids k i a g in
      either (same_bytes k m)
      (λ t.
      let e = same_equal k m t in
      let f : i ≡ id = one-id flags m i id (rw e at g) own in
      rw (t, e, f) (same_self (form_of (mode_of flags) m id)))
      (λ t. rw (s, t) (and-false (eqb (mark (is_signed (mode_of flags) k)) (mark (is_signed (mode_of flags) m)))))

  -- a message is got exactly where its marked id is seen, and exactly where it is cached
  pub rows-held : {least most : ℕ} {got : List (List ℕ)} {es : List Entry} {cs : List Cached}
      → ((k : List ℕ) → among k got ≡ true → among k set ≡ true)
      → Rows flags least most got es cs → (holds (form_of (mode_of flags) m id) es ≡ among m got)
      × (held id cs ≡ among m got)
  unfolding holds held among
  rows-held from none = (refl, refl)
  rows-held from (row {m = k} {e} {c} {ms = got} {es} {cs} x rs) =
      let r = rows-held (λ j t. from j (rw t (or-true (same_bytes k j)))) rs in
      let a = from k (simp (same_self k)) in (
        rw x.seen (ap₂ (λ (a b : Bool). a || b) (same_forms k c.id a x.own) r.0),
        ap₂ (λ (a b : Bool). a || b) (same-ids k c.id a x.own) r.1,
      )

  -- and exactly where its id counts as held
  abbrev known_by : List Entry → Bool
  known_by es = holds (marked true id) es || (allows_unsigned flags && holds (marked false id) es)

  rows-by : {least most : ℕ} {got : List (List ℕ)} {es : List Entry} {cs : List Cached}
      → ((k : List ℕ) → among k got ≡ true → among k set ≡ true)
      → Rows flags least most got es cs → known_by es ≡ among m got
  unfolding holds among
  rows-by from none = and-false (allows_unsigned flags)
  rows-by from (row {m = k} {e} {c} {ms = got} {es} {cs} x rs) =
      let r = rows-by (λ j t. from j (rw t (or-true (same_bytes k j)))) rs in
      let a = from k (simp (same_self k)) in
      let f = form-known flags k c.id id (is_signed (mode_of flags) k) refl x.own ∙ same-ids k c.id a x.own in
      row-tests (allows_unsigned flags) (same_bytes e.id (marked true id)) (holds (marked true id) es)
      (same_bytes e.id (marked false id)) (holds (marked false id) es)
      ∙ rw x.seen (ap₂ (λ (a b : Bool). a || b) f r)

  pub rows-known : {least most : ℕ} {got : List (List ℕ)} {cs : List Cached} (g : Gateway) → g.flags ≡ flags
      → ((k : List ℕ) → among k got ≡ true → among k set ≡ true)
      → Rows flags least most got g.seen cs → knows g id ≡ among m got
  unfolding knows
  rows-known g e from rs = rw e (rows-by from rs)
