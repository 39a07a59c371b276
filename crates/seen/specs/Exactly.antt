-- Each refusal of the seen part comes exactly where the scope's table has it, by the scope's numbers, for every call
-- that tests the lent state; and what stands beside a number. A call that is not refused tells what the entries say.
use Rattle.std.specs.Prelude.{Option, Some, None, Result, Ok, Err, ℕ, ◌/◌, ◌%◌, ◌≤◌, ◌<◌, ◌≡◌, refl, List, [], ◌∷◌, true, false, cond, ◌↔◌, ◌⊎◌, Bool, length, get_or, leb, ltb, eqb}
use Rattle.std.proofs.Common.{ap, ◌∙◌, inl, inr, arith, eqb-true, leb-true, leb-false, ltb-true, ltb-false}
use Rattle.std.proofs.lemmas.Bool.{eqb-false}
use Rattle.std.specs.Result.{result_and}
use Rattle.basis.specs.declared.Fault.{Fault}
use Rattle.basis.specs.declared.Fault.TheVariants as fault
use Rattle.basis.specs.declared.Told.{Told}
use Rattle.basis.specs.Refusals.{bad_setting, bad-store, malformed, too_long-id}
use Rattle.basis.specs.Told.{told, done, values_of, fault_told, fine_told}
use Rattle.basis.specs.Cases.{either, clash}
use Rattle.rows.specs.Rows.{place_of}
use Rattle.seen.specs.declared.SeenCache.{SeenCache}
use Rattle.seen.specs.declared.Entry.{Entry}
use Rattle.seen.specs.declared.Entry.TheVariants.{Fresh, Held}
use Rattle.seen.specs.declared.SeenError.{SeenError}
use Rattle.seen.specs.declared.SeenError.TheVariants as error
use Rattle.seen.specs.Told.{insert_told, contains_told, gc_told, next_told}
use Rattle.seen.specs.Entries.{holds, live, front_expiry}
use Rattle.seen.specs.State.{id_size, max_ids, ring_of, well_formed, entries_in}
use Rattle.seen.specs.Calls.{cap_of, whole_rows, lent_of, held_in, cleaned, on_lent, insert_answer}
use Rattle.seen.specs.Calls.{contains_answer, gc_answer, next_answer}
use Rattle.seen.specs.WellFormed.{WellFormed}
use Rattle.seen.specs.Laws.{well_formed-exactly, insert_says, contains_says, gc_says, next-says}

-- ---- the calls that test the lent state, and what each tells
pub data Call : Type 0 where
  of_lent : Call
  of_insert : (max : ℕ) (id : List ℕ) → Call
  of_contains : (id : List ℕ) → Call
  of_gc : (at : ℕ) → Call
  of_next : Call

abbrev pub told_of : Call → SeenCache → List ℕ → Told
told_of of_lent c st = fine_told (lent_of c st)
told_of (of_insert max id) c st = insert_told (insert_answer max c st id)
told_of (of_contains id) c st = contains_told (contains_answer c st id)
told_of (of_gc at) c st = gc_told (gc_answer at c st)
told_of of_next c st = next_told (next_answer c st)

-- ---- the scope's table, for the seen part
-- the max that a call is given; 0 for a call that is given none
abbrev pub max_of : Call → ℕ
max_of of_lent = 0
max_of (of_insert max id) = max
max_of (of_contains id) = 0
max_of (of_gc at) = 0
max_of of_next = 0

-- and the id; no bytes for a call that is given none
abbrev pub id_of : Call → List ℕ
id_of of_lent = []
id_of (of_insert max id) = id
id_of (of_contains id) = id
id_of (of_gc at) = []
id_of of_next = []

-- 40: a seen max above the store's length / 129, rounded down
abbrev pub BadSetting : Call → List ℕ → Type 0
BadSetting k st = length st / id_size < max_of k

-- 41: not whole rows, or above 256
abbrev pub BadStore : List ℕ → Type 0
BadStore st = (length st % id_size ≡ 0 → ⊥) ⊎ (max_ids < length st / id_size)

-- 33: an id above 129 bytes
abbrev pub TooLong : Call → Type 0
TooLong k = id_size < length (id_of k)

-- ---- by cases: in which case a call tells what
data Tells (k : Call) (c : SeenCache) (st : List ℕ) : Told → Type 0 where
  is_setting : BadSetting k st → Tells k c st (told bad_setting [])
  is_store : (BadSetting k st → ⊥) → BadStore st → Tells k c st (told bad-store [])
  is-malformed : (BadSetting k st → ⊥) → (BadStore st → ⊥) → (WellFormed c st → ⊥) → Tells k c st (told malformed [])
  is-long : (BadSetting k st → ⊥) → WellFormed c st → TooLong k → Tells k c st (told too_long-id (length (id_of k) ∷ []))
  is-done : (BadSetting k st → ⊥) → WellFormed c st → (TooLong k → ⊥) → (values : List ℕ) → Tells k c st (done values)

-- the test of the store's length
bad-part : (st : List ℕ) → whole_rows st ≡ false → BadStore st
unfolding whole_rows cap_of
bad-part st h =
    either (eqb (length st % id_size) 0)
    (λ t. either (leb (length st / id_size) max_ids) (λ u. clash (let z = simp (t, u) at h in cc))
    (λ u. inr (leb-false (length st / id_size) max_ids u)))
    (λ t. inl (eqb-false (length st % id_size) 0 t))

right_store : (st : List ℕ) → whole_rows st ≡ true → BadStore st → ⊥
unfolding whole_rows cap_of
right_store st h (inl n) =
    either (eqb (length st % id_size) 0) (λ t. n (eqb-true (length st % id_size) 0 t))
    (λ t. clash (let z = simp t at h in cc))
right_store st h (inr n) =
    either (eqb (length st % id_size) 0)
    (λ t. either (leb (length st / id_size) max_ids)
    (λ u. let l = leb-true (length st / id_size) max_ids u in omega arith)
    (λ u. clash (let z = simp (t, u) at h in cc)))
    (λ t. clash (let z = simp t at h in cc))

fine-store : (c : SeenCache) (st : List ℕ) → WellFormed c st → BadStore st → ⊥
unfolding cap_of
fine-store c st w (inl n) = n (let e = w.whole in omega arith)
fine-store c st w (inr n) = let e = w.few in omega arith

-- what the lent state's test says
says-store : (c : SeenCache) (st : List ℕ) → lent_of c st ≡ Err fault.BadStore → BadStore st
unfolding lent_of
says-store c st e =
    either (whole_rows st)
    (λ t. either (well_formed (cap_of st) c st) (λ u. clash (let z = simp (t, u) at e in cc))
    (λ u. clash (let z = simp (t, u) at e in cc)))
    (λ t. bad-part st t)

says-malformed : (c : SeenCache) (st : List ℕ) → lent_of c st ≡ Err fault.Malformed → BadStore st → ⊥
unfolding lent_of
says-malformed c st e =
    either (whole_rows st) (λ t. right_store st t) (λ t. clash (let z = simp t at e in cc))

fine-setting : (c : SeenCache) (st : List ℕ) → lent_of c st ≡ Err fault.BadSetting → ⊥
unfolding lent_of
fine-setting c st e =
    either (whole_rows st)
    (λ t. either (well_formed (cap_of st) c st) (λ u. clash (let z = simp (t, u) at e in cc))
    (λ u. clash (let z = simp (t, u) at e in cc)))
    (λ t. clash (let z = simp t at e in cc))

-- a call that tells of the lent state what its test says
through-by : (k : Call) (c : SeenCache) (st : List ℕ) (f : Result (Unit {0}) Fault → Told) → (BadSetting k st → ⊥)
    → ((e : Fault) → f (Err e) ≡ fault_told e)
    → (WellFormed c st → Tells k c st (f (Ok tt))) → (l : Result (Unit {0}) Fault) → lent_of c st ≡ l
    → Tells k c st (f l)
through-by k c st f n m g (Ok _) e = g ((well_formed-exactly c st).0 e)
through-by k c st f n m g (Err fault.BadSetting) e = absurd (fine-setting c st e)
through-by k c st f n m g (Err fault.BadStore) e = rw (m fault.BadStore) (is_store n (says-store c st e))
through-by k c st f n m g (Err fault.Malformed) e =
    rw (m fault.Malformed)
    (is-malformed n (says-malformed c st e) (λ w. clash (let z = (well_formed-exactly c st).1 w in cc)))

through : (k : Call) (c : SeenCache) (st : List ℕ) (f : Result (Unit {0}) Fault → Told) → (BadSetting k st → ⊥)
    → ((e : Fault) → f (Err e) ≡ fault_told e) → (WellFormed c st → Tells k c st (f (Ok tt)))
    → Tells k c st (f (lent_of c st))
through k c st f n m g = through-by k c st f n m g (lent_of c st) refl

tells : (k : Call) (c : SeenCache) (st : List ℕ) → Tells k c st (told_of k c st)
unfolding insert_answer contains_answer gc_answer next_answer cap_of
tells of_lent c st =
    through of_lent c st fine_told (λ h. omega arith) (λ _. refl) (λ w. is-done (λ h. omega arith) w (λ h. omega arith) [])
tells (of_insert max id) c st =
    let inner : Result Entry SeenError =
    cond (ltb id_size (length id)) (Err (error.TooLong (length id)))
    (Ok (cond (held_in (length st / id_size) c st id) Held Fresh)) in
    either (ltb (length st / id_size) max) (λ t. rw t (is_setting (ltb-true (length st / id_size) max t)))
    (λ t. let l = ltb-false (length st / id_size) max t in
    rw t
    (through (of_insert max id) c st (λ l. insert_told (on_lent l inner)) (λ h. omega arith) (λ _. refl)
    (λ w. either (ltb id_size (length id)) (λ u. rw u (is-long (λ h. omega arith) w (ltb-true id_size (length id) u)))
    (λ u. let m = ltb-false id_size (length id) u in
    either (held_in (length st / id_size) c st id)
    (λ v. rw (u, v) (is-done (λ h. omega arith) w (λ h. omega arith) (0 ∷ [])))
    (λ v. rw (u, v) (is-done (λ h. omega arith) w (λ h. omega arith) (1 ∷ [])))))))
tells (of_contains id) c st =
    let inner : Result Bool SeenError =
    cond (ltb id_size (length id)) (Err (error.TooLong (length id))) (Ok (held_in (length st / id_size) c st id)) in
    through (of_contains id) c st (λ l. contains_told (on_lent l inner)) (λ h. omega arith) (λ _. refl)
    (λ w. either (ltb id_size (length id)) (λ u. rw u (is-long (λ h. omega arith) w (ltb-true id_size (length id) u)))
    (λ u. let m = ltb-false id_size (length id) u in
    either (held_in (length st / id_size) c st id)
    (λ v. rw (u, v) (is-done (λ h. omega arith) w (λ h. omega arith) (1 ∷ [])))
    (λ v. rw (u, v) (is-done (λ h. omega arith) w (λ h. omega arith) (0 ∷ [])))))
tells (of_gc at) c st =
    let n = (cleaned (length st / id_size) at c).count in
    through (of_gc at) c st (λ l. gc_told (result_and l (Ok n))) (λ h. omega arith) (λ _. refl)
    (λ w. is-done (λ h. omega arith) w (λ h. omega arith) (n ∷ []))
tells of_next c st =
    let e = get_or c.expiry (place_of (ring_of (length st / id_size) c) 0) 0 in
    through of_next c st (λ l. next_told (result_and l (Ok (cond (eqb c.count 0) None (Some e)))))
    (λ h. omega arith) (λ _. refl)
    (λ w. either (eqb c.count 0) (λ t. rw t (is-done (λ h. omega arith) w (λ h. omega arith) []))
    (λ t. rw t (is-done (λ h. omega arith) w (λ h. omega arith) (e ∷ []))))

-- ---- each exactly
module _ {k : Call} {c : SeenCache} {st : List ℕ} where
  setting_by : {t : Told} → Tells k c st t → (t.number ≡ bad_setting) ↔ BadSetting k st
  setting_by (is_setting b) = (λ e. b, λ x. refl)
  setting_by (is_store n b) = (λ e. absurd (omega arith), λ x. absurd (n x))
  setting_by (is-malformed n s w) = (λ e. absurd (omega arith), λ x. absurd (n x))
  setting_by (is-long n w l) = (λ e. absurd (omega arith), λ x. absurd (n x))
  setting_by (is-done n w l values) = (λ e. absurd (omega arith), λ x. absurd (n x))

  store_by : {t : Told} → Tells k c st t → (t.number ≡ bad-store) ↔ ((BadSetting k st → ⊥) × BadStore st)
  store_by (is_setting b) = (λ e. absurd (omega arith), λ x. absurd (x.0 b))
  store_by (is_store n b) = (λ e. (n, b), λ x. refl)
  store_by (is-malformed n s w) = (λ e. absurd (omega arith), λ x. absurd (s x.1))
  store_by (is-long n w l) = (λ e. absurd (omega arith), λ x. absurd (fine-store c st w x.1))
  store_by (is-done n w l values) = (λ e. absurd (omega arith), λ x. absurd (fine-store c st w x.1))

  malformed-by : {t : Told} → Tells k c st t → (t.number ≡ malformed) ↔ ((BadSetting k st → ⊥) × (BadStore st → ⊥)
      × (WellFormed c st → ⊥))
  malformed-by (is_setting b) = (λ e. absurd (omega arith), λ x. absurd (x.0 b))
  malformed-by (is_store n b) = (λ e. absurd (omega arith), λ x. absurd (x.1 b))
  malformed-by (is-malformed n s w) = (λ e. (n, s, w), λ x. refl)
  malformed-by (is-long n w l) = (λ e. absurd (omega arith), λ x. absurd (x.2 w))
  malformed-by (is-done n w l values) = (λ e. absurd (omega arith), λ x. absurd (x.2 w))

  long-by : {t : Told} → Tells k c st t → (t.number ≡ too_long-id) ↔ ((BadSetting k st → ⊥) × WellFormed c st
      × TooLong k)
  long-by (is_setting b) = (λ e. absurd (omega arith), λ x. absurd (x.0 b))
  long-by (is_store n b) = (λ e. absurd (omega arith), λ x. absurd (fine-store c st x.1 b))
  long-by (is-malformed n s w) = (λ e. absurd (omega arith), λ x. absurd (w x.1))
  long-by (is-long n w l) = (λ e. (n, w, l), λ x. refl)
  long-by (is-done n w l values) = (λ e. absurd (omega arith), λ x. absurd (l x.2))

  done-by : {t : Told} → Tells k c st t → (t.number ≡ 0) ↔ ((BadSetting k st → ⊥) × WellFormed c st × (TooLong k → ⊥))
  done-by (is_setting b) = (λ e. absurd (omega arith), λ x. absurd (x.0 b))
  done-by (is_store n b) = (λ e. absurd (omega arith), λ x. absurd (fine-store c st x.1 b))
  done-by (is-malformed n s w) = (λ e. absurd (omega arith), λ x. absurd (w x.1))
  done-by (is-long n w l) = (λ e. absurd (omega arith), λ x. absurd (x.2 l))
  done-by (is-done n w l values) = (λ e. (n, w, l), λ x. refl)

  beside-by : {t : Told} → Tells k c st t → (t.number ≡ 0 → ⊥)
      → values_of t ≡ cond (eqb t.number too_long-id) (length (id_of k) ∷ []) []
  beside-by (is_setting b) r = refl
  beside-by (is_store n b) r = refl
  beside-by (is-malformed n s w) r = refl
  beside-by (is-long n w l) r = refl
  beside-by (is-done n w l values) r = absurd (r refl)

module _ (k : Call) (c : SeenCache) (st : List ℕ) where
  pub bad_setting_exactly : ((told_of k c st).number ≡ bad_setting) ↔ BadSetting k st
  bad_setting_exactly = setting_by (tells k c st)

  pub bad-store-exactly : ((told_of k c st).number ≡ bad-store) ↔ ((BadSetting k st → ⊥) × BadStore st)
  bad-store-exactly = store_by (tells k c st)

  pub malformed-exactly : ((told_of k c st).number ≡ malformed) ↔ ((BadSetting k st → ⊥) × (BadStore st → ⊥)
      × (WellFormed c st → ⊥))
  malformed-exactly = malformed-by (tells k c st)

  -- a well formed state has the right store
  pub too_long-exactly : ((told_of k c st).number ≡ too_long-id) ↔ ((BadSetting k st → ⊥) × WellFormed c st × TooLong k)
  too_long-exactly = long-by (tells k c st)

  -- and there is no other number
  pub done-exactly : ((told_of k c st).number ≡ 0) ↔ ((BadSetting k st → ⊥) × WellFormed c st × (TooLong k → ⊥))
  done-exactly = done-by (tells k c st)

  -- beside 33 stands the id's length, beside another refusal nothing
  pub refused-beside : ((told_of k c st).number ≡ 0 → ⊥)
      → values_of (told_of k c st) ≡ cond (eqb (told_of k c st).number too_long-id) (length (id_of k) ∷ []) []
  refused-beside = beside-by (tells k c st)

-- ---- what a call that is done tells, by the entries
-- a value, where there is one
abbrev pub beside : Option ℕ → List ℕ
beside None = []
beside (Some e) = e ∷ []

beside-next : (o : Option ℕ) → next_told (Ok o) ≡ done (beside o)
beside-next None = refl
beside-next (Some e) = refl

module _ (c : SeenCache) (st : List ℕ) (w : WellFormed c st) where
  fine : lent_of c st ≡ Ok tt
  fine = (well_formed-exactly c st).1 w

  -- 0 where the id is held, 1 where it is new
  pub insert_tells : (max : ℕ) (id : List ℕ) → max ≤ cap_of st → length id ≤ id_size
      → insert_told (insert_answer max c st id) ≡ done (cond (holds id (entries_in (cap_of st) c st)) 0 1 ∷ [])
  insert_tells max id m k =
      let e = insert_says c st fine max id m k in
      either (holds id (entries_in (cap_of st) c st)) (λ t. rw (e, t)) (λ t. rw (e, t))

  -- 1 where it is held, 0 where it is not
  pub contains_tells : (id : List ℕ) → length id ≤ id_size
      → contains_told (contains_answer c st id) ≡ done (cond (holds id (entries_in (cap_of st) c st)) 1 0 ∷ [])
  contains_tells id k =
      let e = contains_says c st fine id k in
      either (holds id (entries_in (cap_of st) c st)) (λ t. rw (e, t)) (λ t. rw (e, t))

  -- how many are left
  pub gc_tells : (at : ℕ) → gc_told (gc_answer at c st) ≡ done (length (live at (entries_in (cap_of st) c st)) ∷ [])
  gc_tells at = ap gc_told (gc_says c st fine at)

  -- the expiry of the oldest, where there is one
  pub next-tells : next_told (next_answer c st) ≡ done (beside (front_expiry (entries_in (cap_of st) c st)))
  next-tells = ap next_told (next-says c st fine) ∙ beside-next (front_expiry (entries_in (cap_of st) c st))
