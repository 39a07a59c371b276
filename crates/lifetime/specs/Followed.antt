-- What becomes of an id that was made new: it stays where it is among the ids seen, behind it no more than the others
-- that were made new since; or its expiry is reached; or as many others as the gateway keeps were made new since.
use Prim.Native.Nat.{ℕ, suc, ◌+◌, ◌-◌, ◌≤◌}
use Rattle.std.specs.Prelude.{Option, Some, ◌≡◌, true, false, ◌⊎◌, leb, eqb}
use Rattle.std.proofs.Common.{sym, subst, ◌∙◌, ⊎_elim, arith}
use Rattle.std.proofs.Math.Path.{ap}
use Rattle.std.proofs.Math.Bool.{or-true}
use mathlib.Core.List.{List, [], ◌∷◌, ◌++◌, append_assoc}
use Rattle.std.proofs.Math.Logic.{inl, inr}
use Rattle.std.proofs.Math.ListN.{length, drop, length-append}
use Rattle.std.proofs.Math.Seq.{drop-append-le}
use borrow.Author.Tests.{leb-true, leb-false, eqb-true, eqb-false}
use Rattle.basis.specs.Cases.{either, clash}
use Rattle.rows.specs.Rows.{newest}
use Rattle.rows.specs.RowsLaws.{newest-more}
use Rattle.rows.specs.Ids.{same_bytes, among}
use Rattle.rows.specs.IdsLaws.{same_self, same_equal}
use Rattle.seen.specs.Entries.{Entry, holds, until, live}
use Rattle.node.specs.Gateway.{Gateway}
use Rattle.history.specs.History.{State, gateway_of, Settings, Call, after, after_all}
use Rattle.history.specs.Laws.{Kept, Set}
use Rattle.history.proofs.Laws.{after-keeps, after-set}
use Rattle.lifetime.specs.Lifetime.{is_other, made_new, others_new}
use Rattle.lifetime.specs.Steps.{Step, stayed, swept, entered, step_of, step-clock}

abbrev entry : List ℕ → ℕ → Entry
entry form expiry = record { id = form; expiry = expiry }

-- ---- an entry within a list, before these
pub record Before (newer : List Entry) (form : List ℕ) (expiry : ℕ) (es : List Entry) : Type 0 where
  pub older : List Entry
  pub split : es ≡ older ++ (entry form expiry ∷ newer)

module _ (newer : List Entry) (form : List ℕ) (expiry : ℕ) where
  -- it is held
  in_split : (older : List Entry) → holds form (older ++ (entry form expiry ∷ newer)) ≡ true
  unfolding holds among
  in_split [] = rw (same_self form)
  in_split (o ∷ older) = rw (in_split older) (or-true (same_bytes o.id form))

  before-held : (es : List Entry) → Before newer form expiry es → holds form es ≡ true
  before-held es b = rw b.split (in_split b.older)

  -- a clean-up leaves it there, or its expiry is reached
  live-split : (at : ℕ) (older : List Entry) → (expiry ≤ at)
      ⊎ Before newer form expiry (live at (older ++ (entry form expiry ∷ newer)))
  unfolding live
  live-split at [] =
      either (leb expiry at) (λ t. inl (leb-true expiry at t)) (λ t. inr (record { older = []; split = rw t }))
  live-split at (o ∷ older) =
      either (leb o.expiry at) (λ t. rw t (live-split at older))
      (λ t. inr (record { older = o ∷ older; split = rw t }))

  before-live : (at : ℕ) (es : List Entry) → Before newer form expiry es → (expiry ≤ at)
      ⊎ Before newer form expiry (live at es)
  before-live at es b = rw b.split (live-split at b.older)

  -- where the oldest leave until max remain, it stays, or max others are behind it
  before-newest : (max : ℕ) (es : List Entry) → Before newer form expiry es → (max ≤ length newer)
      ⊎ Before newer form expiry (newest max es)
  unfolding newest
  before-newest max es b =
      let l : length es ≡ length b.older + suc (length newer) =
      ap length b.split ∙ length-append b.older (entry form expiry ∷ newer) in
      either (leb (length es - max) (length b.older))
      (λ t.
      let h = leb-true (length es - max) (length b.older) t in
      inr (record {
        older = drop (length es - max) b.older;
        split = ap (drop (length es - max)) b.split
            ∙ drop-append-le (length es - max) b.older (entry form expiry ∷ newer) h;
      }))
      (λ t. let h = leb-false (length es - max) (length b.older) t in inl (omega arith))

-- one more goes to the end
before_more : (newer : List Entry) (form : List ℕ) (expiry : ℕ) (x : Entry) (es : List Entry)
    → Before newer form expiry es → Before (newer ++ (x ∷ [])) form expiry (es ++ (x ∷ []))
before_more newer form expiry x es b =
    record {
      older = b.older;
      split = ap (λ (l : List Entry). l ++ (x ∷ [])) b.split
          ∙ append_assoc b.older (entry form expiry ∷ newer) (x ∷ []);
    }

-- ---- what has become of a form that was made new, with this expiry, where n others were since
pub data Followed (form : List ℕ) (expiry n : ℕ) (g : Gateway) : Type 0 where
  in_place : (newer : List Entry) → length newer ≤ n → Before newer form expiry g.seen → Followed form expiry n g
  expired : expiry ≤ g.clock → Followed form expiry n g
  crowded : g.max_seen ≤ n → Followed form expiry n g

-- ---- one call: another form that is made new counts
module _ (form : List ℕ) (expiry n : ℕ) (g h : Gateway) (same : h.max_seen ≡ g.max_seen) where
  placed-swept : (at : ℕ) (newer : List Entry) → length newer ≤ n → h.clock ≡ at → h.seen ≡ live at g.seen
      → Before newer form expiry g.seen → Followed form expiry n h
  placed-swept at newer l c e b =
      ⊎_elim (λ (x : expiry ≤ at). expired (rw c x)) (λ x. in_place newer l (rw e x))
      (before-live newer form expiry at g.seen b)

  -- one more at the end
  placed-entered : (at : ℕ) (x : Entry) (newer : List Entry) → length newer ≤ n
      → h.seen ≡ newest g.max_seen (live at g.seen ++ (x ∷ [])) → Before newer form expiry (live at g.seen)
      → Followed form expiry (n + 1) h
  placed-entered at x newer l e b =
      let k = length-append newer (x ∷ []) in
      ⊎_elim (λ (y : g.max_seen ≤ length (newer ++ (x ∷ []))). crowded (rw same (omega arith)))
      (λ y. in_place (newer ++ (x ∷ [])) (omega arith) (rw e y))
      (before-newest (newer ++ (x ∷ [])) form expiry g.max_seen (live at g.seen ++ (x ∷ []))
      (before_more newer form expiry x (live at g.seen) b))

  -- the form itself is not made new while it is held
  another : (at : ℕ) (newer : List Entry) (x : List ℕ) → Before newer form expiry (live at g.seen)
      → holds x (live at g.seen) ≡ false → same_bytes x form ≡ false
  another at newer x b f =
      either (same_bytes x form)
      (λ t.
      let k = before-held newer form expiry (live at g.seen) b in
      clash (let z = ap (λ (y : List ℕ). holds y (live at g.seen)) (same_equal x form t) in cc))
      (λ t. t)

  placed-step : {rs : List ℕ} {made : Option (List ℕ)} (newer : List Entry) → length newer ≤ n
      → Before newer form expiry g.seen → Step g h rs made → Followed form expiry (n + is_other form made) h
  placed-step newer l b (stayed e) = in_place newer (omega arith) (rw e b)
  placed-step newer l b (swept at forward c e) =
      subst (λ (k : ℕ). Followed form expiry k h) (omega arith) (placed-swept at newer l c e b)
  placed-step newer l b (entered at x forward c f e) =
      ⊎_elim (λ (y : expiry ≤ at). expired (rw c y))
      (λ y. rw (another at newer x y f)
      (placed-entered at (record { id = x; expiry = until at g.ttl }) newer l e y))
      (before-live newer form expiry at g.seen b)

  followed_step : {rs : List ℕ} {made : Option (List ℕ)} → Followed form expiry n g → Step g h rs made
      → Followed form expiry (n + is_other form made) h
  followed_step (in_place newer l b) d = placed-step newer l b d
  followed_step (expired e) d = expired (let c = step-clock d in omega arith)
  followed_step (crowded e) d = crowded (rw same (omega arith))

-- ---- some calls
pub followed_all : {x : Settings} (form : List ℕ) (expiry n : ℕ) (calls : List Call) (s : State) → Kept s
    → Set x (gateway_of s) → Followed form expiry n (gateway_of s)
    → Followed form expiry (n + others_new form calls s) (gateway_of (after_all calls s))
unfolding after_all others_new
followed_all form expiry n [] s kept set f =
    subst (λ (k : ℕ). Followed form expiry k (gateway_of s)) (omega arith) f
followed_all form expiry n (c ∷ cs) s kept set f =
    let set2 = after-set c s set in
    let one = followed_step form expiry n (gateway_of s) (gateway_of (after c s)) (set2.max_seen ∙ sym set.max_seen) f
    (step_of s kept c) in
    let rest = followed_all form expiry (n + is_other form (made_new s c)) cs (after c s) (after-keeps c s kept) set2
    one in
    subst (λ (k : ℕ). Followed form expiry k (gateway_of (after_all cs (after c s)))) (omega arith) rest

-- ---- a form that was made new just now
pub followed_new : {form : List ℕ} {at : ℕ} {g h : Gateway} → h.max_seen ≡ g.max_seen → Step g h (at ∷ []) (Some form)
    → Followed form (until at g.ttl) 0 h
followed_new {g = g} same (entered at form forward c f e) =
    either (eqb g.max_seen 0) (λ t. let z = eqb-true g.max_seen 0 t in crowded (rw same (omega arith)))
    (λ t.
    let x : Entry = record { id = form; expiry = until at g.ttl } in
    let l = live at g.seen in
    in_place [] (omega arith)
    (record {
      older = drop ((length l + 1) - g.max_seen) l;
      split = e ∙ newest-more g.max_seen l x (eqb-false g.max_seen 0 t);
    }))

-- ---- where it is made new again, its expiry is reached, or enough others were made new
pub followed_again : {form : List ℕ} {expiry n at : ℕ} {g h : Gateway} → Followed form expiry n g
    → Step g h (at ∷ []) (Some form) → (expiry ≤ at) ⊎ (g.max_seen ≤ n)
followed_again {expiry = expiry} {g = g} (in_place newer l b) (entered at form forward c f e) =
    ⊎_elim (λ (y : expiry ≤ at). inl y)
    (λ y. let k = before-held newer form expiry (live at g.seen) y in clash (cc))
    (before-live newer form expiry at g.seen b)
followed_again (expired x) (entered at form forward c f e) = inl (omega arith)
followed_again (crowded x) (entered at form forward c f e) = inr x
