-- What one call does to the ids that a gateway has seen: nothing; a clean-up at its reading; or a clean-up, and then an
-- id more at the end, which is the form that it made new. The clock does not fall.
use Rattle.std.specs.Prelude.{Option, Some, None, Result, Ok, ℕ, ◌≤◌, ◌≡◌, Bool, true, false, cond, List, [], ◌∷◌}
use Rattle.std.specs.Prelude.{◌++◌, ltb, eqb}
use Rattle.std.proofs.Math.Path.{refl, sym, ap}
use Rattle.std.proofs.Common.{subst, ◌∙◌, arith, ltb-true, ltb-false}
use Rattle.std.proofs.Math.Bool.{not, not-not}
use Rattle.basis.specs.declared.Edition.{Edition}
use Rattle.basis.specs.Dialect.{mode_of}
use Rattle.basis.specs.Cases.{either}
use Rattle.rows.specs.Rows.{newest}
use Rattle.seen.specs.Entries.{holds, until, inserted, live}
use Rattle.seen.specs.EntriesLaws.{insert_held_lem}
use Rattle.node.specs.declared.AdmitError.{AdmitError}
use Rattle.node.specs.declared.Novelty.TheVariants as novelty
use Rattle.node.specs.declared.Novelty.{Novelty}
use Rattle.node.specs.Gateway.{Gateway, form_of, is_new, after_admit, after_beat}
use Rattle.node.specs.State.{gateway_in}
use Rattle.node.specs.Calls.{Plan, no, taken}
use Rattle.node.specs.Laws.{plan_takes, admit-says}
use Rattle.history.specs.History.{State, gateway_of, Call, admit, heartbeat, advertise, ask, serve}
use Rattle.history.specs.History.{explain, plan_in, answer_in, after, after_all, reading, is_new as answersNew}
use Rattle.history.specs.Laws.{Kept}
use Rattle.history.proofs.Laws.{node-clock, after-keeps, admit-none, admit-leaves}
use Rattle.history.proofs.Laws.{beat-leaves, refused-stays}
use Rattle.lifetime.specs.Lifetime.{taken_form, made_new, NewAt}
use Rattle.lifetime.specs.Back.{beat-back}

-- ---- a step from one gateway to the next, at the readings of a call, by the form that it made new
pub data Step (g h : Gateway) : List ℕ → Option (List ℕ) → Type 0 where
  stayed : {rs : List ℕ} → h ≡ g → Step g h rs None
  swept : (at : ℕ) → g.clock ≤ at → h.clock ≡ at → h.seen ≡ live at g.seen → Step g h (at ∷ []) None
  entered : (at : ℕ) (form : List ℕ) → g.clock ≤ at → h.clock ≡ at → holds form (live at g.seen) ≡ false
      → h.seen ≡ newest g.max_seen (live at g.seen ++ (record { id = form; expiry = until at g.ttl } ∷ []))
      → Step g h (at ∷ []) (Some form)

-- ---- an admit that takes a message
module _ (at : ℕ) (m id : List ℕ) (g : Gateway) (forward : g.clock ≤ at) where
  admit_new_lem : is_new at m id g ≡ true → Step g (after_admit at m id g) (at ∷ []) (Some (form_of (mode_of g.flags) m id))
  unfolding is_new after_admit inserted
  admit_new_lem t =
      let f = sym (not-not (holds (form_of (mode_of g.flags) m id) (live at g.seen))) ∙ ap not t in
      entered at (form_of (mode_of g.flags) m id) forward refl f (rw f)

  admit-again : is_new at m id g ≡ false → Step g (after_admit at m id g) (at ∷ []) None
  unfolding is_new after_admit
  admit-again t =
      let f = sym (not-not (holds (form_of (mode_of g.flags) m id) (live at g.seen))) ∙ ap not t in
      swept at forward refl
      (insert_held_lem g.max_seen (form_of (mode_of g.flags) m id) at g.ttl (live at g.seen) f)

beat-step : (at : ℕ) (g : Gateway) → g.clock ≤ at → Step g (after_beat at g) (at ∷ []) None
unfolding after_beat
beat-step at g forward = swept at forward refl refl

where_none : (b : Bool) → ◌≡◌ {A = Option (List ℕ)} (cond b None None) None
where_none true = refl
where_none false = refl

-- ---- every call
module _ (s : State) (kept : Kept s) where
  module _ (ed : Edition) (body : List ℕ) (i : ℕ) (word : Bool) (at : ℕ) where
    abbrev this : Call
    this = admit ed body i word at

    none_made : (r : Result Novelty AdmitError) → plan_in s ed body i word at ≡ no r → made_new s this ≡ None
    unfolding made_new taken_form
    none_made r e = rw e (where_none (eqb (answersNew r) 1))

    module _ (m id : List ℕ) (e : plan_in s ed body i word at ≡ taken m id) where
      forward : (gateway_of s).clock ≤ at
      unfolding gateway_in
      forward = ((plan_takes s.node s.ids s.messages ed body i word at m id).0 e).forward

      says : answer_in s ed body i word at ≡ cond (is_new at m id (gateway_of s)) (Ok novelty.New) (Ok novelty.Duplicate)
      says = admit-says s.node s.ids s.messages ed body i word at m id kept.typed e

      pub made-is : made_new s this ≡ cond (is_new at m id (gateway_of s)) (Some (form_of (mode_of (gateway_of s).flags) m id))
          None
      unfolding made_new taken_form gateway_in
      made-is = rw (says, e) (either (is_new at m id (gateway_of s)) (λ t. rw t) (λ t. rw t))

      taken_step : Step (gateway_of s) (gateway_of (after this s)) (at ∷ []) (made_new s this)
      taken_step =
          rw (made-is, admit-leaves s ed body i word at m id e kept.typed)
          (either (is_new at m id (gateway_of s))
          (λ t. rw t (admit_new_lem at m id (gateway_of s) forward t))
          (λ t. rw t (admit-again at m id (gateway_of s) forward t)))

    admit-step : (p : Plan) → plan_in s ed body i word at ≡ p
        → Step (gateway_of s) (gateway_of (after this s)) (at ∷ []) (made_new s this)
    admit-step (no r) e = rw (none_made r e) (stayed (ap gateway_of (admit-none s ed body i word at r e)))
    admit-step (taken m id) e = taken_step m id e

  -- a heartbeat
  heartbeat-step : (at : ℕ) → Step (gateway_of s) (gateway_of (after (heartbeat at) s)) (at ∷ []) None
  heartbeat-step at =
      either (ltb at s.node.clock)
      (λ t.
      let r = beat-back s at (ltb-true at s.node.clock t) in
      stayed (ap gateway_of (refused-stays (heartbeat at) s (λ z. omega arith))))
      (λ t.
      let f = ltb-false at s.node.clock t in
      rw (beat-leaves s kept at f) (beat-step at (gateway_of s) (subst (λ (k : ℕ). k ≤ at) (sym (node-clock s)) f)))

  pub step_of : (c : Call) → Step (gateway_of s) (gateway_of (after c s)) (reading c) (made_new s c)
  unfolding made_new after
  step_of (admit ed body i word at) = admit-step ed body i word at (plan_in s ed body i word at) refl
  step_of (heartbeat at) = heartbeat-step at
  step_of (advertise topic windows out) = stayed refl
  step_of (ask ed body out) = stayed refl
  step_of (serve ed body second out) = stayed refl
  step_of (explain id topic windows) = stayed refl

-- ---- the clock does not fall
pub step-clock : {g h : Gateway} {rs : List ℕ} {made : Option (List ℕ)} → Step g h rs made → g.clock ≤ h.clock
step-clock (stayed e) = rw e (omega arith)
step-clock (swept at forward c e) = omega arith
step-clock (entered at form forward c f e) = omega arith

pub clock-rises : (calls : List Call) (s : State) → Kept s → (gateway_of s).clock ≤ (gateway_of (after_all calls s)).clock
unfolding after_all
clock-rises [] s kept = omega arith
clock-rises (c ∷ cs) s kept =
    let a = step-clock (step_of s kept c) in
    let b = clock-rises cs (after c s) (after-keeps c s kept) in omega arith

-- ---- a call that made a form new, at its reading: not before the clock, which it sets
pub new-step : {s : State} {c : Call} {at : ℕ} {form : List ℕ} → Kept s → NewAt s c at form
    → Step (gateway_of s) (gateway_of (after c s)) (at ∷ []) (Some form)
new-step {s} {c} {at} {form} kept n =
    subst (λ (rs : List ℕ). Step (gateway_of s) (gateway_of (after c s)) rs (Some form)) n.read
    (subst (Step (gateway_of s) (gateway_of (after c s)) (reading c)) n.made (step_of s kept c))

pub before-clock : {g h : Gateway} {at : ℕ} {form : List ℕ} → Step g h (at ∷ []) (Some form) → g.clock ≤ at
before-clock (entered at form forward c f e) = forward

pub at-clock : {g h : Gateway} {at : ℕ} {form : List ℕ} → Step g h (at ∷ []) (Some form) → h.clock ≡ at
at-clock (entered at form _ c f e) = c
