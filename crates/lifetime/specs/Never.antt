-- Never twice within a lifetime. For one gateway and every history of calls from fresh, each lent the node and stores as
-- the last one left them, any bodies, words, readings and buffers, evictions and refused calls included: where two
-- admits made one seen form new, the second reading is at least ttl after the first, or at least max_seen calls between
-- them made another form new.
use Rattle.std.specs.Prelude.{Some, Ok, ℕ, ◌+◌, ◌-◌, ◌^◌, ◌≤◌, ◌<◌, ◌≡◌, refl, Bool, List, ◌⊎◌}
use Rattle.std.proofs.Common.{sym, subst, ◌∙◌, inl, inr, ⊎_elim, arith}
use Rattle.basis.specs.declared.Edition.{Edition}
use Rattle.seen.specs.Entries.{until}
use Rattle.node.specs.declared.Novelty.TheVariants as novelty
use Rattle.history.specs.History.{State, gateway_of, Settings, Fresh, Call, admit, answer_in, after, after_all}
use Rattle.history.proofs.Laws.{after-keeps, all_keep, history_keeps, after-set, all_set, history_set}
use Rattle.lifetime.specs.Lifetime.{taken_form, made_new, NewAt, Twice, others_new}
use Rattle.lifetime.specs.Taken.{taken-answers, made-taken}
use Rattle.lifetime.specs.Steps.{new-step}
use Rattle.lifetime.specs.Followed.{Followed, followed_all, followed_new, followed_again}

-- what has become of it, after some calls more
module _ {x : Settings} {s : State} (fresh : Fresh x s) (before : List Call) (first : Call) (between : List Call)
    (at : ℕ) (form : List ℕ) (n : NewAt (after_all before s) first at form) where
  abbrev then : State
  then = after_all before s

  since : Followed form (until at x.ttl) (others_new form between (after first then))
      (gateway_of (after_all between (after first then)))
  since =
      let k = history_keeps before fresh in
      let y = history_set before fresh in
      let z = after-set first then y in
      let f = followed_new (z.max_seen ∙ sym y.max_seen) (new-step k n) in
      subst (λ (others : ℕ). Followed form (until at x.ttl) others (gateway_of (after_all between (after first then))))
      (omega arith)
      (followed_all form (until at x.ttl) 0 between (after first then) (after-keeps first then k) z
      (subst (λ (ttl : ℕ). Followed form (until at ttl) 0 (gateway_of (after first then))) y.ttl f))

-- ---- of any two readings: the expiry of the first, which stops at 2^64 - 1, is at most the second; or enough others
pub never-until : {x : Settings} {s : State} → Fresh x s → {before : List Call} {first : Call} {between : List Call}
    {second : Call} {at later : ℕ} {form : List ℕ} → Twice s before first between second at later form
    → (until at x.ttl ≤ later) ⊎ (x.max_seen ≤ others_new form between (after first (after_all before s)))
never-until {x} {s} fresh {before} {first} {between} {second} {at} {later} {form} t =
    let then = after first (after_all before s) in
    let k = all_keep between then (after-keeps first (after_all before s) (history_keeps before fresh)) in
    let y = all_set between then (after-set first (after_all before s) (history_set before fresh)) in
    ⊎_elim (λ (h : until at x.ttl ≤ later). inl h) (λ h. inr (rw (← y.max_seen) h))
    (followed_again (since fresh before first between at form t.once) (new-step k t.again))

pub until_reached : (at ttl later : ℕ) → later < 2 ^ 64 - 1 → until at ttl ≤ later → at + ttl ≤ later
unfolding until
until_reached at ttl later h k = omega arith

-- ---- with a second reading below 2^64 - 1: at least ttl later, in numbers without bound; or enough others
pub never-twice : {x : Settings} {s : State} → Fresh x s → {before : List Call} {first : Call} {between : List Call}
    {second : Call} {at later : ℕ} {form : List ℕ} → Twice s before first between second at later form
    → later < 2 ^ 64 - 1
    → (at + x.ttl ≤ later) ⊎ (x.max_seen ≤ others_new form between (after first (after_all before s)))
never-twice {x} fresh {at = at} {later} t h =
    ⊎_elim (λ (e : until at x.ttl ≤ later). inl (until_reached at x.ttl later h e)) (λ e. inr e)
    (never-until fresh t)

-- ---- for daily use: an admit that is taken less than ttl after its form was made new, with fewer than max_seen others
-- made new since, answers duplicate
module _ {x : Settings} {s : State} (fresh : Fresh x s) (before : List Call) (first : Call) (between : List Call)
    {at : ℕ} {form : List ℕ} (n : NewAt (after_all before s) first at form) (ed : Edition) (body : List ℕ) (i : ℕ)
    (word : Bool) (later : ℕ) where
  -- the state after the first call, and after those between
  abbrev since-first : State
  since-first = after first (after_all before s)

  abbrev now : State
  now = after_all between since-first

  not_new : later < at + x.ttl → later < 2 ^ 64 - 1 → others_new form between since-first < x.max_seen
      → made_new now (admit ed body i word later) ≡ Some form → ⊥
  not_new soon small few m =
      ⊎_elim (λ (e : until at x.ttl ≤ later). let h = until_reached at x.ttl later small e in omega arith)
      (λ (h : x.max_seen ≤ others_new form between since-first). omega arith)
      (never-until fresh (record { once = n; again = record { read = refl; made = m } }))

  pub taken-again : taken_form now (admit ed body i word later) ≡ Some form
      → later < at + x.ttl → later < 2 ^ 64 - 1 → others_new form between since-first < x.max_seen
      → answer_in now ed body i word later ≡ Ok novelty.Duplicate
  taken-again t soon small few =
      ⊎_elim
      (λ (e : answer_in now ed body i word later ≡ Ok novelty.New).
      absurd (not_new soon small few ((made-taken now ed body i word later form).1 (t, e))))
      (λ e. e) (taken-answers now ed body i word later form t)
