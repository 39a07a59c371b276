-- Choosing max_seen: two calls that make one form new within ttl need max_seen others between them, so max_seen + 2 in
-- all. Where at most max_seen + 1 calls make a form new within any stretch of ttl, none is made new twice within ttl.
use Rattle.std.specs.Prelude.{Option, Some, None, ℕ, ◌+◌, ◌-◌, ◌^◌, ◌≤◌, ◌<◌, ◌≡◌, true, cond, List, [], ◌∷◌, ◌++◌, leb}
use Rattle.std.proofs.Common.{⊎_elim, leb-true, leb-false, le-leb, lt-ltb}
use native.Mathlib.Omega.{arith}
use Rattle.basis.specs.Cases.{either}
use Rattle.rows.specs.Ids.{same_bytes}
use Rattle.seen.specs.Entries.{until}
use Rattle.node.specs.Gateway.{Gateway}
use Rattle.history.specs.History.{State, gateway_of, Settings, Fresh, Call, after, after_all, reading}
use Rattle.history.specs.Laws.{Kept}
use Rattle.history.proofs.Laws.{after-keeps, all_keep, history_keeps}
use Rattle.lifetime.specs.Lifetime.{made_new, NewAt, Twice, is_other, others_new, is_within, is_made, new_within}
use Rattle.lifetime.specs.Steps.{Step, stayed, swept, entered, step_of, step-clock, clock-rises, new-step, at-clock}
use Rattle.lifetime.specs.Steps.{before-clock}
use Rattle.lifetime.specs.Never.{never-until, until_reached}

-- ---- calls, and then more calls
pub within-append : (from ttl : ℕ) (cs ds : List Call) (s : State)
    → new_within from ttl (cs ++ ds) s ≡ new_within from ttl cs s + new_within from ttl ds (after_all cs s)
unfolding new_within after_all
within-append from ttl [] ds s = omega arith
within-append from ttl (c ∷ cs) ds s = let r = within-append from ttl cs ds (after c s) in omega arith

-- ---- a call within the stretch that made a form new counts
within-at : (from ttl at : ℕ) → from ≤ at → at < from + ttl → is_within from ttl (at ∷ []) ≡ true
within-at from ttl at h k = rw (le-leb from at h, lt-ltb at (from + ttl) k)

new-counts : {s : State} {c : Call} {at : ℕ} {form : List ℕ} (from ttl : ℕ) → NewAt s c at form → from ≤ at
    → at < from + ttl → cond (is_within from ttl (reading c)) (is_made (made_new s c)) 0 ≡ 1
new-counts {at = at} from ttl n h k = rw (n.read, n.made, within-at from ttl at h k)

-- ---- the others made new by some calls, all of them within the stretch
other_one : (form : List ℕ) (made : Option (List ℕ)) → is_other form made ≤ is_made made
other_one form None = omega arith
other_one form (Some x) = either (same_bytes x form) (λ t. rw t (omega arith)) (λ t. rw t (omega arith))

step_counts : (form : List ℕ) (from ttl : ℕ) {g h : Gateway} {rs : List ℕ} {made : Option (List ℕ)} → Step g h rs made
    → from ≤ g.clock → h.clock < from + ttl → is_other form made ≤ cond (is_within from ttl rs) (is_made made) 0
step_counts form from ttl (stayed e) a b = omega arith
step_counts form from ttl (swept at forward c e) a b = omega arith
step_counts form from ttl (entered at x forward c f e) a b =
    rw (within-at from ttl at (omega arith) (omega arith)) (other_one form (Some x))

others-within : (form : List ℕ) (from ttl : ℕ) (calls : List Call) (s : State) → Kept s → from ≤ (gateway_of s).clock
    → (gateway_of (after_all calls s)).clock < from + ttl → others_new form calls s ≤ new_within from ttl calls s
unfolding others_new new_within after_all
others-within form from ttl [] s kept a b = omega arith
others-within form from ttl (c ∷ cs) s kept a b =
    let k = after-keeps c s kept in
    let d = step_of s kept c in
    let up = step-clock d in
    let rise = clock-rises cs (after c s) k in
    let one = step_counts form from ttl d a (omega arith) in
    let rest = others-within form from ttl cs (after c s) k (omega arith) b in
    omega arith

-- ---- where few enough are made new within any stretch of ttl, no form is made new twice within ttl
module _ {x : Settings} {s : State} (fresh : Fresh x s) (before : List Call) (first : Call) (between : List Call)
    (second : Call) (rest : List Call) {at later : ℕ} {form : List ℕ}
    (t : Twice s before first between second at later form) where
  -- the whole history
  abbrev whole : List Call
  whole = before ++ (first ∷ (between ++ (second ∷ rest)))

  abbrev since-first : State
  since-first = after first (after_all before s)

  kept-first : Kept since-first
  kept-first = after-keeps first (after_all before s) (history_keeps before fresh)

  -- the first, those between, and the second
  many : later < at + x.ttl → others_new form between since-first + 2 ≤ new_within at x.ttl whole s
  unfolding new_within
  many soon =
      let a = new-step (history_keeps before fresh) t.once in
      let k = all_keep between since-first kept-first in
      let b = new-step k t.again in
      let c = at-clock a in
      let d = clock-rises between since-first kept-first in
      let e = before-clock b in
      let o = others-within form at x.ttl between since-first kept-first (omega arith) (omega arith) in
      let u = new-counts at x.ttl t.once (omega arith) (omega arith) in
      let v = new-counts at x.ttl t.again (omega arith) (omega arith) in
      let p = within-append at x.ttl before (first ∷ (between ++ (second ∷ rest))) s in
      let q = within-append at x.ttl between (second ∷ rest) since-first in
      omega arith

  pub enough : ((from : ℕ) → new_within from x.ttl whole s ≤ x.max_seen + 1) → later < 2 ^ 64 - 1
      → at + x.ttl ≤ later
  enough few small =
      ⊎_elim (λ (e : until at x.ttl ≤ later). until_reached at x.ttl later small e)
      (λ (h : x.max_seen ≤ others_new form between since-first).
      either (leb (at + x.ttl) later) (λ y. leb-true (at + x.ttl) later y)
      (λ y. let l = leb-false (at + x.ttl) later y in
      let m = many l in
      let f = few at in absurd (omega arith)))
      (never-until fresh t)
