-- In a history from fresh no lent node or store is ever found bad: 40, 41 and 42, and whatever is above, never arise.
use Rattle.std.specs.Prelude.{Result, ℕ, ◌≤◌, ◌<◌, ◌≡◌, refl, List, ◌↔◌, ltb}
use Rattle.std.proofs.Common.{ap, arith, ltb-true, ltb-false}
use Rattle.basis.specs.declared.Fault.{Fault}
use Rattle.basis.specs.Told.{fine_told}
use Rattle.basis.specs.Cases.{either}
use Rattle.basis.specs.Refusals.{bad_setting}
use Rattle.node.specs.Calls.{lent_of}
use Rattle.node.specs.Exactly.{admit-faults, beat-faults, advertise-faults, explain-faults, ask-faults, serve-faults}
use Rattle.history.specs.History.{State, Settings, Fresh, Call, admit, heartbeat, advertise, ask, serve, explain}
use Rattle.history.specs.History.{after_all, refusal_at}
use Rattle.history.specs.Laws.{Kept}
use Rattle.history.proofs.Laws.{history_keeps}

-- ---- a number that is from 40 on only where the lent state's is, which is 0
small : (x l : ℕ) → ((k : ℕ) → bad_setting ≤ k → (x ≡ k) ↔ (l ≡ k)) → l ≡ 0 → x < bad_setting
small x l same z =
    either (ltb x bad_setting) (λ t. ltb-true x bad_setting t)
    (λ t. let h = ltb-false x bad_setting t in let e = (same x h).0 refl in absurd (omega arith))

module _ (s : State) (kept : Kept s) where
  none : (fine_told (lent_of s.node s.ids s.messages)).number ≡ 0
  none = ap (λ (l : Result (Unit {0}) Fault). (fine_told l).number) kept.fine

  not-faulty : (c : Call) → refusal_at s c < bad_setting
  not-faulty (admit ed body i word at) =
      small _ _ (admit-faults s.node s.ids s.messages ed body i word at) none
  not-faulty (heartbeat at) = small _ _ (beat-faults s.node s.ids s.messages at) none
  not-faulty (advertise topic windows out) =
      small _ _ (advertise-faults s.node s.ids s.messages topic windows out) none
  not-faulty (ask ed body out) = small _ _ (ask-faults s.node s.ids s.messages ed body out) none
  not-faulty (serve ed body second out) =
      small _ _ (serve-faults s.node s.ids s.messages ed body second out) none
  not-faulty (explain id topic windows) =
      small _ _ (explain-faults s.node s.ids s.messages id topic windows) none

-- ---- after any calls, every call is done or refused by a number below 40
pub never-faulty : {x : Settings} {s : State} → Fresh x s → (calls : List Call) (c : Call)
    → refusal_at (after_all calls s) c < bad_setting
never-faulty {x} {s} fresh calls c = not-faulty (after_all calls s) (history_keeps calls fresh) c
