-- An admit whose reading is not before the clock is not refused by 31.
use Rattle.std.specs.Prelude.{Result, Ok, Err, ℕ, ◌≤◌, ◌≡◌, Bool, List, ◌∷◌}
use Rattle.std.proofs.Common.{le-ltb}
use Rattle.basis.specs.declared.Edition.{Edition}
use Rattle.basis.specs.declared.Fault.{Fault}
use Rattle.basis.specs.Dialect.{mode_of, spoken}
use Rattle.basis.specs.Cases.{clash}
use Rattle.protobuf.specs.declared.Refusal.{Refusal}
use Rattle.protobuf.specs.Walk.{between}
use Rattle.schema.specs.Accept.{accept_of}
use Rattle.ids.specs.Ids.{message_at}
use Rattle.admission.specs.declared.Unfit.{Unfit}
use Rattle.admission.specs.Admission.{admission_of}
use Rattle.node.specs.declared.Node.{Node}
use Rattle.node.specs.declared.AdmitError.TheVariants as admit
use Rattle.node.specs.Calls.{no, on_lent, lent_of, plan_fit, plan_at, plan_body, planned}
use Rattle.history.specs.History.{State, Settings, plan_in}
use Rattle.agreement.specs.Holding.{Holding}
use Rattle.agreement.proofs.Holding.{admit-forward}

module _ (n : Node) (at : ℕ) (h : n.clock ≤ at) (k : ℕ) where
  of-fit : (p : List ℕ) (r : Result ((ℕ × ℕ) × (ℕ × ℕ)) Unfit) → plan_fit n at p r ≡ no (Err (admit.ClockBack k)) → ⊥
  of-fit p (Err why) e = clash (cc)
  of-fit p (Ok ((a, b), (c, d))) e = clash (let q = rw (le-ltb at n.clock h) at e in cc)

  of_at : (word : Bool) (body : List ℕ) (r : Result (ℕ × ℕ) ℕ) → plan_at n at word body r ≡ no (Err (admit.ClockBack k)) → ⊥
  of_at word body (Err j) e = clash (cc)
  of_at word body (Ok (a, b)) e = of-fit (between body a b) (admission_of n.cache.flags (between body a b) word) e

  of-body : (word : Bool) (body : List ℕ) (i : ℕ) (r : Result (Unit {0}) Refusal)
      → plan_body n at word body i r ≡ no (Err (admit.ClockBack k)) → ⊥
  of-body word body i (Err why) e = clash (cc)
  of-body word body i (Ok tt) e = of_at word body (message_at (mode_of n.cache.flags) body i) e

  of_lent_lem : (ed : Edition) (word : Bool) (body : List ℕ) (i : ℕ) (l : Result (Unit {0}) Fault)
      → on_lent (λ (why : Fault). no (Err (admit.Faulty why))) l
      (plan_body n at word body i (accept_of (spoken (mode_of n.cache.flags) ed) body))
      ≡ no (Err (admit.ClockBack k)) → ⊥
  of_lent_lem ed word body i (Err why) e = clash (cc)
  of_lent_lem ed word body i (Ok tt) e = of-body word body i (accept_of (spoken (mode_of n.cache.flags) ed) body) e

  never_back : (ss cs : List ℕ) (ed : Edition) (body : List ℕ) (i : ℕ) (word : Bool)
      → planned n ss cs ed body i word at ≡ no (Err (admit.ClockBack k)) → ⊥
  unfolding planned
  never_back ss cs ed body i word e = of_lent_lem ed word body i (lent_of n ss cs) e

pub admit-not-back : {set : List (List ℕ)} {x : Settings} {first past : ℕ} {got : List (List ℕ)} {s : State}
    (ed : Edition) (body : List ℕ) (i : ℕ) (word : Bool) (at : ℕ) {rs : List ℕ} {left : ℕ}
    → Holding set x first past (at ∷ rs) left got s → (k : ℕ)
    → plan_in s ed body i word at ≡ no (Err (admit.ClockBack k)) → ⊥
admit-not-back {s} ed body i word at h k e = never_back s.node at (admit-forward ed body i word at h) k s.ids
    s.messages ed body i word e
