-- What the definitions say of a call, in a history from fresh: an admit takes the seen form of the message that it
-- brings exactly where that passes admission and the clock does not go back; it makes it new exactly where it answers
-- new as well; and where it takes none, it is refused.
use Rattle.std.specs.Prelude.{Option, Some, None, Result, Ok, Err, ℕ, ◌≤◌, ◌<◌, ◌≡◌, Bool, true, cond, List, ◌↔◌, ◌⊎◌}
use Rattle.std.specs.Prelude.{ltb, eqb}
use Rattle.std.proofs.Math.Path.{refl}
use Rattle.std.proofs.Common.{sym, ap, subst, inl, inr, arith, eqb-true}
use Rattle.std.proofs.Math.Logic.{⊎_elim}
use Rattle.basis.specs.declared.Fault.TheVariants as fault
use Rattle.basis.specs.declared.Fault.{Fault}
use Rattle.basis.specs.Told.{fault_told}
use Rattle.basis.specs.declared.Edition.{Edition}
use Rattle.basis.specs.Dialect.{mode_of, spoken}
use Rattle.basis.specs.Cases.{either, clash}
use Rattle.protobuf.specs.declared.Refusal.{Refusal}
use Rattle.protobuf.specs.RefusalLaws.{wire_range}
use Rattle.protobuf.specs.Walk.{between}
use Rattle.schema.specs.Accept.{accept_of}
use Rattle.ids.specs.Ids.{message_at}
use Rattle.admission.specs.declared.Unfit.{Unfit}
use Rattle.admission.specs.Admission.{admission_of, gives_id}
use Rattle.admission.specs.AdmissionLaws.{unfit_range}
use Rattle.node.specs.declared.Node.{Node}
use Rattle.node.specs.declared.AdmitError.TheVariants as admit-error
use Rattle.node.specs.declared.AdmitError.{AdmitError}
use Rattle.node.specs.declared.Novelty.TheVariants as novelty
use Rattle.node.specs.declared.Novelty.{Novelty}
use Rattle.node.specs.Gateway.{form_of}
use Rattle.node.specs.State.{gateway_in}
use Rattle.node.specs.Calls.{Plan, no, taken, on_lent, lent_of, plan_fit, plan_at, plan_body, planned, held_at, admit_number}
use Rattle.node.specs.Calls.{admit_answer}
use Rattle.node.specs.Laws.{plan_takes, takes-vouched, takes-own}
use Rattle.history.specs.History.{State, gateway_of, Settings, Fresh, Call, admit, plan_in, answer_in, after_all, refusal_at}
use Rattle.history.specs.History.{brought, is_new}
use Rattle.history.proofs.Laws.{node-clock, history_keeps, history_flags, brings-exactly, brings_that, brought_plan}
use Rattle.lifetime.specs.Lifetime.{plan_form, taken_form, made_new}

-- ---- an admit that takes nothing is refused
pub fault-some : (why : Fault) → 0 < (fault_told why).number
fault-some fault.BadSetting = omega arith
fault-some fault.BadStore = omega arith
fault-some fault.Malformed = omega arith

module _ (n : Node) (ss cs : List ℕ) (at : ℕ) (body : List ℕ) (i : ℕ) (word : Bool) where
  -- it takes a form, or is refused
  abbrev TakenOr : Plan → Type 0
  TakenOr p = (plan_form (mode_of n.cache.flags) p ≡ None → ⊥) ⊎ (0 < admit_number (admit_answer n ss at p))

  taken-or : (m id : List ℕ) → TakenOr (taken m id)
  taken-or m id = inl (λ e. clash (cc))

  of-fit : (p : List ℕ) (r : Result ((ℕ × ℕ) × (ℕ × ℕ)) Unfit) → TakenOr (plan_fit n at p r)
  of-fit p (Err why) = inr (omega (arith, (unfit_range why).0))
  of-fit p (Ok ((a, e), (b, f))) =
      either (ltb at n.clock) (λ t. rw t (inr (omega arith))) (λ t. rw t (taken-or p _))

  of_at : (r : Result (ℕ × ℕ) ℕ) → TakenOr (plan_at n at word body r)
  of_at (Err k) = inr (omega arith)
  of_at (Ok (a, e)) = of-fit (between body a e) (admission_of n.cache.flags (between body a e) word)

  of-body : (r : Result (Unit {0}) Refusal) → TakenOr (plan_body n at word body i r)
  of-body (Err why) = inr (omega (arith, (wire_range why.why).0))
  of-body (Ok tt) = of_at (message_at (mode_of n.cache.flags) body i)

  of_lent_lem : (ed : Edition) (l : Result (Unit {0}) Fault)
      → TakenOr (on_lent (λ (why : Fault). no (Err (admit-error.Faulty why))) l
      (plan_body n at word body i (accept_of (spoken (mode_of n.cache.flags) ed) body)))
  of_lent_lem ed (Err why) = inr (fault-some why)
  of_lent_lem ed (Ok tt) = of-body (accept_of (spoken (mode_of n.cache.flags) ed) body)

  planned-or : (ed : Edition) → TakenOr (planned n ss cs ed body i word at)
  unfolding planned
  planned-or ed = of_lent_lem ed (lent_of n ss cs)

module _ (s : State) (ed : Edition) (body : List ℕ) (i : ℕ) (word : Bool) (at : ℕ) where
  pub untaken_refused : taken_form s (admit ed body i word at) ≡ None → 0 < refusal_at s (admit ed body i word at)
  unfolding taken_form
  untaken_refused e =
      ⊎_elim
      (λ (f : plan_form (mode_of s.node.cache.flags) (plan_in s ed body i word at) ≡ None → ⊥). absurd (f e))
      (λ h. h) (planned-or s.node s.ids s.messages at body i word ed)

-- ---- a call brings a message that gives an id under the flags, and this is its seen form: by call and flags alone
pub record Brings (flags : ℕ) (c : Call) (form : List ℕ) : Type 0 where
  pub message : List ℕ
  pub id : List ℕ
  pub brings : brought flags c ≡ Some message
  pub gives : gives_id flags message id ≡ true
  pub marked : form ≡ form_of (mode_of flags) message id

-- ---- the answer that counts as new
new-answer : (r : Result Novelty AdmitError) → is_new r ≡ 1 → r ≡ Ok novelty.New
new-answer (Ok novelty.New) e = refl
new-answer (Ok novelty.Duplicate) e = absurd (omega arith)
new-answer (Err why) e = absurd (omega arith)

-- an admit answers with one of its two answers where it takes a form
module _ (s : State) (ed : Edition) (body : List ℕ) (i : ℕ) (word : Bool) (at : ℕ) (form : List ℕ) where
  of_plan : (p : Plan) → plan_form (mode_of s.node.cache.flags) p ≡ Some form
      → (admit_answer s.node s.ids at p ≡ Ok novelty.New) ⊎ (admit_answer s.node s.ids at p ≡ Ok novelty.Duplicate)
  of_plan (no r) e = clash (cc)
  of_plan (taken m id) e =
      either (held_at s.node s.ids at (form_of (mode_of s.node.cache.flags) m id)) (λ t. inr (rw t))
      (λ t. inl (rw t))

  pub taken-answers : taken_form s (admit ed body i word at) ≡ Some form
      → (answer_in s ed body i word at ≡ Ok novelty.New) ⊎ (answer_in s ed body i word at ≡ Ok novelty.Duplicate)
  unfolding taken_form
  taken-answers e = of_plan (plan_in s ed body i word at) e

  -- one that is made new is taken, and the answer is new; and the other way round
  where_new : (r : Result Novelty AdmitError) (o : Option (List ℕ)) → cond (eqb (is_new r) 1) o None ≡ Some form
      → (o ≡ Some form) × (r ≡ Ok novelty.New)
  where_new r o e =
      either (eqb (is_new r) 1) (λ t. (rw t at e, new-answer r (eqb-true (is_new r) 1 t)))
      (λ t. clash (let z = rw t at e in cc))

  pub made-taken : (made_new s (admit ed body i word at) ≡ Some form)
      ↔ ((taken_form s (admit ed body i word at) ≡ Some form) × (answer_in s ed body i word at ≡ Ok novelty.New))
  unfolding made_new
  made-taken = (
    where_new (answer_in s ed body i word at) (taken_form s (admit ed body i word at)),
    λ p. rw p.1 p.0,
  )

-- ---- in a history from fresh
module _ {x : Settings} {start : State} (fresh : Fresh x start) (calls : List Call) (ed : Edition) (body : List ℕ)
    (i : ℕ) (word : Bool) (at : ℕ) where
  abbrev s : State
  s = after_all calls start

  abbrev this : Call
  this = admit ed body i word at

  same_flags : (gateway_of s).flags ≡ x.flags
  same_flags = history_flags calls fresh

  node-flags : s.node.cache.flags ≡ x.flags
  unfolding gateway_in
  node-flags = same_flags

  of-taken : (form : List ℕ) (p : Plan) → plan_in s ed body i word at ≡ p
      → plan_form (mode_of s.node.cache.flags) p ≡ Some form
      → Brings x.flags this form × ((gateway_of s).clock ≤ at)
  of-taken form (no r) e h = clash (cc)
  of-taken form (taken m id) e h =
      let t = (plan_takes s.node s.ids s.messages ed body i word at m id).0 e in
      let f = node-flags in
      let v = (brings-exactly x.flags m ed body i word at).1 (
        rw (← f) (takes-vouched t),
        rw (← f) t.accepted,
        record { start = t.start; next = t.next; found = rw (← f) t.there; bytes = sym t.bytes },
      ) in (
        record {
          message = m;
          id = id;
          brings = (brings_that x.flags m this).0 v;
          gives = rw (← f) (takes-own t);
          marked = rw (← f) (cc);
        },
        rw (node-clock s) t.forward,
      )

  -- it takes the form of the message that it brings, where the clock does not go back; and no other
  pub taken-exactly : (form : List ℕ) → (taken_form s this ≡ Some form)
      ↔ (Brings x.flags this form × ((gateway_of s).clock ≤ at))
  unfolding taken_form
  taken-exactly form = (
    of-taken form (plan_in s ed body i word at) refl,
    λ p.
        let b = p.0 in
        let k = history_keeps calls fresh in
        let e = brought_plan s x.flags same_flags ed body i word at b.message b.id b.brings b.gives
        k.fine (subst (λ (c : ℕ). c ≤ at) (node-clock s) p.1) in
        rw (e, node-flags) (ap Some (sym b.marked)),
  )

  -- one that is new was not refused, so the clock did not go back
  new-forward : (o : Option (List ℕ)) → taken_form s this ≡ o → answer_in s ed body i word at ≡ Ok novelty.New
      → (gateway_of s).clock ≤ at
  new-forward None e h =
      let r = untaken_refused s ed body i word at e in
      let z : admit_number (answer_in s ed body i word at) ≡ 0 = ap admit_number h in absurd (omega arith)
  new-forward (Some form) e h = ((taken-exactly form).0 e).1

  -- and makes it new, where it answers new
  pub made-exactly : (form : List ℕ) → (made_new s this ≡ Some form)
      ↔ (Brings x.flags this form × (answer_in s ed body i word at ≡ Ok novelty.New))
  made-exactly form = (
    λ h. let t = (made-taken s ed body i word at form).0 h in (((taken-exactly form).0 t.0).0, t.1),
    λ p.
        let c = new-forward (taken_form s this) refl p.1 in
        (made-taken s ed body i word at form).1 ((taken-exactly form).1 (p.0, c), p.1),
  )
