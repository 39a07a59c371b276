-- Histories that are written out: the form that each call makes new, and how many others are made new, is computed over
-- gateways, without their stores.
use Rattle.std.specs.Prelude.{Option, Some, None, Ok, ℕ, ◌+◌, ◌≤◌, ◌≡◌, cond}
use Rattle.std.proofs.Math.Path.{refl, ap}
use Rattle.std.proofs.Common.{sym, ap₂, subst, ◌∙◌}
use Rattle.std.proofs.Math.Bool.{true}
use mathlib.Core.List.{List, [], ◌∷◌, ◌++◌, append_assoc}
use Rattle.basis.specs.declared.Edition.{Edition}
use Rattle.basis.specs.Dialect.{mode_of}
use Rattle.node.specs.declared.Novelty.TheVariants as novelty
use Rattle.node.specs.Gateway.{Gateway, form_of, is_new, after_admit, after_beat}
use Rattle.node.specs.Calls.{taken}
use Rattle.node.specs.Laws.{admit-says}
use Rattle.history.specs.History.{State, gateway_of, Settings, Fresh, Call, plan_in, answer_in, after, after_all}
use Rattle.history.specs.History.{reading}
use Rattle.history.specs.Laws.{started_by, Kept}
use Rattle.history.proofs.Laws.{node-clock, after-keeps, history_keeps, fresh_keeps}
use Rattle.history.proofs.Laws.{fresh-starts, fresh-flags, fresh-clock, after-flags, history_flags, carried-brought}
use Rattle.history.proofs.Laws.{after-append, brought_plan, after_admit-clock, after_beat-clock}
use Rattle.history.specs.Script.{Carries, Act, gets, beats, asks, call_of, calls_of, gateway_by, gateway_after, Written}
use Rattle.history.specs.Script.{nothing, got, beaten, asked}
use Rattle.history.proofs.ScriptLaws.{acted}
use Rattle.lifetime.specs.Lifetime.{made_new, Twice, is_other, others_new}
use Rattle.lifetime.specs.Steps.{made-is}

-- ---- the form that a call makes new, at a gateway
abbrev pub form_by : Act → Gateway → Option (List ℕ)
form_by (gets ed body m id at) g = cond (is_new at m id g) (Some (form_of (mode_of g.flags) m id)) None
form_by (beats at) g = None
form_by (asks ed body out) g = None

unfoldable pub others_by : List ℕ → List Act → Gateway → ℕ
others_by form [] g = 0
others_by form (x ∷ xs) g = is_other form (form_by x g) + others_by form xs (gateway_by x g)

-- ---- the calls before a place and those after it
written-split : {flags : ℕ} (xs ys : List Act) (g : Gateway) → Written flags g.clock (xs ++ ys)
    → Written flags g.clock xs × Written flags (gateway_after xs g).clock ys
unfolding gateway_after
written-split [] ys g w = (nothing, w)
written-split {flags} (gets ed body m id at ∷ xs) ys g (got clock now c up w) =
    let e = after_admit-clock at m id g in
    let r = written-split xs ys (after_admit at m id g) (subst (λ (k : ℕ). Written flags k (xs ++ ys)) (sym e) w) in
    (got g.clock at c up (subst (λ (k : ℕ). Written flags k xs) e r.0), r.1)
written-split {flags} (beats at ∷ xs) ys g (beaten clock now up w) =
    let e = after_beat-clock at g in
    let r = written-split xs ys (after_beat at g) (subst (λ (k : ℕ). Written flags k (xs ++ ys)) (sym e) w) in
    (beaten g.clock at up (subst (λ (k : ℕ). Written flags k xs) e r.0), r.1)
written-split (asks ed body out ∷ xs) ys g (asked w) =
    let r = written-split xs ys g w in (asked r.0, r.1)

-- ---- one call
module _ {flags : ℕ} (s : State) (kept : Kept s) (same : (gateway_of s).flags ≡ flags) where
  module _ (ed : Edition) (body m id : List ℕ) (at : ℕ) (c : Carries flags ed body m id)
      (up : (gateway_of s).clock ≤ at) where
    plan_is : plan_in s ed body 0 true at ≡ taken m id
    plan_is =
        brought_plan s flags same ed body 0 true at m id (carried-brought flags ed body 0 at m c.accepted c.placed)
        c.own kept.fine (subst (λ (k : ℕ). k ≤ at) (node-clock s) up)

  act_answers : (ed : Edition) (body m id : List ℕ) (at : ℕ) (xs : List Act)
      → Written flags (gateway_of s).clock (gets ed body m id at ∷ xs)
      → answer_in s ed body 0 true at ≡ cond (is_new at m id (gateway_of s)) (Ok novelty.New) (Ok novelty.Duplicate)
  act_answers ed body m id at xs (got clock now c up w) =
      admit-says s.node s.ids s.messages ed body 0 true at m id kept.typed (plan_is ed body m id at c up)

  act_makes : (x : Act) (xs : List Act) → Written flags (gateway_of s).clock (x ∷ xs)
      → made_new s (call_of x) ≡ form_by x (gateway_of s)
  unfolding made_new
  act_makes (gets ed body m id at) xs (got clock now c up w) =
      made-is s kept ed body 0 true at m id (plan_is ed body m id at c up)
  act_makes (beats at) xs w = refl
  act_makes (asks ed body out) xs w = refl

-- it leaves the gateway that is computed
act_leaves : {flags : ℕ} (s : State) (x : Act) (xs : List Act) → Kept s → (gateway_of s).flags ≡ flags
    → Written flags (gateway_of s).clock (x ∷ xs)
    → gateway_of (after (call_of x) s) ≡ gateway_by x (gateway_of s)
unfolding calls_of after_all gateway_after
act_leaves {flags} s x xs kept same w =
    (acted flags (x ∷ []) s kept same (written-split (x ∷ []) xs (gateway_of s) w).0).gateway

-- ---- some calls
rest-written : {flags : ℕ} (s : State) (x : Act) (xs : List Act) → Kept s → (gateway_of s).flags ≡ flags
    → Written flags (gateway_of s).clock (x ∷ xs) → Written flags (gateway_of (after (call_of x) s)).clock xs
unfolding gateway_after
rest-written {flags} s x xs kept same w =
    subst (λ (g : Gateway). Written flags g.clock xs) (sym (act_leaves s x xs kept same w))
    (written-split (x ∷ []) xs (gateway_of s) w).1

others_are : {flags : ℕ} (form : List ℕ) (xs : List Act) (s : State) → Kept s → (gateway_of s).flags ≡ flags
    → Written flags (gateway_of s).clock xs → others_new form (calls_of xs) s ≡ others_by form xs (gateway_of s)
unfolding others_new others_by calls_of
others_are form [] s kept same w = refl
others_are form (x ∷ xs) s kept same w =
    let r = others_are form xs (after (call_of x) s) (after-keeps (call_of x) s kept) (after-flags (call_of x) s ∙ same)
    (rest-written s x xs kept same w) in
    ap₂ (λ (a b : ℕ). a + b) (ap (is_other form) (act_makes s kept same x xs w))
    (r ∙ ap (others_by form xs) (act_leaves s x xs kept same w))

-- ---- from fresh: calls, and one more
module _ {x : Settings} {s : State} (fresh : Fresh x s) (before : List Act) where
  -- the gateway that they leave
  abbrev pub left_by : Gateway
  left_by = gateway_after before (started_by x)

  module _ (rest : List Act) (w : Written x.flags 0 (before ++ rest)) where
    split : Written x.flags (gateway_of s).clock before × Written x.flags left_by.clock rest
    split =
        let g = fresh-starts fresh in
        let r = written-split before rest (gateway_of s)
        (subst (λ (k : ℕ). Written x.flags k (before ++ rest)) (sym (fresh-clock fresh)) w) in
        (r.0, subst (λ (h : Gateway). Written x.flags (gateway_after before h).clock rest) g r.1)

    left_is : gateway_of (after_all (calls_of before) s) ≡ left_by
    left_is =
        (acted x.flags before s (fresh_keeps fresh) (fresh-flags fresh) split.0).gateway
        ∙ ap (gateway_after before) (fresh-starts fresh)

    rest-is : Written x.flags (gateway_of (after_all (calls_of before) s)).clock rest
    rest-is = subst (λ (g : Gateway). Written x.flags g.clock rest) (sym left_is) split.1

  -- what one makes new
  pub script_makes : (a : Act) (rest : List Act) → Written x.flags 0 (before ++ (a ∷ rest))
      → made_new (after_all (calls_of before) s) (call_of a) ≡ form_by a left_by
  script_makes a rest w =
      act_makes (after_all (calls_of before) s) (history_keeps (calls_of before) fresh)
      (history_flags (calls_of before) fresh) a rest (rest-is (a ∷ rest) w)
      ∙ ap (form_by a) (left_is (a ∷ rest) w)

  -- what it answers
  pub script_answers : (ed : Edition) (body m id : List ℕ) (at : ℕ) (rest : List Act)
      → Written x.flags 0 (before ++ (gets ed body m id at ∷ rest))
      → answer_in (after_all (calls_of before) s) ed body 0 true at
      ≡ cond (is_new at m id left_by) (Ok novelty.New) (Ok novelty.Duplicate)
  script_answers ed body m id at rest w =
      let t = after_all (calls_of before) s in
      act_answers t (history_keeps (calls_of before) fresh) (history_flags (calls_of before) fresh) ed body m id at rest
      (rest-is (gets ed body m id at ∷ rest) w)
      ∙ ap (λ (g : Gateway). cond (is_new at m id g) (Ok novelty.New) (Ok novelty.Duplicate))
      (left_is (gets ed body m id at ∷ rest) w)

  -- and how many others the next ones make new
  pub script_others : (form : List ℕ) (next rest : List Act) → Written x.flags 0 (before ++ (next ++ rest))
      → others_new form (calls_of next) (after_all (calls_of before) s) ≡ others_by form next left_by
  script_others form next rest w =
      let t = after_all (calls_of before) s in
      others_are form next t (history_keeps (calls_of before) fresh) (history_flags (calls_of before) fresh)
      (written-split next rest (gateway_of t) (rest-is (next ++ rest) w)).0
      ∙ ap (others_by form next) (left_is (next ++ rest) w)

-- ---- two of them that make one form new
calls-append : (xs ys : List Act) → calls_of (xs ++ ys) ≡ calls_of xs ++ calls_of ys
unfolding calls_of
calls-append [] ys = refl
calls-append (x ∷ xs) ys = ap (λ (l : List Call). call_of x ∷ l) (calls-append xs ys)

-- the state after calls, one more, and then others
state-after : (before : List Act) (a : Act) (between : List Act) (s : State)
    → after_all (calls_of (before ++ (a ∷ between))) s
    ≡ after_all (calls_of between) (after (call_of a) (after_all (calls_of before) s))
unfolding calls_of after_all
state-after before a between s =
    ap (λ (l : List Call). after_all l s) (calls-append before (a ∷ between))
    ∙ after-append (calls_of before) (calls_of (a ∷ between)) s

again-written : {flags : ℕ} (before : List Act) (a : Act) (between : List Act) (b : Act) (rest : List Act)
    → Written flags 0 (before ++ (a ∷ (between ++ (b ∷ rest))))
    → Written flags 0 ((before ++ (a ∷ between)) ++ (b ∷ rest))
again-written {flags} before a between b rest w =
    subst (Written flags 0) (sym (append_assoc before (a ∷ between) (b ∷ rest))) w

module _ {x : Settings} {s : State} (fresh : Fresh x s) (before : List Act) (a : Act) (between : List Act)
    (b : Act) (rest : List Act) (w : Written x.flags 0 (before ++ (a ∷ (between ++ (b ∷ rest))))) (form : List ℕ) where
  pub script_twice : (at later : ℕ) → reading (call_of a) ≡ at ∷ [] → reading (call_of b) ≡ later ∷ []
      → form_by a (gateway_after before (started_by x)) ≡ Some form
      → form_by b (gateway_after (before ++ (a ∷ between)) (started_by x)) ≡ Some form
      → Twice s (calls_of before) (call_of a) (calls_of between) (call_of b) at later form
  script_twice at later p q m k =
      record {
        once = record { read = p; made = script_makes fresh before a (between ++ (b ∷ rest)) w ∙ m };
        again = record {
          read = q;
          made = ap (λ (t : State). made_new t (call_of b)) (sym (state-after before a between s))
              ∙ script_makes fresh (before ++ (a ∷ between)) b rest
              (again-written before a between b rest w) ∙ k;
        };
      }

  -- and how many others are made new between them
  pub script_between : others_new form (calls_of between) (after (call_of a) (after_all (calls_of before) s))
      ≡ others_by form between (gateway_after (before ++ (a ∷ [])) (started_by x))
  unfolding calls_of after_all
  script_between =
      ap (others_new form (calls_of between)) (sym (state-after before a [] s))
      ∙ script_others fresh (before ++ (a ∷ [])) form between (b ∷ rest)
      (subst (Written x.flags 0) (sym (append_assoc before (a ∷ []) (between ++ (b ∷ rest)))) w)

-- what the last of them answers
pub script_again : {x : Settings} {s : State} → Fresh x s → (before : List Act) (a : Act) (between : List Act)
    (ed : Edition) (body m id : List ℕ) (later : ℕ) (rest : List Act)
    → Written x.flags 0 (before ++ (a ∷ (between ++ (gets ed body m id later ∷ rest))))
    → answer_in (after_all (calls_of between) (after (call_of a) (after_all (calls_of before) s))) ed body 0 true later
    ≡ cond (is_new later m id (gateway_after (before ++ (a ∷ between)) (started_by x))) (Ok novelty.New) (Ok novelty.Duplicate)
script_again {x} {s} fresh before a between ed body m id later rest w =
    ap (λ (t : State). answer_in t ed body 0 true later) (sym (state-after before a between s))
    ∙ script_answers fresh (before ++ (a ∷ between)) ed body m id later rest
    (again-written before a between (gets ed body m id later) rest w)
