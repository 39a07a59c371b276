-- Laws about histories that rest on no set of messages: calls and then more calls; what one call leaves; and every
-- state that calls leave from a fresh one is well formed.
use Rattle.std.specs.Prelude.{Option, Some, None, Result, Ok, Err, ℕ, zero, suc, ◌+◌, ◌≤◌, ◌≡◌, Bool, false, List, []}
use Rattle.std.specs.Prelude.{◌∷◌, ◌++◌, ◌↔◌}
use Rattle.std.proofs.Math.Path.{refl}
use Rattle.std.proofs.Common.{sym, ap, subst, ◌∙◌, append_assoc, arith}
use Rattle.std.proofs.Math.Bool.{true}
use Rattle.basis.specs.declared.Edition.{Edition}
use Rattle.basis.specs.declared.Fault.{Fault}
use Rattle.basis.specs.Dialect.{mode_of, spoken}
use Rattle.basis.specs.Cases.{either, clash}
use Rattle.rows.specs.IdsLaws.{same_self, same_equal}
use Rattle.protobuf.specs.declared.Refusal.{Refusal}
use Rattle.protobuf.specs.Walk.{between}
use Rattle.schema.specs.Accept.{accept_of}
use Rattle.ids.specs.Ids.{message_at}
use Rattle.admission.specs.declared.Unfit.{Unfit}
use Rattle.admission.specs.Admission.{admission_of, vouched, gives_id}
use Rattle.admission.specs.AdmissionLaws.{fit-vouched, vouched-same}
use Rattle.mcache.specs.Laws.{under-settings, shifted-settings}
use Rattle.node.specs.declared.Node.{Node}
use Rattle.node.specs.declared.AdmitError.TheVariants as admit-error
use Rattle.node.specs.declared.AdmitError.{AdmitError}
use Rattle.node.specs.declared.BeatError.{BeatError}
use Rattle.node.specs.declared.Novelty.{Novelty}
use Rattle.node.specs.Gateway.{Gateway, started, form_of, after_admit, after_beat}
use Rattle.node.specs.State.{gateway_in}
use Rattle.node.specs.Calls.{Plan, no, taken, held_at, admit_number, admit_answer, admit_node, admit_seen, admit_cache}
use Rattle.node.specs.Calls.{later_node, beat_number, beat_answer, beat_node, on_lent, lent_of, plan_fit, plan_at, plan_body}
use Rattle.node.specs.Calls.{planned}
use Rattle.node.specs.WellFormed.{Typed}
use Rattle.node.specs.Laws.{fresh-gateway, fit_plan, admit-gateway, beat-says, beat-gateway}
use Rattle.node.specs.WellFormedLaws.{Keeps, begun-keeps, admitted-keeps, beaten-keeps}
use Rattle.history.specs.History.{State, gateway_of, Settings, Fresh, Call, admit, heartbeat, advertise, ask}
use Rattle.history.specs.History.{serve, explain}
use Rattle.history.specs.History.{plan_in, after, after_all, reading, readings, beats, refusal_at, NoneRefused}
use Rattle.history.specs.History.{all_done, done, admits, Placed, standing, where_accepted, brought, is_that}
use Rattle.history.specs.History.{brings, times}
use Rattle.history.specs.Laws.{started_by, Kept, Lasting, Set, TakesNone}

-- ---- calls, and then more calls
pub after-append : (cs ds : List Call) (s : State) → after_all (cs ++ ds) s ≡ after_all ds (after_all cs s)
unfolding after_all
after-append [] ds s = refl
after-append (c ∷ cs) ds s = after-append cs ds (after c s)

pub readings-append : (cs ds : List Call) → readings (cs ++ ds) ≡ readings cs ++ readings ds
unfolding readings
readings-append [] ds = refl
readings-append (c ∷ cs) ds =
    ap (λ (l : List ℕ). reading c ++ l) (readings-append cs ds)
    ∙ sym (append_assoc (reading c) (readings cs) (readings ds))

pub beats-append : (cs ds : List Call) → beats (cs ++ ds) ≡ beats cs + beats ds
unfolding beats
beats-append [] ds = omega arith
beats-append (c ∷ cs) ds = let r = beats-append cs ds in omega arith

pub done-append : {cs ds : List Call} {s : State} → NoneRefused cs s → NoneRefused ds (after_all cs s)
    → NoneRefused (cs ++ ds) s
unfolding after_all
done-append all_done n = n
done-append (done a m) n = done a (done-append m n)

pub times-append : (f : Result Novelty AdmitError → ℕ) (flags : ℕ) (m : List ℕ) (cs ds : List Call) (s : State)
    → times f flags m (cs ++ ds) s ≡ times f flags m cs s + times f flags m ds (after_all cs s)
unfolding times after_all
times-append f flags m [] ds s = omega arith
times-append f flags m (c ∷ cs) ds s = let r = times-append f flags m cs ds (after c s) in omega arith

-- admits are no heartbeats
pub admits-beats : (eds : ℕ → Edition) (body : List ℕ) (at : ℕ → ℕ) (i k : ℕ) → beats (admits eds body at i k) ≡ 0
unfolding admits beats
admits-beats eds body at i zero = refl
admits-beats eds body at i (suc k) = let r = admits-beats eds body at (suc i) k in omega arith

-- ---- the clock
pub node-clock : (s : State) → (gateway_of s).clock ≡ s.node.clock
unfolding gateway_in
node-clock s = refl

pub started-clock : (x : Settings) → (started_by x).clock ≡ 0
unfolding started
started-clock x = refl

started-flags : (x : Settings) → (started_by x).flags ≡ x.flags
unfolding started
started-flags x = refl

pub after_admit-clock : (at : ℕ) (m id : List ℕ) (g : Gateway) → (after_admit at m id g).clock ≡ at
unfolding after_admit
after_admit-clock at m id g = refl

pub after_beat-clock : (at : ℕ) (g : Gateway) → (after_beat at g).clock ≡ at
unfolding after_beat
after_beat-clock at g = refl

-- ---- every state that calls leave from a fresh one is well formed, with its ids in the order of their expiries
pub after-keeps : (c : Call) (s : State) → Kept s → Kept (after c s)
unfolding after
after-keeps (admit ed body i word at) s k =
    admitted-keeps s.node s.ids s.messages ed body i word at k (plan_in s ed body i word at) refl
after-keeps (heartbeat at) s k =
    beaten-keeps s.node s.ids s.messages at k (beat_answer s.node s.ids s.messages at) refl
after-keeps (advertise topic windows out) s k = k
after-keeps (ask ed body out) s k = k
after-keeps (serve ed body second out) s k = k
after-keeps (explain id topic windows) s k = k

pub all_keep : (calls : List Call) (s : State) → Kept s → Kept (after_all calls s)
unfolding after_all
all_keep [] s k = k
all_keep (c ∷ cs) s k = all_keep cs (after c s) (after-keeps c s k)

pub fresh_keeps : {x : Settings} {s : State} → Fresh x s → Kept s
fresh_keeps {x} {s} f =
    subst (λ (n : Node). Keeps n s.ids s.messages) (sym f.node)
    (begun-keeps x.ttl x.max_seen x.history_len x.max_messages x.flags s.ids s.messages
    f.legal f.ids f.messages)

pub history_keeps : {x : Settings} {s : State} (calls : List Call) → Fresh x s → Kept (after_all calls s)
history_keeps {x} {s} calls f = all_keep calls s (fresh_keeps f)

pub fresh-starts : {x : Settings} {s : State} → Fresh x s → gateway_of s ≡ started_by x
fresh-starts {x} {s} f =
    ap (λ (n : Node). gateway_in n s.ids s.messages) f.node
    ∙ fresh-gateway x.ttl x.max_seen x.history_len x.max_messages x.flags s.ids s.messages

pub fresh-clock : {x : Settings} {s : State} → Fresh x s → (gateway_of s).clock ≡ 0
fresh-clock {x} {s} f = ap (λ (g : Gateway). g.clock) (fresh-starts f) ∙ started-clock x

pub fresh-flags : {x : Settings} {s : State} → Fresh x s → (gateway_of s).flags ≡ x.flags
fresh-flags {x} {s} f = ap (λ (g : Gateway). g.flags) (fresh-starts f) ∙ started-flags x

-- ---- an admit
module _ (s : State) (ed : Edition) (body : List ℕ) (i : ℕ) (word : Bool) (at : ℕ) where
  -- that takes nothing
  pub admit-none : (r : Result Novelty AdmitError) → plan_in s ed body i word at ≡ no r
      → after (admit ed body i word at) s ≡ s
  unfolding after
  admit-none r e = rw e

  -- that takes a message
  module _ (m id : List ℕ) (e : plan_in s ed body i word at ≡ taken m id) where
    pub taken-number : refusal_at s (admit ed body i word at) ≡ 0
    taken-number = rw e (either (held_at s.node s.ids at (form_of (mode_of s.node.cache.flags) m id))
        (λ t. simp t) (λ t. simp t))

    pub admit-leaves : Typed s.node
        → gateway_of (after (admit ed body i word at) s) ≡ after_admit at m id (gateway_of s)
    unfolding after
    admit-leaves typed = admit-gateway s.node s.ids s.messages ed body i word at m id typed e

    pub admit-clock : Typed s.node → (gateway_of (after (admit ed body i word at) s)).clock ≡ at
    admit-clock typed = ap (λ (g : Gateway). g.clock) (admit-leaves typed) ∙ after_admit-clock at m id (gateway_of s)

-- ---- a heartbeat whose reading is not before the clock
module _ (s : State) (k : Kept s) (at : ℕ) (forward : s.node.clock ≤ at) where
  pub beat-leaves : gateway_of (after (heartbeat at) s) ≡ after_beat at (gateway_of s)
  unfolding after
  beat-leaves =
      beat-gateway s.node s.ids s.messages at k.typed
      (beat-says s.node s.ids s.messages at k.fine forward)

  pub beat-clock : (gateway_of (after (heartbeat at) s)).clock ≡ at
  beat-clock = ap (λ (g : Gateway). g.clock) beat-leaves ∙ after_beat-clock at (gateway_of s)

-- ---- a refused call leaves all as it was
plan_stays : (s : State) (at : ℕ) (p : Plan) → (admit_number (admit_answer s.node s.ids at p) ≡ 0 → ⊥)
    → record {
      node = admit_node s.node s.ids at p;
      ids = admit_seen s.node s.ids at p;
      messages = admit_cache s.node s.ids s.messages at p;
    } ≡ s
plan_stays s at (no r) h = refl
plan_stays s at (taken m id) h =
    absurd (h (either (held_at s.node s.ids at (form_of (mode_of s.node.cache.flags) m id)) (λ t. simp t)
    (λ t. simp t)))

beat-stays : (s : State) (at : ℕ) (r : Result (Unit {0}) BeatError) → beat_answer s.node s.ids s.messages at ≡ r
    → (beat_number r ≡ 0 → ⊥) → beat_node s.node s.ids s.messages at ≡ s.node
unfolding beat_node
beat-stays s at (Ok tt) e h = absurd (h refl)
beat-stays s at (Err why) e h = rw e

pub refused-stays : (c : Call) (s : State) → (refusal_at s c ≡ 0 → ⊥) → after c s ≡ s
unfolding after
refused-stays (admit ed body i word at) s h = plan_stays s at (plan_in s ed body i word at) h
refused-stays (heartbeat at) s h =
    ap (λ (n : Node). record { node = n; ids = s.ids; messages = s.messages })
    (beat-stays s at (beat_answer s.node s.ids s.messages at) refl h)
refused-stays (advertise topic windows out) s h = refl
refused-stays (ask ed body out) s h = refl
refused-stays (serve ed body second out) s h = refl
refused-stays (explain id topic windows) s h = refl

-- ---- no call changes the flags
plan_flags : (n : Node) (ss : List ℕ) (at : ℕ) (p : Plan) → (admit_node n ss at p).cache.flags ≡ n.cache.flags
unfolding later_node
plan_flags n ss at (no r) = refl
plan_flags n ss at (taken m id) =
    either (held_at n ss at (form_of (mode_of n.cache.flags) m id)) (λ t. rw t)
    (λ t. rw t (under-settings m id n.cache).2)

beat-flags : (n : Node) (ss cs : List ℕ) (at : ℕ) (r : Result (Unit {0}) BeatError) → beat_answer n ss cs at ≡ r
    → (beat_node n ss cs at).cache.flags ≡ n.cache.flags
unfolding beat_node later_node
beat-flags n ss cs at (Ok tt) e = rw e (shifted-settings n.cache).2
beat-flags n ss cs at (Err why) e = rw e

pub after-flags : (c : Call) (s : State) → (gateway_of (after c s)).flags ≡ (gateway_of s).flags
unfolding after gateway_in
after-flags (admit ed body i word at) s = plan_flags s.node s.ids at (plan_in s ed body i word at)
after-flags (heartbeat at) s =
    beat-flags s.node s.ids s.messages at (beat_answer s.node s.ids s.messages at) refl
after-flags (advertise topic windows out) s = refl
after-flags (ask ed body out) s = refl
after-flags (serve ed body second out) s = refl
after-flags (explain id topic windows) s = refl

all-flags : (calls : List Call) (s : State) → (gateway_of (after_all calls s)).flags ≡ (gateway_of s).flags
unfolding after_all
all-flags [] s = refl
all-flags (c ∷ cs) s = all-flags cs (after c s) ∙ after-flags c s

pub history_flags : {x : Settings} {s : State} (calls : List Call) → Fresh x s
    → (gateway_of (after_all calls s)).flags ≡ x.flags
history_flags {x} {s} calls f = all-flags calls s ∙ fresh-flags f

-- ---- nor how long and how many ids are seen
plan_lasting : (n : Node) (ss : List ℕ) (at : ℕ) (p : Plan) → Lasting (admit_node n ss at p) n
unfolding later_node
plan_lasting n ss at (no r) = (refl, refl)
plan_lasting n ss at (taken m id) =
    either (held_at n ss at (form_of (mode_of n.cache.flags) m id)) (λ t. rw t (refl, refl)) (λ t. rw t (refl, refl))

beat-lasting : (n : Node) (ss cs : List ℕ) (at : ℕ) (r : Result (Unit {0}) BeatError) → beat_answer n ss cs at ≡ r
    → Lasting (beat_node n ss cs at) n
unfolding beat_node later_node
beat-lasting n ss cs at (Ok tt) e = rw e (refl, refl)
beat-lasting n ss cs at (Err why) e = rw e (refl, refl)

after-lasting : (c : Call) (s : State) → Lasting (after c s).node s.node
unfolding after
after-lasting (admit ed body i word at) s = plan_lasting s.node s.ids at (plan_in s ed body i word at)
after-lasting (heartbeat at) s =
    beat-lasting s.node s.ids s.messages at (beat_answer s.node s.ids s.messages at) refl
after-lasting (advertise topic windows out) s = (refl, refl)
after-lasting (ask ed body out) s = (refl, refl)
after-lasting (serve ed body second out) s = (refl, refl)
after-lasting (explain id topic windows) s = (refl, refl)

pub after-set : {x : Settings} (c : Call) (s : State) → Set x (gateway_of s) → Set x (gateway_of (after c s))
unfolding gateway_in
after-set c s h = let l = after-lasting c s in record { ttl = l.0 ∙ h.ttl; max_seen = l.1 ∙ h.max_seen }

pub all_set : {x : Settings} (calls : List Call) (s : State) → Set x (gateway_of s) → Set x (gateway_of (after_all calls s))
unfolding after_all
all_set [] s h = h
all_set (c ∷ cs) s h = all_set cs (after c s) (after-set c s h)

started-set : (x : Settings) → Set x (started_by x)
unfolding started
started-set x = record { ttl = refl; max_seen = refl }

pub history_set : {x : Settings} {s : State} (calls : List Call) → Fresh x s → Set x (gateway_of (after_all calls s))
history_set {x} {s} calls f = all_set calls s (subst (Set x) (sym (fresh-starts f)) (started-set x))

-- ---- what a call brings
-- an admit brings m exactly where m is vouched for, the body is accepted, and m stands at the index
module _ (flags : ℕ) (ed : Edition) (body : List ℕ) (i : ℕ) (at : ℕ) where
  vouched-brought : (word : Bool) (m : List ℕ) → vouched flags m word ≡ true
      → accept_of (spoken (mode_of flags) ed) body ≡ Ok tt → Placed (mode_of flags) body i m
      → brought flags (admit ed body i word at) ≡ Some m
  unfolding brought
  vouched-brought word m v ok p = rw (ok, p.found, p.bytes, v)

  -- so does each with the host's word
  pub carried-brought : (m : List ℕ) → accept_of (spoken (mode_of flags) ed) body ≡ Ok tt
      → Placed (mode_of flags) body i m
      → brought flags (admit ed body i true at) ≡ Some m
  unfolding vouched
  carried-brought m ok p = vouched-brought true m refl ok p

  module _ (word : Bool) (m : List ℕ) where
    brought-at : (r : Result (ℕ × ℕ) ℕ) → message_at (mode_of flags) body i ≡ r → standing flags word body r ≡ Some m
        → (vouched flags m word ≡ true) × Placed (mode_of flags) body i m
    brought-at (Ok (a, e)) q h =
        either (vouched flags (between body a e) word)
        (λ t.
        let b : Some (between body a e) ≡ Some m = rw t at h in
        let c : between body a e ≡ m = cc in
        (rw (← c) t, record { start = a; next = e; found = q; bytes = c }))
        (λ t. clash (let b = rw t at h in cc))
    brought-at (Err n) q h = clash (cc)

    brought-accepted : (r : Result (Unit {0}) Refusal) → accept_of (spoken (mode_of flags) ed) body ≡ r
        → where_accepted r (standing flags word body (message_at (mode_of flags) body i)) ≡ Some m
        → (vouched flags m word ≡ true) × (accept_of (spoken (mode_of flags) ed) body ≡ Ok tt)
        × Placed (mode_of flags) body i m
    brought-accepted (Ok tt) e h = let p = brought-at (message_at (mode_of flags) body i) refl h in (p.0, e, p.1)
    brought-accepted (Err why) e h = clash (cc)

    pub brought-carried : brought flags (admit ed body i word at) ≡ Some m
        → (vouched flags m word ≡ true) × (accept_of (spoken (mode_of flags) ed) body ≡ Ok tt)
        × Placed (mode_of flags) body i m
    unfolding brought
    brought-carried h = brought-accepted (accept_of (spoken (mode_of flags) ed) body) refl h

brings-brought : (m : List ℕ) (o : Option (List ℕ)) → is_that m o ≡ true → o ≡ Some m
brings-brought m None h = clash (cc)
brings-brought m (Some k) h = ap Some (same_equal k m h)

-- a call brings m exactly where that is what it brings
pub brings_that : (flags : ℕ) (m : List ℕ) (c : Call) → (brings flags m c ≡ true) ↔ (brought flags c ≡ Some m)
brings_that flags m c = (brings-brought m (brought flags c), λ e. rw e (same_self m))

pub brings-exactly : (flags : ℕ) (m : List ℕ) (ed : Edition) (body : List ℕ) (i : ℕ) (word : Bool) (at : ℕ)
    → (brings flags m (admit ed body i word at) ≡ true)
    ↔ ((vouched flags m word ≡ true) × (accept_of (spoken (mode_of flags) ed) body ≡ Ok tt)
    × Placed (mode_of flags) body i m)
brings-exactly flags m ed body i word at = (
  λ h. brought-carried flags ed body i at word m ((brings_that flags m (admit ed body i word at)).0 h),
  λ p. (brings_that flags m (admit ed body i word at)).1
      (vouched-brought flags ed body i at word m p.0 p.1 p.2),
)

-- ---- an admit takes what it brings under the gateway's flags, and nothing else
module _ (s : State) (flags : ℕ) (same : (gateway_of s).flags ≡ flags) (ed : Edition) (body : List ℕ) (i : ℕ)
    (word : Bool) (at : ℕ) where
  here : s.node.cache.flags ≡ flags
  unfolding gateway_in
  here = same

  same_mode : mode_of s.node.cache.flags ≡ mode_of flags
  same_mode = ap mode_of here

  -- a message that passes admission, where the state is well formed and the clock does not go back
  pub brought_plan : (m id : List ℕ) → brought flags (admit ed body i word at) ≡ Some m → gives_id flags m id ≡ true
      → lent_of s.node s.ids s.messages ≡ Ok tt → s.node.clock ≤ at
      → plan_in s ed body i word at ≡ taken m id
  unfolding planned
  brought_plan m id e own fine h =
      let c = brought-carried flags ed body i at word m e in
      let p = c.2 in
      let v = vouched-same s.node.cache.flags m word (rw here c.0) in
      rw (fine, same_mode, c.1, same_mode, p.found, p.bytes, v) (fit_plan s.node at m id (rw here own) h)

  of-fit : (p : List ℕ) (r : Result ((ℕ × ℕ) × (ℕ × ℕ)) Unfit) → admission_of s.node.cache.flags p word ≡ r
      → vouched flags p word ≡ false → TakesNone (plan_fit s.node at p r)
  of-fit p (Err why) e h = (Err (admit-error.Unfit why), refl)
  of-fit p (Ok ((a, b), (c, d))) e h =
      let t = fit-vouched s.node.cache.flags p word a b c d e in clash (let q = rw here at t in cc)

  of_at : (r : Result (ℕ × ℕ) ℕ) → standing flags word body r ≡ None → TakesNone (plan_at s.node at word body r)
  of_at (Ok (a, e)) h =
      let p = between body a e in
      either (vouched flags p word) (λ t. clash (let q = rw t at h in cc))
      (λ t. of-fit p (admission_of s.node.cache.flags p word) refl t)
  of_at (Err n) h = (Err (admit-error.NoMessage n), refl)

  of-body : (r : Result (Unit {0}) Refusal)
      → where_accepted r (standing flags word body (message_at (mode_of flags) body i)) ≡ None
      → TakesNone (plan_body s.node at word body i r)
  of-body (Ok tt) h = rw same_mode (of_at (message_at (mode_of flags) body i) h)
  of-body (Err why) h = (Err (admit-error.Refused why), refl)

  of_lent_lem : (l : Result (Unit {0}) Fault) → where_accepted (accept_of (spoken (mode_of flags) ed) body)
      (standing flags word body (message_at (mode_of flags) body i)) ≡ None
      → TakesNone
      (on_lent (λ (why : Fault). no (Err (admit-error.Faulty why))) l
      (plan_body s.node at word body i (accept_of (spoken (mode_of flags) ed) body)))
  of_lent_lem (Ok tt) h = of-body (accept_of (spoken (mode_of flags) ed) body) h
  of_lent_lem (Err why) h = (Err (admit-error.Faulty why), refl)

  -- where it brings nothing, it takes nothing
  pub unbrought_plan : brought flags (admit ed body i word at) ≡ None
      → (r : Result Novelty AdmitError) × (plan_in s ed body i word at ≡ no r)
  unfolding planned brought
  unbrought_plan h = rw same_mode (of_lent_lem (lent_of s.node s.ids s.messages) h)
