-- Under the premises a message that is delivered is got: it is answered new the first time that it comes in, duplicate
-- every other time, and never refused.
use Rattle.std.specs.Prelude.{Option, Some, None, ℕ, ◌+◌, ◌≤◌, ◌≡◌, Bool, true, false, cond, ◌||◌, leb}
use Rattle.std.proofs.Math.Path.{refl, ap}
use Rattle.std.proofs.Common.{sym, subst, ◌∙◌, le-leb}
use Rattle.std.proofs.Math.Bool.{or-true, or-false}
use mathlib.Core.List.{List, [], ◌∷◌, ◌++◌}
use native.Mathlib.Omega.{arith}
use Rattle.std.proofs.lemmas.Bool.{lt-leb}
use Rattle.basis.specs.declared.Edition.{Edition}
use Rattle.basis.specs.Cases.{either, clash}
use Rattle.rows.specs.Ids.{same_bytes, among}
use Rattle.rows.specs.IdsLaws.{same_self, same_equal, among-append}
use Rattle.history.specs.History.{State, Settings, Call, admit, heartbeat, advertise, ask, serve, after_all, reading}
use Rattle.history.specs.History.{readings, first_of, beat, beats, brought, is_that, brings, times_got}
use Rattle.history.specs.History.{after, explain, is_new, is_duplicate, count_at, times, times_new, times_duplicate}
use Rattle.history.proofs.Laws.{readings-append, beats-append, brings_that}
use Rattle.agreement.specs.Premises.{MessageSet, MemberAt, Members, none_left, member, Premises}
use Rattle.agreement.specs.Holding.{with_got, got_by, got_next, got_all, Holding}
use Rattle.agreement.proofs.Holding.{admit-answers, admit-done}
use Rattle.agreement.specs.Holding.{past_all, past_next}
use Rattle.agreement.proofs.Holding.{holding-start, holding-next, members-here, members-rest, holding_on}
use Rattle.agreement.specs.Once.{One, not-this, first_time, once_more, Several, Delivered}

-- ---- a message among those got, and one more got
pub with-again : (m p : List ℕ) (got : List (List ℕ)) → among m got ≡ true → among m (with_got p got) ≡ true
with-again m p got h = either (among p got) (λ t. rw t h) (λ t. rw (t, among-append m got (p ∷ []), h))

pub with-this : (m : List ℕ) (got : List (List ℕ)) → among m (with_got m got) ≡ true
unfolding among
with-this m got =
    either (among m got) (λ t. with-again m m got t) (λ t. rw (t, among-append m got (m ∷ []), t, same_self m))

pub with_other : (m p : List ℕ) (got : List (List ℕ)) → among m got ≡ false → same_bytes p m ≡ false
    → among m (with_got p got) ≡ false
unfolding among
with_other m p got h d = either (among p got) (λ t. rw t h) (λ t. rw (t, among-append m got (p ∷ []), h, d))

module _ (m : List ℕ) (got : List (List ℕ)) where
  -- what comes in is among those got
  next_that : (o : Option (List ℕ)) → is_that m o ≡ true → among m (got_by got o) ≡ true
  next_that None h = clash (cc)
  next_that (Some k) h = rw (same_equal k m h) (with-this m got)

  -- and nothing else changes
  next-same : (o : Option (List ℕ)) → is_that m o ≡ false → among m (got_by got o) ≡ among m got
  next-same None h = refl
  next-same (Some k) h =
      either (among m got) (λ t. with-again m k got t ∙ sym t) (λ t. with_other m k got t h ∙ sym t)

-- the messages got are those that some call brings
got-from : (flags : ℕ) (m : List ℕ) (calls : List Call) (got : List (List ℕ))
    → among m (got_all flags got calls) ≡ (among m got || leb 1 (times_got flags m calls))
unfolding got_all times_got
got-from flags m [] got = rw (lt-leb 1 0 (omega arith)) (sym (or-false (among m got)))
got-from flags m (c ∷ cs) got =
    either (brings flags m c)
    (λ t.
    let r = got-from flags m cs (got_next flags got c) in
    let n = next_that m got (brought flags c) t in
    let k : leb 1 (1 + times_got flags m cs) ≡ true = le-leb 1 (1 + times_got flags m cs) (omega arith) in
    rw (t, k) (r ∙ rw n (sym (or-true (among m got)))))
    (λ t.
    let r = got-from flags m cs (got_next flags got c) in
    let n = next-same m got (brought flags c) t in
    let k : 0 + times_got flags m cs ≡ times_got flags m cs = omega arith in
    rw (t, k) (r ∙ rw n))

pub got-exactly : (flags : ℕ) (m : List ℕ) (calls : List Call)
    → among m (got_all flags [] calls) ≡ leb 1 (times_got flags m calls)
unfolding among
got-exactly flags m calls = got-from flags m calls []

-- ---- some calls
one_more_lem : {a b c d e f : ℕ} {was now : Bool} → One a b c was now → Several d e f now
    → Several (a + d) (b + e) (c + f) was
one_more_lem {a} {b} {c} {d} {e} {f} (not-this p q r t) s =
    let z = s.answered in
    record {
      answered = omega arith;
      never = λ u. let v = s.never (t ∙ u) in omega arith;
      once = λ u l. let v = s.once (t ∙ u) (omega arith) in omega arith;
    }
one_more_lem {a} {b} {c} {d} {e} {f} (first_time p q r t u) s =
    let z = s.answered in
    let v = s.never u in
    record { answered = omega arith; never = λ w. clash (cc); once = λ w l. omega arith }
one_more_lem {a} {b} {c} {d} {e} {f} (once_more p q r t u) s =
    let z = s.answered in
    let v = s.never u in
    record { answered = omega arith; never = λ w. omega arith; once = λ w l. clash (cc) }

module _ {set : List (List ℕ)} {x : Settings} (ms : MessageSet x.flags set) (m : List ℕ) where
  module _ {first past : ℕ} {got : List (List ℕ)} {s : State} where
    admit-one : {rs : List ℕ} {left : ℕ} (ed : Edition) (body : List ℕ) (i : ℕ) (word : Bool) (at : ℕ)
        → Holding set x first past (at ∷ rs) left got s → MemberAt x.flags set (admit ed body i word at)
        → One (cond (brings x.flags m (admit ed body i word at)) 1 0)
        (count_at is_new x.flags m s (admit ed body i word at))
        (count_at is_duplicate x.flags m s (admit ed body i word at))
        (among m got) (among m (got_next x.flags got (admit ed body i word at)))
    admit-one ed body i word at h inside =
        let c = admit ed body i word at in
        either (brings x.flags m c)
        (λ t.
        let a = admit-answers ed body i word at h ms m ((brings_that x.flags m c).0 t) (inside m t) in
        let n = next_that m got (brought x.flags c) t in
        either (among m got) (λ u. once_more (rw t) (rw (t, a, u)) (rw (t, a, u)) u n)
        (λ u. first_time (rw t) (rw (t, a, u)) (rw (t, a, u)) u n))
        (λ t. not-this (rw t) (rw t) (rw t) (next-same m got (brought x.flags c) t))

    call_one : (rs : List ℕ) (left : ℕ) (c : Call)
        → Holding set x first past (reading c ++ rs) (beat c + left) got s → MemberAt x.flags set c
        → One (cond (brings x.flags m c) 1 0) (count_at is_new x.flags m s c) (count_at is_duplicate x.flags m s c)
        (among m got) (among m (got_next x.flags got c))
    unfolding brought
    call_one rs left (admit ed body i word at) h inside = admit-one ed body i word at h inside
    call_one rs left (heartbeat at) h inside = not-this refl refl refl refl
    call_one rs left (advertise topic windows out) h inside = not-this refl refl refl refl
    call_one rs left (ask ed body out) h inside = not-this refl refl refl refl
    call_one rs left (serve ed body second out) h inside = not-this refl refl refl refl
    call_one rs left (explain id topic windows) h inside = not-this refl refl refl refl

  some-calls : {first past : ℕ} {got : List (List ℕ)} {s : State} (calls : List Call)
      → Holding set x first past (readings calls) (beats calls) got s → Members x.flags set calls
      → Several (times_got x.flags m calls) (times_new x.flags m calls s) (times_duplicate x.flags m calls s)
      (among m got)
  unfolding times_got times readings beats
  some-calls [] h ins =
      record { answered = refl; never = λ t. refl; once = λ t l. absurd (omega arith) }
  some-calls {past = past} {got = got} {s = s} (c ∷ cs) h ins =
      one_more_lem (call_one (readings cs) (beats cs) c h (members-here ins))
      (some-calls {past = past_next past c} {got = got_next x.flags got c} {s = after c s} cs
      (holding-next ms (readings cs) (beats cs) c h (members-here ins)) (members-rest ins))

-- ---- for a history under the premises
module _ {set : List (List ℕ)} {x : Settings} {calls : List Call} {s : State} (ms : MessageSet x.flags set)
    (p : Premises set x calls s) (m : List ℕ) where
  -- a message got is answered new or duplicate, each time
  pub new-or-duplicate : times_got x.flags m calls
      ≡ times_new x.flags m calls s + times_duplicate x.flags m calls s
  new-or-duplicate = (some-calls ms m calls (holding-start p) p.members).answered

  -- one that is got at least once is answered new exactly once, and duplicate the other times
  pub new-exactly-once : 1 ≤ times_got x.flags m calls → (times_new x.flags m calls s ≡ 1)
      × (times_got x.flags m calls ≡ 1 + times_duplicate x.flags m calls s)
  unfolding among
  new-exactly-once h =
      let n = (some-calls ms m calls (holding-start p) p.members).once refl h in
      (n, new-or-duplicate ∙ ap (λ (k : ℕ). k + times_duplicate x.flags m calls s) n)

-- ---- an admit of a history that brings a message: how it is answered, after the calls before it
members-split : {flags : ℕ} {set : List (List ℕ)} (cs ds : List Call) → Members flags set (cs ++ ds)
    → Members flags set cs × Members flags set ds
members-split [] ds h = (none_left, h)
members-split (c ∷ cs) ds h =
    let r = members-split cs ds (members-rest h) in
    (member (members-here h) r.0, r.1)

module _ {set : List (List ℕ)} {x : Settings} {s : State} (ms : MessageSet x.flags set) (before rest : List Call)
    (ed : Edition) (body : List ℕ) (i : ℕ) (word : Bool) (at : ℕ)
    (p : Premises set x (before ++ (admit ed body i word at ∷ rest)) s) where
  abbrev calls : List Call
  calls = before ++ (admit ed body i word at ∷ rest)

  at-admit : Holding set x (first_of calls) (past_all 0 before) (at ∷ readings rest) (beats rest)
      (got_all x.flags [] before) (after_all before s)
  unfolding readings beats
  at-admit =
      let e = readings-append before (admit ed body i word at ∷ rest) in
      let f : beats calls ≡ beats before + beats rest =
      beats-append before (admit ed body i word at ∷ rest) ∙ omega arith in
      holding_on ms before (at ∷ readings rest) (beats rest)
      (subst (λ (n : ℕ). Holding set x (first_of calls) 0 (readings before ++ (at ∷ readings rest)) n [] s) f
      (subst (λ (l : List ℕ). Holding set x (first_of calls) 0 l (beats calls) [] s) e (holding-start p)))
      (members-split before (admit ed body i word at ∷ rest) p.members).0

  pub delivered_is-got : (m : List ℕ) → brings x.flags m (admit ed body i word at) ≡ true
      → Delivered x.flags m before ed body i word at s
  delivered_is-got m t =
      let c = admit ed body i word at in
      let inside = members-here (members-split before (c ∷ rest) p.members).1 m t in
      let e = (brings_that x.flags m c).0 t in
      let a = admit-answers ed body i word at at-admit ms m e inside in
      let g = got-exactly x.flags m before in
      record {
        first_time = λ z. rw (a, g, lt-leb 1 (times_got x.flags m before) (omega arith));
        other_times = λ l. rw (a, g, le-leb 1 (times_got x.flags m before) l);
        not-refused = admit-done ed body i word at at-admit ms m e inside;
      }
