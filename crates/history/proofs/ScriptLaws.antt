-- Calls that are written out: they leave the gateway that is computed, and a message is got and new in them as often
-- as is computed.
use Rattle.std.specs.Prelude.{Some, ℕ, ◌+◌, ◌≤◌, ◌≡◌, refl, true, cond, List, [], ◌∷◌}
use Rattle.std.proofs.Common.{sym, ap, ap₂, subst, ◌∙◌, arith}
use Rattle.basis.specs.Dialect.{mode_of}
use Rattle.basis.specs.declared.Edition.{Edition}
use Rattle.basis.specs.Cases.{either}
use Rattle.rows.specs.Ids.{same_bytes}
use Rattle.node.specs.Gateway.{form_of}
use Rattle.node.specs.Calls.{taken, held_at}
use Rattle.node.specs.Laws.{is_new_lem}
use Rattle.history.specs.History.{State, gateway_of, Settings, Fresh, admit, heartbeat, plan_in, after, after_all}
use Rattle.history.specs.History.{brought, brings, times_got, count_at, times, times_new}
use Rattle.history.specs.History.{is_new as newAnswer, is_duplicate}
use Rattle.history.specs.Laws.{started_by, Kept}
use Rattle.history.proofs.Laws.{node-clock, after-keeps, fresh_keeps, fresh-starts, fresh-clock, fresh-flags}
use Rattle.history.proofs.Laws.{admit-leaves, admit-clock, beat-leaves, beat-clock, after-flags, carried-brought}
use Rattle.history.proofs.Laws.{brought_plan}
use Rattle.history.specs.Script.{Act, gets, beats, asks, calls_of, gateway_after, got_by, got_in, new_by}
use Rattle.history.specs.Script.{new_in}
use Rattle.history.specs.Script.{Written, nothing, got, beaten, asked}
use Rattle.history.specs.ScriptLaws.{Acted}

-- ---- what follows for a state that calls leave from a fresh one, under its flags
-- the counts of one admit
module _ (flags : ℕ) (s : State) (kept : Kept s) (ed : Edition) (body m id : List ℕ) (at : ℕ)
    (b : brought flags (admit ed body 0 true at) ≡ Some m) (e : plan_in s ed body 0 true at ≡ taken m id) (k : List ℕ)
  where
    admit-got : cond (brings flags k (admit ed body 0 true at)) 1 0 ≡ got_by k (gets ed body m id at)
    admit-got = rw b

    admit_new_lem : count_at newAnswer flags k s (admit ed body 0 true at) ≡ new_by k (gets ed body m id at) (gateway_of s)
    admit_new_lem =
        let n = is_new_lem s.node s.ids s.messages kept.fine at m id in
        rw (b, e, n) (either (held_at s.node s.ids at (form_of (mode_of s.node.cache.flags) m id)) (λ t. rw t)
        (λ t. rw t))

    admit-answered : got_by k (gets ed body m id at) ≡ count_at newAnswer flags k s (admit ed body 0 true at)
        + count_at is_duplicate flags k s (admit ed body 0 true at)
    admit-answered =
        rw (b, e)
        (either (same_bytes m k)
        (λ t. either (held_at s.node s.ids at (form_of (mode_of s.node.cache.flags) m id)) (λ u. rw (t, u))
        (λ u. rw (t, u)))
        (λ t. rw t))

-- an ask
ask-kept : (flags : ℕ) (xs : List Act) (s : State) (ed : Edition) (body out : List ℕ) → Acted flags xs s
    → Acted flags (asks ed body out ∷ xs) s
unfolding calls_of gateway_after got_in new_in after_all times times_got brought after
ask-kept flags xs s ed body out rest =
    record {
      gateway = rest.gateway;
      times_got_lem = λ k. ap (λ (n : ℕ). 0 + n) (rest.times_got_lem k);
      times_new_lem = λ k. ap (λ (n : ℕ). 0 + n) (rest.times_new_lem k);
      answered = λ k. let r = rest.answered k in omega arith;
    }

pub acted : (flags : ℕ) (xs : List Act) (s : State) → Kept s → (gateway_of s).flags ≡ flags
    → Written flags (gateway_of s).clock xs → Acted flags xs s
unfolding calls_of gateway_after got_in new_in after_all times times_got brought
acted flags [] s kept same nothing =
    record { gateway = refl; times_got_lem = λ m. refl; times_new_lem = λ m. refl; answered = λ m. refl }
acted flags (gets ed body m id at ∷ xs) s kept same (got clock now c forward w) =
    let b = carried-brought flags ed body 0 at m c.accepted c.placed in
    let e = brought_plan s flags same ed body 0 true at m id b c.own kept.fine
    (subst (λ (k : ℕ). k ≤ at) (node-clock s) forward) in
    let a = admit ed body 0 true at in
    let g = admit-leaves s ed body 0 true at m id e kept.typed in
    let later = sym (admit-clock s ed body 0 true at m id e kept.typed) in
    let rest = acted flags xs (after a s) (after-keeps a s kept) (after-flags a s ∙ same)
    (subst (λ (k : ℕ). Written flags k xs) later w) in
    record {
      gateway = rest.gateway ∙ ap (gateway_after xs) g;
      times_got_lem = λ k. ap₂ (λ (a b : ℕ). a + b) (admit-got flags s kept ed body m id at b e k) (rest.times_got_lem k);
      times_new_lem = λ k. ap₂ (λ (a b : ℕ). a + b) (admit_new_lem flags s kept ed body m id at b e k) (rest.times_new_lem k
          ∙ ap (new_in k xs) g);
      answered = λ k.
          let r = rest.answered k in
          let o = admit-answered flags s kept ed body m id at b e k in omega arith;
    }
acted flags (beats at ∷ xs) s kept same (beaten clock now forward w) =
    let f = subst (λ (k : ℕ). k ≤ at) (node-clock s) forward in
    let g = beat-leaves s kept at f in
    let later = sym (beat-clock s kept at f) in
    let rest = acted flags xs (after (heartbeat at) s) (after-keeps (heartbeat at) s kept)
    (after-flags (heartbeat at) s ∙ same) (subst (λ (k : ℕ). Written flags k xs) later w) in
    record {
      gateway = rest.gateway ∙ ap (gateway_after xs) g;
      times_got_lem = λ k. ap (λ (n : ℕ). 0 + n) (rest.times_got_lem k);
      times_new_lem = λ k. ap (λ (n : ℕ). 0 + n) (rest.times_new_lem k ∙ ap (new_in k xs) g);
      answered = λ k. let r = rest.answered k in omega arith;
    }
acted flags (asks ed body out ∷ xs) s kept same (asked w) =
    ask-kept flags xs s ed body out (acted flags xs s kept same w)

-- ---- from a fresh node
pub fresh-acted : {x : Settings} {s : State} (xs : List Act) → Fresh x s → Written x.flags 0 xs
    → Acted x.flags xs s
fresh-acted {x} {s} xs f w =
    acted x.flags xs s (fresh_keeps f) (fresh-flags f)
    (subst (λ (k : ℕ). Written x.flags k xs) (sym (fresh-clock f)) w)

-- the gateway that they leave
pub fresh-leaves : {x : Settings} {s : State} (xs : List Act) → Fresh x s → Written x.flags 0 xs
    → gateway_of (after_all (calls_of xs) s) ≡ gateway_after xs (started_by x)
fresh-leaves xs f w = (fresh-acted xs f w).gateway ∙ ap (gateway_after xs) (fresh-starts f)

-- how often a message is new in them
pub fresh-new : {x : Settings} {s : State} (xs : List Act) → Fresh x s → Written x.flags 0 xs → (m : List ℕ)
    → times_new x.flags m (calls_of xs) s ≡ new_in m xs (started_by x)
fresh-new xs f w m = (fresh-acted xs f w).times_new_lem m ∙ ap (new_in m xs) (fresh-starts f)
