-- n missing messages arrive within n/15 rounds, rounded up: after so many undisturbed rounds at most n less fifteen for
-- each are missing, and no call in them is refused. The calls of the rounds belong to the gateways' histories, which
-- stay under the premises.
use Rattle.std.specs.Prelude.{ℕ, zero, suc, ◌+◌, ◌-◌, ◌*◌, ◌/◌, ◌≤◌, ◌≡◌, refl, List, [], ◌∷◌, ◌++◌, length, get_or}
use Rattle.std.proofs.Common.{sym, ap, subst, ◌∙◌, append-nil, append_assoc, arith, drop_of_length-le}
use Rattle.basis.specs.Cases.{either, clash}
use Rattle.rows.specs.Ids.{among}
use Rattle.history.specs.History.{State, Settings, Call, after, after_all, readings, beats, all_done}
use Rattle.history.proofs.Laws.{after-append, readings-append, beats-append, done-append, admits-beats}
use Rattle.agreement.specs.Premises.{MessageSet, Alike, Members, none_left, member, Clock, Premises}
use Rattle.agreement.specs.Round.{lacked, Play, onward, Fair, fair-onward, reply_of, served_count, asker_round}
use Rattle.agreement.specs.Round.{teller_round, asker_rounds, teller_rounds}
use Rattle.agreement.specs.Holding.{got_next, got_all, past_all, Holding}
use Rattle.agreement.proofs.Holding.{set-alike, holding-fresh}
use Rattle.agreement.proofs.Holding.{holding_on, holding-all}
use Rattle.agreement.proofs.Arrive.{round_done}
use Rattle.agreement.specs.CatchUp.{RoundsDone, all_asked, all_told, CaughtUp}

-- ---- calls, and then more calls
pub got-append : (flags : ℕ) (got : List (List ℕ)) (cs ds : List Call)
    → got_all flags got (cs ++ ds) ≡ got_all flags (got_all flags got cs) ds
unfolding got_all
got-append flags got [] ds = refl
got-append flags got (c ∷ cs) ds = got-append flags (got_next flags got c) cs ds

members-append : {flags : ℕ} {set : List (List ℕ)} {cs ds : List Call} → Members flags set cs → Members flags set ds
    → Members flags set (cs ++ ds)
members-append none_left n = n
members-append (member a m) n = member a (members-append m n)

-- ---- rounds have no heartbeats, and the teller reads no clock
asker-beats : (p : Play) (r : ℕ) (at : ℕ → ℕ → ℕ) (a b : State) → beats (asker_rounds p r at a b) ≡ 0
unfolding asker_rounds asker_round beats
asker-beats p zero at a b = refl
asker-beats p (suc r) at a b =
    let c = asker_round p (at 0) a b in
    let d = asker_rounds (onward p) r (λ k. at (suc k)) (after_all c a) (after_all (teller_round p a b) b) in
    let e = beats-append c d in
    let f = admits-beats (p.admit_edition 0) (reply_of p a b) (at 0) 0 (served_count p a b) in
    let g = asker-beats (onward p) r (λ k. at (suc k)) (after_all c a) (after_all (teller_round p a b) b) in
    omega arith

teller-beats : (p : Play) (r : ℕ) (at : ℕ → ℕ → ℕ) (a b : State) → beats (teller_rounds p r at a b) ≡ 0
unfolding teller_rounds teller_round beats
teller-beats p zero at a b = refl
teller-beats p (suc r) at a b =
    let c = teller_round p a b in
    let d = teller_rounds (onward p) r (λ k. at (suc k)) (after_all (asker_round p (at 0) a b) a) (after_all c b) in
    let e = beats-append c d in
    let g = teller-beats (onward p) r (λ k. at (suc k)) (after_all (asker_round p (at 0) a b) a) (after_all c b) in
    omega arith

teller-readings : (p : Play) (r : ℕ) (at : ℕ → ℕ → ℕ) (a b : State) → readings (teller_rounds p r at a b) ≡ []
unfolding teller_rounds teller_round readings
teller-readings p zero at a b = refl
teller-readings p (suc r) at a b = teller-readings (onward p) r (λ k. at (suc k)) (after_all (asker_round p (at 0) a b) a)
    (after_all (teller_round p a b) b)

-- and rounds leave the teller as it was
pub teller-stays : (p : Play) (r : ℕ) (at : ℕ → ℕ → ℕ) (a b : State) → after_all (teller_rounds p r at a b) b ≡ b
unfolding teller_rounds teller_round after_all after
teller-stays p zero at a b = refl
teller-stays p (suc r) at a b = teller-stays (onward p) r (λ k. at (suc k)) (after_all (asker_round p (at 0) a b) a) b

-- ---- rounds, one after the other
nil-left : (p : Play) (a b : State) → length (lacked p.topic (after_all [] a) (after_all [] b)) ≤ length
    (lacked p.topic a b) - 15 * 0
unfolding after_all
nil-left p a b = omega arith

rounds-done : {set : List (List ℕ)} {x y : Settings} (ms : MessageSet x.flags set) (alike : Alike x y)
    {firstA pastA leftA firstB pastB left_b : ℕ} {rsB : List ℕ} {gotA gotB : List (List ℕ)} (p : Play) → Fair p x y
    → (r : ℕ) (at : ℕ → ℕ → ℕ) (rs : List ℕ) {a b : State}
    → Holding set x firstA pastA (readings (asker_rounds p r at a b) ++ rs) leftA gotA a
    → Holding set y firstB pastB rsB left_b gotB b → RoundsDone x y set gotA gotB p r at a b
unfolding asker_rounds teller_rounds got_all
rounds-done ms alike p fair zero at rs {a} {b} ha hb =
    record {
      asker-members = none_left;
      asker-done = all_done;
      teller-members = none_left;
      teller-done = all_done;
      missing-left = nil-left p a b;
      only = λ m t u. clash (cc);
    }
rounds-done {set} {x} {y} ms alike {firstA} {pastA} {leftA} {gotA} {gotB} p fair (suc r) at rs {a} {b} ha hb =
    let c = asker_round p (at 0) a b in
    let t = teller_round p a b in
    let d = asker_rounds (onward p) r (λ k. at (suc k)) (after_all c a) (after_all t b) in
    let u = teller_rounds (onward p) r (λ k. at (suc k)) (after_all c a) (after_all t b) in
    let e : readings (c ++ d) ++ rs ≡ readings c ++ (readings d ++ rs) =
    ap (λ (l : List ℕ). l ++ rs) (readings-append c d) ∙ append_assoc (readings c) (readings d) rs in
    let one = round_done ms alike p fair (at 0) (readings d ++ rs)
    (subst (λ (l : List ℕ). Holding set x firstA pastA l leftA gotA a) e ha) hb in
    let rest = rounds-done ms alike {gotA = got_all x.flags gotA c} (onward p) (fair-onward fair) r (λ k. at (suc k)) rs
    one.asker-holds one.teller-holds in
    let f = one.fewer in
    let g = rest.missing-left in
    record {
      asker-members = members-append one.asker-members rest.asker-members;
      asker-done = done-append one.asker-done rest.asker-done;
      teller-members = members-append one.teller-members rest.teller-members;
      teller-done = done-append one.teller-done rest.teller-done;
      missing-left = rw (after-append c d a, after-append t u b) (omega arith);
      only = λ m v w.
          either (among m (got_all x.flags gotA c)) (λ z. one.only m z w)
          (λ z. rest.only m (ap (among m) (sym (got-append x.flags gotA c d)) ∙ v) z);
    }

-- the premise on the asker's clock reaches over the rounds
module _ {set : List (List ℕ)} {x y : Settings} {calls_a_lem calls_b_lem : List Call} {a b : State}
    (ms : MessageSet x.flags set) (pa : Premises set x calls_a_lem a) (pb : Premises set y calls_b_lem b) (alike : Alike x y)
    (p : Play) (fair : Fair p x y) (r : ℕ) (at : ℕ → ℕ → ℕ)
    (clock : Clock x (readings (all_asked set x y calls_a_lem calls_b_lem a b p r at))) where
  abbrev askers : List Call
  askers = asker_rounds p r at (after_all calls_a_lem a) (after_all calls_b_lem b)

  abbrev tellers : List Call
  tellers = teller_rounds p r at (after_all calls_a_lem a) (after_all calls_b_lem b)

  abbrev firstly : ℕ
  firstly = get_or (readings calls_a_lem ++ (readings askers ++ [])) 0 0

  before-rounds : Holding set x firstly (past_all 0 calls_a_lem) (readings askers ++ []) 0 (got_all x.flags [] calls_a_lem)
      (after_all calls_a_lem a)
  before-rounds =
      let e : readings (calls_a_lem ++ askers) ≡ readings calls_a_lem ++ (readings askers ++ []) =
      readings-append calls_a_lem askers ∙ ap (λ (l : List ℕ). readings calls_a_lem ++ l)
      (sym (append-nil (readings askers))) in
      let f = pa.few_heartbeats in
      holding_on ms calls_a_lem (readings askers ++ []) 0
      (holding-fresh (readings calls_a_lem ++ (readings askers ++ [])) (beats calls_a_lem + 0) pa.fresh pa.set-seen
      pa.set-cached (subst (Clock x) e clock) (omega arith))
      pa.members

  rounds : RoundsDone x y set (got_all x.flags [] calls_a_lem) (got_all y.flags [] calls_b_lem) p r at
      (after_all calls_a_lem a) (after_all calls_b_lem b)
  rounds = rounds-done ms alike p fair r at [] before-rounds (holding-all (set-alike alike ms) pb)

  pub caught_up : CaughtUp set x y calls_a_lem calls_b_lem a b p r at
  caught_up =
      let ba = beats-append calls_a_lem askers in
      let bb = beats-append calls_b_lem tellers in
      let za = asker-beats p r at (after_all calls_a_lem a) (after_all calls_b_lem b) in
      let zb = teller-beats p r at (after_all calls_a_lem a) (after_all calls_b_lem b) in
      let fa = pa.few_heartbeats in
      let fb = pb.few_heartbeats in
      let e : readings (calls_b_lem ++ tellers) ≡ readings calls_b_lem =
      readings-append calls_b_lem tellers ∙ ap (λ (l : List ℕ). readings calls_b_lem ++ l)
      (teller-readings p r at (after_all calls_a_lem a) (after_all calls_b_lem b)) ∙ append-nil (readings calls_b_lem) in
      record {
        missing-left = rw (after-append calls_a_lem askers a, after-append calls_b_lem tellers b) rounds.missing-left;
        asker-done = rounds.asker-done;
        teller-done = rounds.teller-done;
        asker_history =
            record {
              fresh = pa.fresh;
              members = members-append pa.members rounds.asker-members;
              set-seen = pa.set-seen;
              set-cached = pa.set-cached;
              clock = clock;
              few_heartbeats = omega arith;
            };
        teller_history =
            record {
              fresh = pb.fresh;
              members = members-append pb.members rounds.teller-members;
              set-seen = pb.set-seen;
              set-cached = pb.set-cached;
              clock = subst (Clock y) (sym e) pb.clock;
              few_heartbeats = omega arith;
            };
        only = λ m t u. rounds.only m (ap (among m) (sym (got-append x.flags [] calls_a_lem askers)) ∙ t) u;
      }

  -- so nothing is missing after as many rounds as n/15, rounded up
  pub all-arrived : (n : ℕ) → length (lacked p.topic (after_all calls_a_lem a) (after_all calls_b_lem b)) ≤ n
      → (n + 14) / 15 ≤ r
      → lacked p.topic (after_all (all_asked set x y calls_a_lem calls_b_lem a b p r at) a)
      (after_all (all_told set x y calls_a_lem calls_b_lem a b p r at) b) ≡ []
  all-arrived n few enough =
      let l = caught_up.missing-left in
      drop_of_length-le (lacked p.topic (after_all (calls_a_lem ++ askers) a) (after_all (calls_b_lem ++ tellers) b)) {i = 0}
      (omega arith)
