-- Two gateways agree: rounds one way and then the other, as many as what is missing asks for, and neither lacks
-- anything of the topic any more; both then advertise it in identical bytes.
use Rattle.std.specs.Prelude.{ℕ, ◌+◌, ◌/◌, ◌≤◌, ◌≡◌, refl, true, false, length}
use Rattle.std.proofs.Common.{sym, ap, subst, ◌∙◌}
use mathlib.Core.List.{List, [], ◌∷◌, Memᴰ}
use Rattle.basis.specs.declared.Mode.{Mode}
use Rattle.basis.specs.Dialect.{mode_of}
use Rattle.basis.specs.Cases.{either}
use Rattle.rows.specs.Ids.{among}
use Rattle.admission.specs.Admission.{topics_of}
use Rattle.admission.specs.AdmissionLaws.{one-id}
use Rattle.mcache.specs.Messages.{Cached, topics}
use Rattle.mcache.specs.GossipLaws.{among_in}
use Rattle.node.specs.Gateway.{Gateway, knows}
use Rattle.history.specs.History.{State, gateway_of, Settings, Call, after_all, readings}
use Rattle.history.proofs.Laws.{after-append}
use Rattle.agreement.specs.Premises.{MessageSet, Alike, Clock, Premises}
use Rattle.agreement.specs.Round.{missing, lacked, Play, Fair, turned, teller_rounds}
use Rattle.agreement.specs.Rows.{rows_under, rows-known}
use Rattle.agreement.specs.Holding.{Holding}
use Rattle.agreement.proofs.Holding.{set-alike, holding-all}
use Rattle.agreement.specs.Identical.{Kept}
use Rattle.agreement.proofs.Identical.{rows-kept, rows-entry, none-missing, identical-bytes}
use Rattle.agreement.specs.CatchUp.{CaughtUp, all_asked}
use Rattle.agreement.proofs.CatchUp.{teller-stays, caught_up, all-arrived}
use Rattle.agreement.specs.Agree.{calls_a1 as calls_a1_of, calls_b1 as calls_b1_of, calls_a2 as calls_a2_of}
use Rattle.agreement.specs.Agree.{calls_b2 as calls_b2_of, Agree}

-- ---- what a gateway does not lack it does not lack after the other got more, where it had that itself
all_known : (mode : Mode) (topic : List ℕ) (g : Gateway) (cs : List Cached)
    → ((c : Cached) → Memᴰ c cs → among topic (topics mode c) ≡ true → knows g c.id ≡ true)
    → missing mode topic g cs ≡ []
unfolding missing
all_known mode topic g [] h = refl
all_known mode topic g (c ∷ cs) h =
    let r = all_known mode topic g cs (λ k d t. h k (Memᴰ.tail d) t) in
    either (among topic (topics mode c)) (λ t. simp (t, h c (Memᴰ.head refl) t) r) (λ t. simp t r)

module _ {set : List (List ℕ)} {x y : Settings} (ms : MessageSet x.flags set) (alike : Alike x y)
    {firstA pastA leftA firstB pastB left_b firstC pastC left_c : ℕ} {rsA rsB rsC : List ℕ}
    {gotA gotB gotC : List (List ℕ)} {a b c : State}
    (ha : Holding set x firstA pastA rsA leftA gotA a) (hb : Holding set y firstB pastB rsB left_b gotB b)
    (hc : Holding set y firstC pastC rsC left_c gotC c)
    (only : (m : List ℕ) → among m gotC ≡ true → among m gotB ≡ false → among m gotA ≡ true) (topic : List ℕ)
    (none : lacked topic a b ≡ []) where
  module _ (e : Cached) (there : Memᴰ e (gateway_of c).cache)
      (carries : among topic (topics (mode_of (gateway_of c).flags) e) ≡ true) where
    -- it is among those that c got, under the flags of all three
    kept : Kept x.flags e gotC
    kept = rows-kept e (rows_under (sym alike) hc.held.rows) there

    -- so a holds it exactly where it got it
    known : knows (gateway_of a) e.id ≡ among e.message gotA
    known =
        let inside = hc.held.from-set e.message kept.was_got in
        rows-known ms e.message e.id inside kept.own (gateway_of a) ha.held.flags ha.held.from-set
        ha.held.rows

    -- a message that b had, a has got
    had : among e.message gotB ≡ true → among e.message gotA ≡ true
    had t =
        let r = rows-entry e.message (rows_under (sym alike) hb.held.rows) t in
        let f = hc.held.flags ∙ sym hb.held.flags in
        let carried = subst (λ (m : List ℕ). Memᴰ topic (topics_of (mode_of (gateway_of b).flags) m))
        (sym r.message) (among_in topic (topics (mode_of (gateway_of b).flags) e)
        (subst (λ (f : ℕ). among topic (topics (mode_of f) e) ≡ true) f carries)) in
        let s = none-missing (mode_of (gateway_of b).flags) topic (gateway_of a) (gateway_of b).cache r.entry none
        r.there carried in
        let q : r.entry.id ≡ e.id = one-id x.flags e.message r.entry.id e.id r.own kept.own in
        sym known ∙ ap (knows (gateway_of a)) (sym q) ∙ s

    now-known : knows (gateway_of a) e.id ≡ true
    now-known = known ∙ either (among e.message gotB) had (λ t. only e.message kept.was_got t)

  pub still-none : lacked topic a c ≡ []
  still-none = all_known (mode_of (gateway_of c).flags) topic (gateway_of a) (gateway_of c).cache now-known

-- ---- both ways
-- gateway a asks for r rounds, then b asks for s rounds; the premises on the two clocks reach over the rounds in which
-- each asks
module _ {set : List (List ℕ)} {x y : Settings} {calls_a_lem calls_b_lem : List Call} {a b : State}
    (ms : MessageSet x.flags set) (pa : Premises set x calls_a_lem a) (pb : Premises set y calls_b_lem b) (alike : Alike x y)
    (p q : Play) (fp : Fair p x y) (fq : Fair q x y) (same : p.topic ≡ q.topic)
    (r : ℕ) (at : ℕ → ℕ → ℕ) (clock_a : Clock x (readings (all_asked set x y calls_a_lem calls_b_lem a b p r at)))
    (s : ℕ) (at2 : ℕ → ℕ → ℕ) where
  -- after the rounds in which a asks
  abbrev calls_a1 : List Call
  calls_a1 = calls_a1_of ms pa pb alike p q fp fq same r at clock_a s at2

  abbrev calls_b1 : List Call
  calls_b1 = calls_b1_of ms pa pb alike p q fp fq same r at clock_a s at2

  -- and after those in which b asks
  abbrev calls_a2 : List Call
  calls_a2 = calls_a2_of ms pa pb alike p q fp fq same r at clock_a s at2

  abbrev calls_b2 : List Call
  calls_b2 = calls_b2_of ms pa pb alike p q fp fq same r at clock_a s at2

  module _ (clock_b : Clock y (readings calls_b2)) (n : ℕ)
      (few : length (lacked p.topic (after_all calls_a_lem a) (after_all calls_b_lem b)) ≤ n) (enough : (n + 14) / 15 ≤ r)
      (m : ℕ) (few2 : length (lacked p.topic (after_all calls_b1 b) (after_all calls_a1 a)) ≤ m)
      (enough2 : (m + 14) / 15 ≤ s) where
    -- the set under b's flags
    abbrev msb : MessageSet y.flags set
    msb = set-alike alike ms

    first : CaughtUp set x y calls_a_lem calls_b_lem a b p r at
    first = caught_up ms pa pb alike p fp r at clock_a

    second : CaughtUp set y x calls_b1 calls_a1 b a q s at2
    second = caught_up msb first.teller_history first.asker_history (sym alike) q (turned fq) s at2 clock_b

    a_stays : after_all calls_a2 a ≡ after_all calls_a1 a
    a_stays =
        after-append calls_a1 (teller_rounds q s at2 (after_all calls_b1 b) (after_all calls_a1 a)) a
        ∙ teller-stays q s at2 (after_all calls_b1 b) (after_all calls_a1 a)

    a_done : lacked p.topic (after_all calls_a2 a) (after_all calls_b2 b) ≡ []
    a_done =
        ap (λ (z : State). lacked p.topic z (after_all calls_b2 b)) a_stays
        ∙ still-none ms alike (holding-all ms first.asker_history) (holding-all msb first.teller_history)
        (holding-all msb second.asker_history) second.only p.topic
        (all-arrived ms pa pb alike p fp r at clock_a n few enough)

    b_done : lacked p.topic (after_all calls_b2 b) (after_all calls_a2 a) ≡ []
    b_done =
        ap (λ (t : List ℕ). lacked t (after_all calls_b2 b) (after_all calls_a2 a)) same
        ∙ all-arrived msb first.teller_history first.asker_history (sym alike) q (turned fq) s at2 clock_b m
        (subst (λ (t : List ℕ). length (lacked t (after_all calls_b1 b) (after_all calls_a1 a)) ≤ m) same few2) enough2

    pub gateways_agree : Agree ms pa pb alike p q fp fq same r at clock_a s at2
    gateways_agree =
        record {
          history_a = second.teller_history;
          history_b = second.asker_history;
          a_has-all = a_done;
          b_has-all = b_done;
          identical =
              identical-bytes ms second.teller_history second.asker_history alike p.topic fp.topic-short
              a_done b_done p.windows q.windows fp.windows-x fq.windows_y;
        }
