-- One round: every call in it is done, all that is served is got, and of what the asker lacks fifteen messages arrive,
-- or all.
use Prim.Native.Nat.{ℕ, zero, suc, ◌+◌, ◌-◌, ◌≤◌, ◌<◌}
use Rattle.std.specs.Prelude.{Some, ◌≡◌, refl, ◌||◌, length, take, eqb}
use Rattle.std.proofs.Math.Path.{sym, ap}
use Rattle.std.proofs.Common.{subst, ◌∙◌, length-append, length-take-le}
use Rattle.std.proofs.Math.Bool.{true, false}
use mathlib.Core.List.{List, [], ◌∷◌, ◌++◌}
use native.Mathlib.Omega.{arith}
use Rattle.std.proofs.Math.ListN.{get_or}
use Rattle.std.proofs.Math.Seq.{take-length}
use borrow.Author.Tests.{eqb-true, eqb-false}
use Rattle.basis.specs.Dialect.{mode_of}
use Rattle.basis.specs.declared.Edition.{Edition}
use Rattle.basis.specs.Cases.{either, clash}
use Rattle.rows.specs.Ids.{same_bytes, among, distinct}
use Rattle.rows.specs.IdsLaws.{same_equal, among-append, among-at, among-take, distinct-take, distinct_append, all-few}
use Rattle.admission.specs.Admission.{gives_id}
use Rattle.node.specs.PartsLaws.{fitting-le}
use Rattle.mcache.specs.Messages.{get}
use Rattle.node.specs.Gateway.{told_of, knows, lacking}
use Rattle.node.specs.Calls.{served_of, room_of}
use Rattle.history.specs.History.{State, gateway_of, Settings, admit, advertise, ask, serve, after, after_all}
use Rattle.history.specs.History.{readings, all_done, done, brought, admits}
use Rattle.agreement.specs.Premises.{MessageSet, Alike, none_left, member}
use Rattle.agreement.specs.Round.{lacked, Play, Fair, advert_of, request_of, reply_of, served_count, asker_round}
use Rattle.agreement.specs.Round.{teller_round}
use Rattle.agreement.specs.Rows.{rows-known}
use Rattle.agreement.specs.Holding.{with_got, got_by, got_next, got_all, Holding}
use Rattle.agreement.proofs.Holding.{member-none, member-some}
use Rattle.agreement.proofs.Holding.{admit-done, holding-admit}
use Rattle.agreement.proofs.Once.{with-again, with-this, with_other}
use Rattle.agreement.specs.HandOver.{lacking-exactly}
use Rattle.agreement.specs.Delivered.{Delivers, brought_delivered}
use Rattle.agreement.specs.Lacking.{Got}
use Rattle.agreement.proofs.Lacking.{told-got, wants-once, wants-count}
use Rattle.agreement.specs.Played.{wants, replies}
use Rattle.agreement.proofs.Played.{advert-done, request-done, reply-done, replied, served-is}
use Rattle.agreement.proofs.Played.{replies-count, reply-at, reply-got, enough, reply-delivers}
use Rattle.agreement.specs.Arrive.{Admitted, RoundDone}

-- ---- lists of ids
-- one of the first k stands at an index below k
record Stands (i : List ℕ) (k : ℕ) (l : List (List ℕ)) : Type 0 where
  index : ℕ
  early : index < k
  within : index < length l
  there : get_or l index [] ≡ i

stands : (k : ℕ) (i : List ℕ) (l : List (List ℕ)) → among i (take k l) ≡ true → Stands i k l
unfolding among
stands zero i l h = clash (cc)
stands (suc k) i [] h = clash (cc)
stands (suc k) i (j ∷ l) h =
    either (same_bytes j i)
    (λ t. record { index = 0; early = omega arith; within = omega arith; there = same_equal j i t })
    (λ t.
    let r = stands k i l (simp t at h) in
    let e = r.early in
    let w = r.within in
    record { index = suc r.index; early = omega arith; within = omega arith; there = r.there })

module _ {set : List (List ℕ)} {x : Settings} (ms : MessageSet x.flags set) {first past : ℕ} (rs : List ℕ) {left : ℕ}
    (eds : ℕ → Edition) (body : List ℕ) (at : ℕ → ℕ) (served : List (List ℕ)) (n : ℕ)
    (brings-each : (i : ℕ) → i < n → brought x.flags (admit (eds i) body i true (at i)) ≡ Some (get_or served i []))
    (inside : (i : ℕ) → i < n → among (get_or served i []) set ≡ true) (few : n ≤ length served) where
  pub all-admitted : (k i : ℕ) {got : List (List ℕ)} {s : State} → i + k ≤ n
      → Holding set x first past (readings (admits eds body at i k) ++ rs) left got s
      → Admitted set x first past rs left got served i k (admits eds body at i k) s
  unfolding admits readings got_all after_all
  all-admitted zero i l h =
      record {
        members = none_left;
        none-refused = all_done;
        holding = h;
        keeps = λ m g. g;
        has = λ j a b. absurd (omega arith);
        only = λ m t u. clash (cc);
      }
  all-admitted (suc k) i {got} {s} l h =
      let m = get_or served i [] in
      let e = brings-each i (omega arith) in
      let ins = member-some x.flags set (admit (eds i) body i true (at i)) m e (inside i (omega arith)) in
      let next = holding-admit (eds i) body i true (at i) h ms ins in
      let r = all-admitted k (suc i) (omega arith) next in
      let g : got_next x.flags got (admit (eds i) body i true (at i)) ≡ with_got m got = ap (got_by got) e in
      record {
        members = member ins r.members;
        none-refused = done (admit-done (eds i) body i true (at i) h ms m e (inside i (omega arith))) r.none-refused;
        holding = r.holding;
        keeps = λ o t. r.keeps o (ap (among o) g ∙ with-again o m got t);
        has = λ j a b.
            either (eqb j i)
            (λ t. rw (eqb-true j i t) (r.keeps m (ap (among m) g ∙ with-this m got)))
            (λ t. let z = eqb-false j i t in r.has j (omega arith) (omega arith));
        only = λ o t u.
            either (same_bytes m o)
            (λ v. among-at o served i (omega arith) (sym (same_equal m o v)))
            (λ v. r.only o t (ap (among o) g ∙ with_other o m got u v));
      }

module _ {set : List (List ℕ)} {x y : Settings} (ms : MessageSet x.flags set) (alike : Alike x y)
    {firstA pastA leftA firstB pastB left_b : ℕ} {rsB : List ℕ} {gotA gotB : List (List ℕ)} {a b : State} (p : Play)
    (fair : Fair p x y) (at : ℕ → ℕ) (rs : List ℕ)
    (ha : Holding set x firstA pastA (readings (asker_round p at a b) ++ rs) leftA gotA a)
    (hb : Holding set y firstB pastB rsB left_b gotB b) where
  abbrev named : List (List ℕ)
  named = wants ha hb p fair

  abbrev handed : List (List ℕ)
  handed = replies ha hb p fair

  served-few : served_count p a b ≤ length named
  unfolding served_of
  served-few =
      let f = fitting-le 2 (room_of (p.reply_out 0)) handed in
      let n = replies-count ha hb p fair in
      let e = served-is ha hb p fair in
      omega arith

  got_of : (i : ℕ) → i < served_count p a b → Got y.flags (get_or named i []) (get_or handed i []) gotB
  got_of i l = let f = served-few in reply-got ha hb p fair i (omega arith)

  -- what is served is delivered, in the mode of both
  in_mode : Delivers (mode_of x.flags) handed (p.reply_out 0)
  in_mode = subst (λ (f : ℕ). Delivers (mode_of f) handed (p.reply_out 0)) (sym alike) (reply-delivers ha hb p fair)

  reply-brings : (i : ℕ) → i < served_count p a b
      → brought x.flags (admit (p.admit_edition 0 i) (reply_of p a b) i true (at i)) ≡ Some (get_or handed i [])
  reply-brings i l =
      let e = served-is ha hb p fair in
      rw (replied ha hb p fair)
      (brought_delivered x.flags handed (p.reply_out 0) in_mode (p.admit_edition 0 i) i (at i)
      (omega arith))

  inside : (i : ℕ) → i < served_count p a b → among (get_or handed i []) set ≡ true
  inside i l = hb.held.from-set (get_or handed i []) (got_of i l).among-got

  arrived : Admitted set x firstA pastA rs leftA gotA handed 0 (served_count p a b)
      (admits (p.admit_edition 0) (reply_of p a b) at 0 (served_count p a b)) a
  unfolding asker_round readings
  arrived =
      let f = served-few in
      let n = replies-count ha hb p fair in
      all-admitted ms rs (p.admit_edition 0) (reply_of p a b) at handed (served_count p a b) reply-brings inside
      (omega arith) (served_count p a b) 0 (omega arith) ha

  -- ---- the asker afterwards
  abbrev later : State
  later = after_all (admits (p.admit_edition 0) (reply_of p a b) at 0 (served_count p a b)) a

  abbrev more : List (List ℕ)
  more = got_all x.flags gotA (admits (p.admit_edition 0) (reply_of p a b) at 0 (served_count p a b))

  abbrev tells : List (List ℕ)
  tells = told_of p.topic p.windows (gateway_of b)

  -- an id that b tells of is held by an asker exactly where its message was got
  known-got : {rs2 : List ℕ} {left2 : ℕ} {got : List (List ℕ)} {s : State} → Holding set x firstA pastA rs2 left2 got s
      → (i : List ℕ) → among i tells ≡ true
      → knows (gateway_of s) i ≡ among (get i (gateway_of b).cache) got
  known-got {s} h i t =
      let g = told-got hb p.topic p.windows fair.windows_y i t in
      let m = get i (gateway_of b).cache in
      let own = subst (λ (f : ℕ). gives_id f m i ≡ true) (sym alike) g.own in
      rows-known ms m i (hb.held.from-set m g.among-got) own (gateway_of s) h.held.flags h.held.from-set
      h.held.rows

  abbrev still : List (List ℕ)
  still = lacking (gateway_of later) tells

  -- what is lacking then was lacking before
  still-named : (i : List ℕ) → among i still ≡ true → among i named ≡ true
  unfolding wants
  still-named i t =
      let l = (lacking-exactly (gateway_of later) i tells).0 t in
      let g = known-got arrived.holding i l.0 in
      let before = known-got ha i l.0 in
      let n : among (get i (gateway_of b).cache) more ≡ false = sym g ∙ l.1 in
      (lacking-exactly (gateway_of a) i tells).1 (
        l.0,
        before ∙ either (among (get i (gateway_of b).cache) gotA)
            (λ u. clash (let z = arrived.keeps (get i (gateway_of b).cache) u in cc)) (λ u. u),
      )

  -- and was not served
  still_unserved : (i : List ℕ) → among i still ≡ true → among i (take (served_count p a b) named) ≡ false
  still_unserved i t =
      either (among i (take (served_count p a b) named))
      (λ u.
      let q = stands (served_count p a b) i named u in
      let l = (lacking-exactly (gateway_of later) i tells).0 t in
      let g = known-got arrived.holding i l.0 in
      let m : get_or handed q.index [] ≡ get i (gateway_of b).cache = reply-at ha hb p fair q.index q.within
      ∙ ap (λ (j : List ℕ). get j (gateway_of b).cache) q.there in
      let e = q.early in
      let h : among (get i (gateway_of b).cache) more ≡ true = ap (λ (o : List ℕ). among o more) (sym m)
      ∙ arrived.has q.index (omega arith) (omega arith) in
      let z = l.1 in
      clash (cc))
      (λ u. u)

  named-once : distinct named ≡ true
  unfolding wants
  named-once = wants-once hb p.topic p.windows fair.windows_y a

  named_count : length named ≡ length (lacked p.topic a b)
  unfolding wants
  named_count = wants-count hb p.topic p.windows fair.windows_y a

  take-among : (k : ℕ) (i : List ℕ) (l : List (List ℕ)) → among i (take k l) ≡ true → among i l ≡ true
  take-among k i l h = either (among i l) (λ t. t) (λ t. clash (let z = among-take k i l t in cc))

  fifteen_fewer : length (lacked p.topic later b) ≤ length (lacked p.topic a b) - 15
  fifteen_fewer =
      let k = served_count p a b in
      let d = distinct_append still (take k named) (wants-once hb p.topic p.windows fair.windows_y later)
      (distinct-take k named named-once) still_unserved in
      let f = all-few named (still ++ take k named) d
      (λ i t.
      either (among i still) (λ u. still-named i u)
      (λ u. take-among k i named (let z : (among i still || among i (take k named)) ≡ true = sym
      (among-append i still (take k named)) ∙ t in simp u at z))) in
      let s = served-few in
      let l = length-append still (take k named) in
      let m = length-take-le k named s in
      let e = enough ha hb p fair in
      let v = served-is ha hb p fair in
      let n = named_count in
      let w = wants-count hb p.topic p.windows fair.windows_y later in
      omega arith

  -- all that is handed over the teller got
  handed-got : (m : List ℕ) → among m handed ≡ true → among m gotB ≡ true
  handed-got m t =
      let q = stands (length handed) m handed (ap (among m) (take-length handed) ∙ t) in
      let w = q.within in
      let n = replies-count ha hb p fair in
      ap (λ (o : List ℕ). among o gotB) (sym q.there) ∙ (reply-got ha hb p fair q.index (omega arith)).among-got

  pub round_done : RoundDone set x y firstA pastA leftA firstB pastB left_b rs rsB gotA gotB p at a b
  unfolding asker_round teller_round after_all after got_all brought
  round_done =
      record {
        asker-members =
            member (member-none x.flags set (ask (p.ask_edition 0) (advert_of p b) (p.request_out 0)) refl)
            arrived.members;
        asker-done = done (request-done ha hb p fair) arrived.none-refused;
        teller-members =
            member (member-none y.flags set (advertise p.topic p.windows (p.advert_out 0)) refl)
            (member
            (member-none y.flags set (serve (p.serve_edition 0) (request_of p a b) [] (p.reply_out 0)) refl)
            none_left);
        teller-done = done (advert-done ha hb p fair) (done (reply-done ha hb p fair) all_done);
        asker-holds = arrived.holding;
        teller-holds = hb;
        fewer = fifteen_fewer;
        only = λ m t u. handed-got m (arrived.only m t u);
      }
