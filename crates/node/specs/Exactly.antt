-- 40, 41 and 42, each exactly: of a lent node and its stores, and of every call that is given them; 40 of a start; and
-- what a heartbeat and a serve tell, whole.
use Rattle.std.specs.Prelude.{Result, Ok, Err, ℕ, ◌*◌, ◌/◌, ◌≤◌, ◌<◌, ◌≡◌, Bool, true, false, ◌↔◌, ◌⊎◌, length, leb, ltb, eqb}
use Rattle.std.proofs.Math.Path.{refl, ap, subst}
use Rattle.std.proofs.Common.{sym, ◌∙◌, ne_eqb}
use mathlib.Core.List.{List, [], ◌∷◌}
use Rattle.std.proofs.Math.Bool.{and-false}
use Rattle.std.proofs.Math.Logic.{inl, inr}
use native.Mathlib.Omega.{arith}
use borrow.Author.Tests.{leb-true, leb-false, lt-leb, ltb-true, ltb-false, lt-ltb, le-ltb, eqb-true, eqb-false, eq-eqb}
use Rattle.basis.specs.declared.Edition.{Edition}
use Rattle.basis.specs.declared.Edition.TheVariants.{V12}
use Rattle.basis.specs.Dialect.{mode_of, spoken}
use Rattle.basis.specs.Cases.{either, clash}
use Rattle.basis.specs.declared.Told.{Told}
use Rattle.basis.specs.Refusals.{bad_setting, bad-store, malformed, clock-back, short-room}
use Rattle.basis.specs.Told.{told, done, fault_told, fine_told}
use Rattle.basis.specs.Writing.{answer}
use Rattle.protobuf.specs.declared.Refusal.{Refusal as Placed}
use Rattle.protobuf.specs.RefusalLaws.{wire_range}
use Rattle.protobuf.specs.Told.{refusal_told}
use Rattle.protobuf.specs.Walk.{between}
use Rattle.protobuf.specs.Encode.{bytes_field}
use Rattle.rpc.specs.Encode.{repeated}
use Rattle.schema.specs.Accept.{accept_of}
use Rattle.ids.specs.Ids.{message_at, id_bytes}
use Rattle.admission.specs.Flags.{max_flags, known_flags}
use Rattle.admission.specs.Admission.{admission_of}
use Rattle.admission.specs.AdmissionLaws.{unfit_range}
use Rattle.seen.specs.State.{id_size, max_ids}
use Rattle.seen.specs.Calls.{cap_of}
use Rattle.mcache.specs.declared.Offer.{Offer}
use Rattle.mcache.specs.declared.Offer.TheVariants as offer
use Rattle.mcache.specs.State.{legal, message_size, max_history, message_limit}
use Rattle.mcache.specs.Calls.{offer_in}
use Rattle.node.specs.declared.Node.{Node}
use Rattle.admission.specs.declared.Unfit.{Unfit}
use Rattle.basis.specs.declared.Fault.{Fault}
use Rattle.node.specs.declared.Reply.{Reply as Counts}
use Rattle.node.specs.declared.ServeError.{ServeError}
use Rattle.node.specs.Parts.{fitting}
use Rattle.node.specs.PartsLaws.{fitting-more, fitting-stop}
use Rattle.node.specs.Told.{admit_told, beat_told, advertise_told, ask_told}
use Rattle.node.specs.Told.{offer_told, explain_told, serve_told}
use Rattle.node.specs.State.{gateway_in, legal_settings, well_formed}
use Rattle.node.specs.Calls.{start_answer, right_sizes, lent_of, plan_fit, plan_at, plan_body, planned, held_at}
use Rattle.node.specs.Calls.{admit_answer, beat_answer, advertise_bytes, advertise_answer, ask_bytes, ask_answer}
use Rattle.node.specs.Gateway.{form_of, having, reply_room, written_in, sent_in, left_in, Reply, sent, short, reply_for}
use Rattle.node.specs.Calls.{explain_answer, remaining, cached_of, room_of, replied, reply_to, serve_answer}
use Rattle.node.specs.WellFormed.{Typed, WellFormed}
use Rattle.node.specs.Laws.{cached-gateway}
use Rattle.node.specs.WellFormedLaws.{fine-well_formed-node, well_formed-node-fine}

-- ---- the lent node and its stores
module _ (n : Node) (ss cs : List ℕ) where
  -- the number, by the tests
  by_setting : ltb (cap_of ss) n.max_seen ≡ true → (fine_told (lent_of n ss cs)).number ≡ bad_setting
  unfolding lent_of
  by_setting t = rw t

  module _ (t : ltb (cap_of ss) n.max_seen ≡ false) where
    by-store : right_sizes n ss cs ≡ false → (fine_told (lent_of n ss cs)).number ≡ bad-store
    unfolding lent_of
    by-store u = rw (t, u)

    by_form : right_sizes n ss cs ≡ true → well_formed n ss cs ≡ false → (fine_told (lent_of n ss cs)).number ≡ malformed
    unfolding lent_of
    by_form u v = rw (t, u, v)

    by-none : right_sizes n ss cs ≡ true → well_formed n ss cs ≡ true → lent_of n ss cs ≡ Ok tt
    unfolding lent_of
    by-none u v = rw (t, u, v)

  -- a seen max above the store's length / 129, rounded down
  pub setting_exactly : ((fine_told (lent_of n ss cs)).number ≡ bad_setting) ↔ (length ss / id_size < n.max_seen)
  unfolding cap_of
  setting_exactly = (
    λ h. either (ltb (cap_of ss) n.max_seen) (λ t. ltb-true (cap_of ss) n.max_seen t)
        (λ t. either (right_sizes n ss cs)
        (λ u. either (well_formed n ss cs)
        (λ v. let e = ap (λ (l : Result (Unit {0}) Fault). (fine_told l).number) (by-none t u v) in absurd (omega arith))
        (λ v. let e = by_form t u v in absurd (omega arith)))
        (λ u. let e = by-store t u in absurd (omega arith))),
    λ h. by_setting (lt-ltb (cap_of ss) n.max_seen h),
  )

  wrong_sizes : right_sizes n ss cs ≡ false → (length ss ≡ n.max_seen * id_size → ⊥)
      ⊎ (length cs ≡ n.cache.max_messages * message_size → ⊥)
  unfolding right_sizes
  wrong_sizes h =
      either (eqb (length ss) (n.max_seen * id_size))
      (λ t. either (eqb (length cs) (n.cache.max_messages * message_size))
      (λ u. clash (let z = rw (t, u) at h in cc))
      (λ u. inr (eqb-false (length cs) (n.cache.max_messages * message_size) u)))
      (λ t. inl (eqb-false (length ss) (n.max_seen * id_size) t))

  sizes_wrong : (length ss ≡ n.max_seen * id_size → ⊥) ⊎ (length cs ≡ n.cache.max_messages * message_size → ⊥)
      → right_sizes n ss cs ≡ false
  unfolding right_sizes
  sizes_wrong (inl h) = rw (ne_eqb (length ss) (n.max_seen * id_size) h)
  sizes_wrong (inr h) =
      rw (ne_eqb (length cs) (n.cache.max_messages * message_size) h)
      (either (eqb (length ss) (n.max_seen * id_size)) (λ t. rw t) (λ t. rw t))

  right_sizes_lem : right_sizes n ss cs ≡ true → (length ss ≡ n.max_seen * id_size)
      × (length cs ≡ n.cache.max_messages * message_size)
  unfolding right_sizes
  right_sizes_lem h =
      either (eqb (length ss) (n.max_seen * id_size))
      (λ t. either (eqb (length cs) (n.cache.max_messages * message_size))
      (λ u. (
        eqb-true (length ss) (n.max_seen * id_size) t,
        eqb-true (length cs) (n.cache.max_messages * message_size) u,
      ))
      (λ u. clash (let z = rw (t, u) at h in cc)))
      (λ t. clash (let z = rw t at h in cc))

  sizes_right : length ss ≡ n.max_seen * id_size → length cs ≡ n.cache.max_messages * message_size
      → right_sizes n ss cs ≡ true
  unfolding right_sizes
  sizes_right a b =
      rw (eq-eqb (length ss) (n.max_seen * id_size) a, eq-eqb (length cs) (n.cache.max_messages * message_size) b)

  -- a store of the wrong length, where it is not that
  pub store-exactly : ((fine_told (lent_of n ss cs)).number ≡ bad-store)
      ↔ ((length ss / id_size < n.max_seen → ⊥)
      × ((length ss ≡ n.max_seen * id_size → ⊥) ⊎ (length cs ≡ n.cache.max_messages * message_size → ⊥)))
  unfolding cap_of
  store-exactly = (
    λ h. either (ltb (cap_of ss) n.max_seen) (λ t. let e = by_setting t in absurd (omega arith))
        (λ t. either (right_sizes n ss cs)
        (λ u. either (well_formed n ss cs)
        (λ v. let e = ap (λ (l : Result (Unit {0}) Fault). (fine_told l).number) (by-none t u v) in absurd (omega arith))
        (λ v. let e = by_form t u v in absurd (omega arith)))
        (λ u. (λ q. let l = ltb-false (cap_of ss) n.max_seen t in omega arith, wrong_sizes u))),
    λ h. either (ltb (cap_of ss) n.max_seen) (λ t. absurd (h.0 (ltb-true (cap_of ss) n.max_seen t)))
        (λ t. by-store t (sizes_wrong h.1)),
  )

  -- both stores have their lengths, and node and stores are not well formed
  pub malformed-exactly : Typed n → ((fine_told (lent_of n ss cs)).number ≡ malformed)
      ↔ ((length ss ≡ n.max_seen * id_size) × (length cs ≡ n.cache.max_messages * message_size)
      × (WellFormed n ss cs → ⊥))
  unfolding cap_of
  malformed-exactly y = (
    λ h. either (ltb (cap_of ss) n.max_seen) (λ t. let e = by_setting t in absurd (omega arith))
        (λ t. either (right_sizes n ss cs)
        (λ u. let s = right_sizes_lem u in (
          s.0,
          s.1,
          λ w.
              let e = ap (λ (l : Result (Unit {0}) Fault). (fine_told l).number) (well_formed-node-fine n ss cs w) in omega arith,
        ))
        (λ u. let e = by-store t u in absurd (omega arith))),
    λ h. either (ltb (cap_of ss) n.max_seen)
        (λ t. let l = ltb-true (cap_of ss) n.max_seen t in absurd (omega arith))
        (λ t. let u = sizes_right h.0 h.1 in
        either (well_formed n ss cs) (λ v. absurd (h.2 (fine-well_formed-node n ss cs y (by-none t u v))))
        (λ v. by_form t u v)),
  )

-- ---- the calls that are given them: 40, 41 and 42 are their numbers exactly where they are that of the lent state,
-- whatever the edition, which lent_of does not take
-- a number that is the fault's where there is one, and else below 40
as_lent : (l : Result (Unit {0}) Fault) (x k : ℕ) → ((why : Fault) → l ≡ Err why → x ≡ (fault_told why).number)
    → (l ≡ Ok tt → x < bad_setting) → bad_setting ≤ k → (x ≡ k) ↔ ((fine_told l).number ≡ k)
as_lent (Err why) x k f g h = let e = f why refl in (λ p. omega arith, λ p. omega arith)
as_lent (Ok _) x k f g h = let b = g refl in (λ p. absurd (omega arith), λ p. absurd (omega arith))

module _ (n : Node) (ss cs : List ℕ) where
  module _ (ed : Edition) (body : List ℕ) (i : ℕ) (word : Bool) (at : ℕ) where
    fit-below : (p : List ℕ) (r : Result ((ℕ × ℕ) × (ℕ × ℕ)) Unfit) → (admit_told (admit_answer n ss at (plan_fit n at p r))).number < bad_setting
    fit-below p (Err why) = omega (arith, (unfit_range why).1)
    fit-below p (Ok ((a, e), (b, f))) =
        either (ltb at n.clock) (λ t. rw t (omega arith))
        (λ t. rw t (either (held_at n ss at (form_of (mode_of n.cache.flags) p (id_bytes p a e b f)))
        (λ u. rw u (omega arith)) (λ u. rw u (omega arith))))

    at-below : (r : Result (ℕ × ℕ) ℕ) → (admit_told (admit_answer n ss at (plan_at n at word body r))).number < bad_setting
    at-below (Err k) = omega arith
    at-below (Ok (a, e)) = fit-below (between body a e) (admission_of n.cache.flags (between body a e) word)

    body_below : (r : Result (Unit {0}) Placed) → (admit_told (admit_answer n ss at (plan_body n at word body i r))).number < bad_setting
    body_below (Err why) = omega (arith, (wire_range why.why).1)
    body_below (Ok _) = at-below (message_at (mode_of n.cache.flags) body i)

    admit-faulty : (why : Fault) → lent_of n ss cs ≡ Err why
        → (admit_told (admit_answer n ss at (planned n ss cs ed body i word at))).number ≡ (fault_told why).number
    unfolding planned
    admit-faulty why e = rw e

    admit-below : lent_of n ss cs ≡ Ok tt
        → (admit_told (admit_answer n ss at (planned n ss cs ed body i word at))).number < bad_setting
    unfolding planned
    admit-below e = rw e (body_below (accept_of (spoken (mode_of n.cache.flags) ed) body))

    pub admit-faults : (k : ℕ) → bad_setting ≤ k
        → ((admit_told (admit_answer n ss at (planned n ss cs ed body i word at))).number ≡ k)
        ↔ ((fine_told (lent_of n ss cs)).number ≡ k)
    admit-faults k h = as_lent (lent_of n ss cs) _ k admit-faulty admit-below h

  module _ (at : ℕ) where
    beat-faulty : (why : Fault) → lent_of n ss cs ≡ Err why
        → (beat_told (beat_answer n ss cs at)).number ≡ (fault_told why).number
    unfolding beat_answer
    beat-faulty why e = rw e

    beat-below : lent_of n ss cs ≡ Ok tt → (beat_told (beat_answer n ss cs at)).number < bad_setting
    unfolding beat_answer
    beat-below e = rw e (either (ltb at n.clock) (λ t. rw t (omega arith)) (λ t. rw t (omega arith)))

    pub beat-faults : (k : ℕ) → bad_setting ≤ k
        → ((beat_told (beat_answer n ss cs at)).number ≡ k) ↔ ((fine_told (lent_of n ss cs)).number ≡ k)
    beat-faults k h = as_lent (lent_of n ss cs) _ k beat-faulty beat-below h

  module _ (topic : List ℕ) (windows : ℕ) (out : List ℕ) where
    advertise-faulty : (why : Fault) → lent_of n ss cs ≡ Err why
        → (advertise_told (advertise_answer n ss cs topic windows out)).number ≡ (fault_told why).number
    unfolding advertise_answer
    advertise-faulty why e = rw e

    advertise-below : lent_of n ss cs ≡ Ok tt
        → (advertise_told (advertise_answer n ss cs topic windows out)).number < bad_setting
    unfolding advertise_answer answer
    advertise-below e =
        rw e
        (either (ltb 1024 (length topic)) (λ t. rw t (omega arith))
        (λ t. rw t (either (leb (length (advertise_bytes n cs topic windows)) (length out)) (λ u. rw u (omega arith))
        (λ u. rw u (omega arith)))))

    pub advertise-faults : (k : ℕ) → bad_setting ≤ k
        → ((advertise_told (advertise_answer n ss cs topic windows out)).number ≡ k)
        ↔ ((fine_told (lent_of n ss cs)).number ≡ k)
    advertise-faults k h = as_lent (lent_of n ss cs) _ k advertise-faulty advertise-below h

  module _ (id topic : List ℕ) (windows : ℕ) where
    explain-faulty : (why : Fault) → lent_of n ss cs ≡ Err why
        → (explain_told (explain_answer n ss cs id topic windows)).number ≡ (fault_told why).number
    unfolding explain_answer
    explain-faulty why e = rw e

    offer_zero : (o : Offer) → (offer_told o).number < bad_setting
    offer_zero offer.Listed = omega arith
    offer_zero offer.NotCached = omega arith
    offer_zero offer.WithoutTopic = omega arith
    offer_zero (offer.OlderWindow age) = omega arith

    explain-below : lent_of n ss cs ≡ Ok tt
        → (explain_told (explain_answer n ss cs id topic windows)).number < bad_setting
    unfolding explain_answer
    explain-below e =
        rw e
        (either (ltb 1024 (length topic)) (λ t. rw t (omega arith))
        (λ t. rw t (offer_zero (offer_in n.cache cs id topic windows))))

    pub explain-faults : (k : ℕ) → bad_setting ≤ k
        → ((explain_told (explain_answer n ss cs id topic windows)).number ≡ k) ↔ ((fine_told (lent_of n ss cs)).number ≡ k)
    explain-faults k h = as_lent (lent_of n ss cs) _ k explain-faulty explain-below h

  module _ (ed : Edition) (body out : List ℕ) where
    ask-faulty : (why : Fault) → lent_of n ss cs ≡ Err why
        → (ask_told (ask_answer n ss cs ed body out)).number ≡ (fault_told why).number
    unfolding ask_answer
    ask-faulty why e = rw e

    ask_on_lem : (r : Result (Unit {0}) Placed) → lent_of n ss cs ≡ Ok tt → accept_of (spoken (mode_of n.cache.flags) ed) body ≡ r
        → (ask_told (ask_answer n ss cs ed body out)).number < bad_setting
    unfolding ask_answer answer
    ask_on_lem (Err why) e a = rw (e, a) (omega (arith, (wire_range why.why).1))
    ask_on_lem (Ok _) e a =
        rw (e, a) (either (leb (length (ask_bytes n ss body)) (length out)) (λ u. rw u (omega arith))
        (λ u. rw u (omega arith)))

    pub ask-faults : (k : ℕ) → bad_setting ≤ k
        → ((ask_told (ask_answer n ss cs ed body out)).number ≡ k) ↔ ((fine_told (lent_of n ss cs)).number ≡ k)
    ask-faults k h = as_lent (lent_of n ss cs) _ k ask-faulty
        (λ e. ask_on_lem (accept_of (spoken (mode_of n.cache.flags) ed) body) e refl) h

  module _ (ed : Edition) (body second out : List ℕ) where
    serve-faulty : (why : Fault) → lent_of n ss cs ≡ Err why
        → (serve_told (serve_answer n ss cs ed body second out)).number ≡ (fault_told why).number
    unfolding serve_answer
    serve-faulty why e = rw e

    reply-below : (r : Reply) → (serve_told (replied r)).number < bad_setting
    reply-below (sent ws ls) = omega arith
    reply-below (short needed) = omega arith

    serve_on_lem : (r q : Result (Unit {0}) Placed) → lent_of n ss cs ≡ Ok tt → accept_of (spoken (mode_of n.cache.flags) ed) body ≡ r
        → accept_of (spoken (mode_of n.cache.flags) V12) second ≡ q
        → (serve_told (serve_answer n ss cs ed body second out)).number < bad_setting
    unfolding serve_answer
    serve_on_lem (Err why) q e a b = rw (e, a) (omega (arith, (wire_range why.why).1))
    serve_on_lem (Ok _) (Err why) e a b = rw (e, a, b) (omega (arith, (wire_range why.why).1))
    serve_on_lem (Ok _) (Ok _) e a b =
        rw (e, a, b) (reply-below (reply_for (room_of out)
        (cached_of n.cache cs (remaining (mode_of n.cache.flags) body second))))

    pub serve-faults : (k : ℕ) → bad_setting ≤ k
        → ((serve_told (serve_answer n ss cs ed body second out)).number ≡ k) ↔ ((fine_told (lent_of n ss cs)).number ≡ k)
    serve-faults k h =
        as_lent (lent_of n ss cs) _ k serve-faulty
        (λ e. serve_on_lem (accept_of (spoken (mode_of n.cache.flags) ed) body)
        (accept_of (spoken (mode_of n.cache.flags) V12) second) e refl refl) h

-- ---- a heartbeat, whole: 40, 41, 42; 31 where now is below the clock, with the clock; else it is done
pub data BeatTells (n : Node) (ss cs : List ℕ) (at : ℕ) : Told → Type 0 where
  faulty : {why : Fault} → lent_of n ss cs ≡ Err why → BeatTells n ss cs at (fault_told why)
  back : lent_of n ss cs ≡ Ok tt → at < n.clock → BeatTells n ss cs at (told clock-back (n.clock ∷ []))
  beats : lent_of n ss cs ≡ Ok tt → n.clock ≤ at → BeatTells n ss cs at (done [])

module _ (n : Node) (ss cs : List ℕ) (at : ℕ) where
  beat-tells : (l : Result (Unit {0}) Fault) → lent_of n ss cs ≡ l → BeatTells n ss cs at (beat_told (beat_answer n ss cs at))
  unfolding beat_answer
  beat-tells (Err why) e = rw e (faulty e)
  beat-tells (Ok _) e =
      either (ltb at n.clock) (λ t. rw (e, t) (back e (ltb-true at n.clock t)))
      (λ t. rw (e, t) (beats e (ltb-false at n.clock t)))

  beat-only : {a : Told} → BeatTells n ss cs at a → beat_told (beat_answer n ss cs at) ≡ a
  unfolding beat_answer
  beat-only (faulty e) = rw e
  beat-only (back e l) = rw (e, lt-ltb at n.clock l)
  beat-only (beats e l) = rw (e, le-ltb at n.clock l)

  pub beat-exactly : (a : Told) → (beat_told (beat_answer n ss cs at) ≡ a) ↔ BeatTells n ss cs at a
  beat-exactly a = (λ e. subst (BeatTells n ss cs at) e (beat-tells (lent_of n ss cs) refl), beat-only)

-- ---- a serve, whole, in the order of its refusals: 40, 41, 42; why the body that asks is refused; why the second one
-- is; 12 where the first of the messages that remain does not fit, with its field's length; else the bytes written,
-- the messages written and those left
abbrev pub FirstFits : ℕ → List (List ℕ) → Type 0
FirstFits room [] = Unit {0}
FirstFits room (m ∷ ms) = length (bytes_field 2 m) ≤ room

-- nothing is refused before 12
pub record Passes (n : Node) (ss cs : List ℕ) (ed : Edition) (body second : List ℕ) : Type 0 where
  pub fine : lent_of n ss cs ≡ Ok tt
  pub asks : accept_of (spoken (mode_of n.cache.flags) ed) body ≡ Ok tt
  pub declines : accept_of (spoken (mode_of n.cache.flags) V12) second ≡ Ok tt

pub data ServeTells (n : Node) (ss cs : List ℕ) (ed : Edition) (body second out : List ℕ) : Told → Type 0 where
  node-faulty : {why : Fault} → lent_of n ss cs ≡ Err why
      → ServeTells n ss cs ed body second out (fault_told why)
  body_refused : {why : Placed} → lent_of n ss cs ≡ Ok tt
      → accept_of (spoken (mode_of n.cache.flags) ed) body ≡ Err why
      → ServeTells n ss cs ed body second out (refusal_told why)
  second-refused : {why : Placed} → lent_of n ss cs ≡ Ok tt
      → accept_of (spoken (mode_of n.cache.flags) ed) body ≡ Ok tt
      → accept_of (spoken (mode_of n.cache.flags) V12) second ≡ Err why
      → ServeTells n ss cs ed body second out (refusal_told why)
  first_short : Passes n ss cs ed body second → {m : List ℕ} {ms : List (List ℕ)}
      → having (gateway_in n ss cs) (remaining (mode_of n.cache.flags) body second) ≡ m ∷ ms
      → reply_room (length out) < length (bytes_field 2 m)
      → ServeTells n ss cs ed body second out (told short-room (length (bytes_field 2 m) ∷ []))
  replies : Passes n ss cs ed body second → {ms : List (List ℕ)}
      → having (gateway_in n ss cs) (remaining (mode_of n.cache.flags) body second) ≡ ms
      → FirstFits (reply_room (length out)) ms
      → ServeTells n ss cs ed body second out
      (done
      (length (repeated (bytes_field 2) (sent_in (reply_room (length out)) ms))
      ∷ length (sent_in (reply_room (length out)) ms)
      ∷ length (left_in (reply_room (length out)) ms)
      ∷ []))

-- the first fits where some are written, and only there
none_written : (room : ℕ) (m : List ℕ) (ms : List (List ℕ)) → eqb (written_in room (m ∷ ms)) 0 ≡ true
    → room < length (bytes_field 2 m)
none_written room m ms t =
    either (leb (length (bytes_field 2 m)) room)
    (λ u.
    let a = fitting-more 2 room m ms (leb-true _ _ u) in
    let b = eqb-true (written_in room (m ∷ ms)) 0 t in
    absurd (omega arith))
    (λ u. leb-false _ _ u)

some_written : (room : ℕ) (m : List ℕ) (ms : List (List ℕ)) → length (bytes_field 2 m) ≤ room
    → eqb (written_in room (m ∷ ms)) 0 ≡ false
some_written room m ms h =
    let a = fitting-more 2 room m ms h in ne_eqb (written_in room (m ∷ ms)) 0 (λ z. omega arith)

module _ (n : Node) (ss cs : List ℕ) (ed : Edition) (body second out : List ℕ) where
  abbrev Tells : Told → Type 0
  Tells = ServeTells n ss cs ed body second out

  by-messages : Passes n ss cs ed body second → (ms : List (List ℕ))
      → having (gateway_in n ss cs) (remaining (mode_of n.cache.flags) body second) ≡ ms
      → Tells (serve_told (reply_to ms out))
  unfolding room_of fitting
  by-messages p [] h = replies p h tt
  by-messages p (m ∷ ms) h =
      let room = reply_room (length out) in
      either (eqb (written_in room (m ∷ ms)) 0) (λ t. rw t (first_short p h (none_written room m ms t)))
      (λ t. rw t (replies p h
      (either (leb (length (bytes_field 2 m)) room) (λ u. leb-true _ _ u)
      (λ u. clash (let z = eq-eqb (written_in room (m ∷ ms)) 0 (fitting-stop 2 room m ms (leb-false _ _ u)) in cc)))))

  messages-only : (ms : List (List ℕ)) → FirstFits (reply_room (length out)) ms
      → serve_told (reply_to ms out)
      ≡ done
      (length (repeated (bytes_field 2) (sent_in (reply_room (length out)) ms))
      ∷ length (sent_in (reply_room (length out)) ms)
      ∷ length (left_in (reply_room (length out)) ms)
      ∷ [])
  unfolding room_of fitting
  messages-only [] h = refl
  messages-only (m ∷ ms) h = rw (some_written (reply_room (length out)) m ms h)

  short-only : (m : List ℕ) (ms : List (List ℕ)) → reply_room (length out) < length (bytes_field 2 m)
      → serve_told (reply_to (m ∷ ms) out) ≡ told short-room (length (bytes_field 2 m) ∷ [])
  unfolding room_of
  short-only m ms h =
      rw (eq-eqb (written_in (reply_room (length out)) (m ∷ ms)) 0 (fitting-stop 2 (reply_room (length out)) m ms h))

  -- where nothing is refused before, the reply
  passes-reply : Passes n ss cs ed body second
      → serve_answer n ss cs ed body second out ≡ reply_to
      (having (gateway_in n ss cs) (remaining (mode_of n.cache.flags) body second)) out
  unfolding serve_answer
  passes-reply p = rw (
    p.fine,
    p.asks,
    p.declines,
    cached-gateway n ss cs
        (remaining (mode_of n.cache.flags) body second),
  )

  serve-tells : (l : Result (Unit {0}) Fault) (r q : Result (Unit {0}) Placed) → lent_of n ss cs ≡ l
      → accept_of (spoken (mode_of n.cache.flags) ed) body ≡ r
      → accept_of (spoken (mode_of n.cache.flags) V12) second ≡ q
      → Tells (serve_told (serve_answer n ss cs ed body second out))
  unfolding serve_answer
  serve-tells (Err why) r q e a b = rw e (node-faulty e)
  serve-tells (Ok _) (Err why) q e a b = rw (e, a) (body_refused e a)
  serve-tells (Ok _) (Ok _) (Err why) e a b = rw (e, a, b) (second-refused e a b)
  serve-tells (Ok _) (Ok _) (Ok _) e a b =
      let p : Passes n ss cs ed body second = record { fine = e; asks = a; declines = b } in
      subst (λ (r : Result Counts ServeError). Tells (serve_told r)) (sym (passes-reply p))
      (by-messages p (having (gateway_in n ss cs) (remaining (mode_of n.cache.flags) body second)) refl)

  serve-only : {a : Told} → Tells a → serve_told (serve_answer n ss cs ed body second out) ≡ a
  unfolding serve_answer
  serve-only (node-faulty e) = rw e
  serve-only (body_refused e a) = rw (e, a)
  serve-only (second-refused e a b) = rw (e, a, b)
  serve-only (first_short p {m} {ms} h l) =
      ap serve_told (passes-reply p) ∙ ap (λ (x : List (List ℕ)). serve_told (reply_to x out)) h ∙ short-only m ms l
  serve-only (replies p {ms} h l) =
      ap serve_told (passes-reply p) ∙ ap (λ (x : List (List ℕ)). serve_told (reply_to x out)) h ∙ messages-only ms l

  pub serve-tells-exactly : (a : Told)
      → (serve_told (serve_answer n ss cs ed body second out) ≡ a) ↔ ServeTells n ss cs ed body second out a
  serve-tells-exactly a = (
    λ e. subst (ServeTells n ss cs ed body second out) e
        (serve-tells (lent_of n ss cs) (accept_of (spoken (mode_of n.cache.flags) ed) body)
        (accept_of (spoken (mode_of n.cache.flags) V12) second) refl refl refl),
    λ t. serve-only t,
  )

-- ---- a start: max_seen above 256, history_len 0 or above 16, max_messages above 64, flags above the known ones
module _ (max_seen history max flags : ℕ) where
  abbrev Illegal : Type 0
  Illegal =
      (max_ids < max_seen) ⊎ ((history ≡ 0) ⊎ ((max_history < history) ⊎ ((message_limit < max) ⊎ (max_flags < flags))))

  start_illegal : (fine_told (start_answer max_seen history max flags)).number ≡ bad_setting → Illegal
  unfolding start_answer legal_settings legal known_flags
  start_illegal h =
      either (leb max_seen max_ids)
      (λ a. either (leb 1 history)
      (λ b. either (leb history max_history)
      (λ d. either (leb max message_limit)
      (λ f. either (leb flags max_flags)
      (λ g. clash (let z : 0 ≡ bad_setting = rw (a, b, d, f, g) at h in omega arith))
      (λ g. inr (inr (inr (inr (leb-false flags max_flags g))))))
      (λ f. inr (inr (inr (inl (leb-false max message_limit f))))))
      (λ d. inr (inr (inl (leb-false history max_history d)))))
      (λ b. inr (inl (let l = leb-false 1 history b in omega arith))))
      (λ a. inl (leb-false max_seen max_ids a))

  illegal_start : Illegal → legal_settings max_seen history max flags ≡ false
  unfolding legal_settings legal known_flags
  illegal_start (inl a) = rw (lt-leb max_seen max_ids a)
  illegal_start (inr (inl b)) = rw (lt-leb 1 history (omega arith)) (and-false (leb max_seen max_ids))
  illegal_start (inr (inr (inl d))) =
      rw (lt-leb history max_history d) (rw (and-false (leb 1 history)) (and-false (leb max_seen max_ids)))
  illegal_start (inr (inr (inr (inl f)))) =
      rw (lt-leb max message_limit f, and-false (leb history max_history), and-false (leb 1 history))
      (and-false (leb max_seen max_ids))
  illegal_start (inr (inr (inr (inr g)))) =
      rw (
        lt-leb flags max_flags g,
        and-false (leb max message_limit),
        and-false (leb history max_history),
        and-false (leb 1 history),
      )
      (and-false (leb max_seen max_ids))

  pub start-exactly : ((fine_told (start_answer max_seen history max flags)).number ≡ bad_setting)
      ↔ ((max_ids < max_seen) ⊎ ((history ≡ 0) ⊎ ((max_history < history) ⊎ ((message_limit < max) ⊎ (max_flags < flags)))))
  unfolding start_answer
  start-exactly = (start_illegal, λ h. rw (illegal_start h))
