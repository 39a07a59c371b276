-- 40, 41 and 42 of the message cache, each exactly where the scope's table has it, and 29 of `gossip_ids`: by their
-- numbers, over the answer of the call itself. `lookup` says why `get` gave what it gave.
use Rattle.std.specs.Prelude.{Bool, Result, Ok, Err, ◌≡◌, ℕ, ◌*◌, ◌<◌, true, cond, ◌⊎◌, ◌↔◌, List, [], ◌∷◌, length, ◌==◌, ◌≢◌, nat_le, nat_lt}
use Rattle.std.specs.Result.{result_and}
use Rattle.std.proofs.Math.Path.{refl}
use Rattle.std.proofs.Common.{sym, ◌∙◌, inl, inr, ⊎_elim, arith}
use borrow.Author.Tests.{leb-true, leb-false, ltb-true, ltb-false, eqb-true, eq-eqb}
use Rattle.basis.specs.declared.Edition.{Edition}
use Rattle.basis.specs.Dialect.{mode_of, spoken}
use Rattle.basis.specs.Cases.{either, clash}
use Rattle.basis.specs.Refusals.{bad_setting, bad-store, malformed, topic-too_long}
use Rattle.basis.specs.Told.{told, fault_told}
use Rattle.protobuf.specs.RefusalLaws.{wire_range}
use Rattle.protobuf.specs.Walk.{between}
use Rattle.ids.specs.Ids.{message_at, id_bytes}
use Rattle.schema.specs.Accept.{accept_of}
use Rattle.admission.specs.Admission.{admission_of}
use Rattle.admission.specs.AdmissionLaws.{unfit_range}
use Rattle.admission.specs.Flags.{max_flags, known_flags}
use Rattle.mcache.specs.declared.MessageCache.{MessageCache}
use Rattle.mcache.specs.declared.Started.{Started}
use Rattle.mcache.specs.declared.PutDone.{PutDone}
use Rattle.mcache.specs.declared.Shifted.{Shifted}
use Rattle.mcache.specs.declared.GossipIds.{GossipIds}
use Rattle.protobuf.specs.declared.Refusal.{Refusal}
use Rattle.admission.specs.declared.Unfit.{Unfit}
use Rattle.basis.specs.declared.Fault.TheVariants as fault
use Rattle.basis.specs.declared.Fault.{Fault}
use Rattle.mcache.specs.declared.GossipError.TheVariants as gossip
use Rattle.mcache.specs.declared.GossipError.{GossipError}
use Rattle.mcache.specs.Told.{gossip_told}
use Rattle.mcache.specs.State.{legal, well_formed, message_size, message_limit, max_history}
use Rattle.mcache.specs.Calls.{start_number, lent_number, put_number, lookup_number, gossip_number, start_answer}
use Rattle.mcache.specs.Calls.{lent_of, index_in, Plan, answered, plan_under, plan_fit, plan_at, plan_body}
use Rattle.mcache.specs.Calls.{plan_lent, planned, lookup_answer, gossip_on, gossip_answer}
use Rattle.mcache.specs.WellFormed.{Typed, WellFormed}
use Rattle.mcache.specs.WellFormedLaws.{fine-well_formed, well_formed-fine}
use Rattle.mcache.specs.Unique.{Starts, Puts, Shifts, Gossips}

-- ---- 40
-- history_len is 0 or above 16, max_messages is above 64, or the flags are above the known ones
abbrev pub Illegal : ℕ → ℕ → ℕ → Type 0
Illegal history max flags =
    (history ≡ 0) ⊎ (max_history < history) ⊎ (message_limit < max) ⊎ (max_flags < flags)

start-exactly : (history max flags : ℕ) → (start_number (start_answer history max flags) ≡ bad_setting)
    ↔ Illegal history max flags
unfolding start_answer legal known_flags
start-exactly history max flags =
    either (nat_le 1 history)
    (λ a. either (nat_le history max_history)
    (λ b. either (nat_le max message_limit)
    (λ d. either (nat_le flags max_flags)
    (λ f. (
      λ e. clash (let z = simp (a, b, d, f) at e in omega arith),
      λ i. absurd (⊎_elim (λ u. let l = leb-true 1 history a in omega arith)
          (⊎_elim (λ u. let l = leb-true history max_history b in omega arith)
          (⊎_elim (λ u. let l = leb-true max message_limit d in omega arith)
          (λ u. let l = leb-true flags max_flags f in omega arith))) i),
    ))
    (λ f. (λ e. inr (inr (inr (leb-false flags max_flags f))), λ i. simp (a, b, d, f))))
    (λ d. (λ e. inr (inr (inl (leb-false max message_limit d))), λ i. simp (a, b, d))))
    (λ b. (λ e. inr (inl (leb-false history max_history b)), λ i. simp (a, b))))
    (λ a. (λ e. inl (let l = leb-false 1 history a in omega arith), λ i. simp a))

pub bad_setting_exactly : (history max flags : ℕ) (r : Started) → Starts history max flags r
    → (start_number r.answer ≡ bad_setting) ↔ Illegal history max flags
bad_setting_exactly history max flags r s = rw s.answer (start-exactly history max flags)

-- what a tested state answers of a topic
abbrev by_topic : List ℕ → Result (Unit {0}) GossipError
by_topic topic = cond (nat_lt 1024 (length topic)) (Err (gossip.TopicTooLong (length topic))) (Ok tt)

-- ---- 41 and 42: what the number of an answer says of the lent cache and store
pub record Exactly (c : MessageCache) (st : List ℕ) (n : ℕ) : Type 0 where
  -- the store's length is not max_messages times 4,096
  pub wrong_length : (n ≡ bad-store) ↔ (length st ≢ c.max_messages * message_size)
  -- it is, and the state is not well formed
  pub ill_formed : (n ≡ malformed) ↔ ((length st ≡ c.max_messages * message_size) × (WellFormed c st → ⊥))

module _ (c : MessageCache) (st : List ℕ) where
  other_length : lent_of c st ≡ Err fault.BadStore → length st ≢ c.max_messages * message_size
  unfolding lent_of
  other_length e h =
      either (well_formed c st)
      (λ u. clash (let z = simp (eq-eqb (length st) (c.max_messages * message_size) h, u) at e in cc))
      (λ u. clash (let z = simp (eq-eqb (length st) (c.max_messages * message_size) h, u) at e in cc))

  right_length : (lent_of c st ≢ (Err fault.BadStore)) → length st ≡ c.max_messages * message_size
  unfolding lent_of
  right_length n =
      either (length st == c.max_messages * message_size)
      (λ t. eqb-true (length st) (c.max_messages * message_size) t) (λ t. absurd (n (simp t)))

  never-setting : lent_of c st ≢ Err fault.BadSetting
  unfolding lent_of
  never-setting e =
      either (length st == c.max_messages * message_size)
      (λ t. either (well_formed c st) (λ u. clash (let z = simp (t, u) at e in cc))
      (λ u. clash (let z = simp (t, u) at e in cc)))
      (λ t. clash (let z = simp t at e in cc))

  module _ (y : Typed c) where
    store-says : lent_of c st ≡ Err fault.BadStore → Exactly c st bad-store
    store-says e =
        record {
          wrong_length = (λ n. other_length e, λ n. refl);
          ill_formed = (λ n. absurd (omega arith), λ w. absurd (other_length e w.0));
        }

    malformed-says : lent_of c st ≡ Err fault.Malformed → Exactly c st malformed
    malformed-says e =
        let l = right_length (λ b. clash (let z = sym e ∙ b in cc)) in
        record {
          wrong_length = (λ n. absurd (omega arith), λ n. absurd (n l));
          ill_formed = (λ n. (l, λ w. clash (let z = sym e ∙ well_formed-fine c st w in cc)), λ w. refl);
        }

    fault-says : (why : Fault) → lent_of c st ≡ Err why → Exactly c st (fault_told why).number
    fault-says fault.BadSetting e = absurd (never-setting e)
    fault-says fault.BadStore e = store-says e
    fault-says fault.Malformed e = malformed-says e

    fine-says : (n : ℕ) → lent_of c st ≡ Ok tt → n < bad_setting → Exactly c st n
    fine-says n e h =
        let w = fine-well_formed c st y e in
        record {
          wrong_length = (λ m. absurd (omega arith), λ m. absurd (m w.room));
          ill_formed = (λ m. absurd (omega arith), λ m. absurd (m.1 w));
        }

    -- ---- lent and shift
    by-lent : (l : Result (Unit {0}) Fault) → lent_of c st ≡ l → Exactly c st (lent_number l)
    by-lent (Ok tt) e = fine-says 0 e (omega arith)
    by-lent (Err why) e = fault-says why e

    pub lent-exactly : Exactly c st (lent_number (lent_of c st))
    lent-exactly = by-lent (lent_of c st) refl

    pub shift-lent-exactly : (r : Shifted) → Shifts c st r → Exactly c st (lent_number r.answer)
    shift-lent-exactly r s = rw s.answer lent-exactly

    -- ---- get, and why
    by_lookup : (l : Result (Unit {0}) Fault) (r : Result Bool Fault) → lookup_number r ≡ 0 → lent_of c st ≡ l
        → Exactly c st (lookup_number (result_and l r))
    by_lookup (Ok tt) r z e = fine-says (lookup_number r) e (omega arith)
    by_lookup (Err why) r z e = fault-says why e

    pub lookup_lent-exactly : (id : List ℕ) → Exactly c st (lookup_number (lookup_answer c st id))
    unfolding lookup_answer
    lookup_lent-exactly id =
        by_lookup (lent_of c st) (Ok (nat_lt (index_in c id) c.count))
        (either (nat_lt (index_in c id) c.count) (λ t. simp t) (λ t. simp t)) refl

    -- ---- gossip_ids
    by_gossip : (l : Result (Unit {0}) Fault) (r : Result (Unit {0}) GossipError) → gossip_number r < bad_setting
        → lent_of c st ≡ l → Exactly c st (gossip_number (gossip_on l r))
    by_gossip (Ok tt) r z e = fine-says (gossip_number r) e z
    by_gossip (Err why) r z e = fault-says why e

    answer-exactly : (topic : List ℕ) → Exactly c st (gossip_number (gossip_answer c st topic))
    unfolding gossip_answer
    answer-exactly topic =
        by_gossip (lent_of c st) (by_topic topic)
        (either (nat_lt 1024 (length topic)) (λ t. simp t (omega arith)) (λ t. simp t (omega arith))) refl

    pub gossip_lent-exactly : (topic : List ℕ) (windows : ℕ) (r : GossipIds) → Gossips c st topic windows r
        → Exactly c st (gossip_number r.answer)
    gossip_lent-exactly topic windows r s = rw s.answer (answer-exactly topic)

no_topic : (why : Fault) → (fault_told why).number ≢ topic-too_long
no_topic fault.BadSetting e = omega arith
no_topic fault.BadStore e = omega arith
no_topic fault.Malformed e = omega arith

-- ---- put: what comes after the test of the state has other numbers
module _ (c : MessageCache) where
  under_low : (m id : List ℕ) → put_number (answered (plan_under c m id)) < bad_setting
  under_low m id =
      either (nat_lt (index_in c id) c.count) (λ t. simp t (omega arith)) (λ t. simp t (omega arith))

  fit_low : (p : List ℕ) (r : Result ((ℕ × ℕ) × (ℕ × ℕ)) Unfit) → put_number (answered (plan_fit c p r)) < bad_setting
  fit_low p (Err why) = omega (arith, (unfit_range why).1)
  fit_low p (Ok ((a, e), (b, f))) = under_low p (id_bytes p a e b f)

  at_low : (body : List ℕ) (r : Result (ℕ × ℕ) ℕ) → put_number (answered (plan_at c body r)) < bad_setting
  at_low body (Err n) = omega arith
  at_low body (Ok (a, e)) = fit_low (between body a e) (admission_of c.flags (between body a e) true)

  body-low : (body : List ℕ) (i : ℕ) (r : Result (Unit {0}) Refusal) → put_number (answered (plan_body c body i r)) < bad_setting
  body-low body i (Err why) = omega (arith, (wire_range why.why).1)
  body-low body i (Ok tt) = at_low body (message_at (mode_of c.flags) body i)

module _ (c : MessageCache) (st : List ℕ) (y : Typed c) where
  by-put : (l : Result (Unit {0}) Fault) (p : Plan) → put_number (answered p) < bad_setting → lent_of c st ≡ l
      → Exactly c st (put_number (answered (plan_lent l p)))
  by-put (Ok tt) p z e = fine-says c st y (put_number (answered p)) e z
  by-put (Err why) p z e = fault-says c st y why e

  plan_exactly : (ed : Edition) (body : List ℕ) (i : ℕ) → Exactly c st (put_number (answered (planned c st ed body i)))
  unfolding planned
  plan_exactly ed body i =
      by-put (lent_of c st) (plan_body c body i (accept_of (spoken (mode_of c.flags) ed) body))
      (body-low c body i (accept_of (spoken (mode_of c.flags) ed) body)) refl

  pub put-lent-exactly : (ed : Edition) (body : List ℕ) (i : ℕ) (r : PutDone) (left : List ℕ)
      → Puts c st ed body i r left → Exactly c st (put_number r.answer)
  put-lent-exactly ed body i r left p = rw p.answer (plan_exactly ed body i)

  -- ---- 29: the state is well formed and the topic has more than 1,024 bytes; its length stands beside it
  by_topic_lem : (topic : List ℕ) (l : Result (Unit {0}) Fault) → lent_of c st ≡ l
      → (gossip_number (gossip_on l (by_topic topic)) ≡ topic-too_long)
      ↔ (WellFormed c st × (1024 < length topic))
  by_topic_lem topic (Ok tt) e =
      either (nat_lt 1024 (length topic))
      (λ t. (λ n. (fine-well_formed c st y e, ltb-true 1024 (length topic) t), λ w. simp t))
      (λ t. (
        λ n. absurd (let z = simp t at n in omega arith),
        λ w. absurd (let z = ltb-false 1024 (length topic) t in omega (arith, w.1)),
      ))
  by_topic_lem topic (Err why) e = (
    λ n. absurd (no_topic why n),
    λ w. clash (let z = sym e ∙ well_formed-fine c st w.0 in cc),
  )

  topic-exactly : (topic : List ℕ) → (gossip_number (gossip_answer c st topic) ≡ topic-too_long)
      ↔ (WellFormed c st × (1024 < length topic))
  unfolding gossip_answer
  topic-exactly topic = by_topic_lem topic (lent_of c st) refl

  pub topic-too_long-exactly : (topic : List ℕ) (windows : ℕ) (r : GossipIds) → Gossips c st topic windows r
      → (gossip_number r.answer ≡ topic-too_long) ↔ (WellFormed c st × (1024 < length topic))
  topic-too_long-exactly topic windows r s = rw s.answer (topic-exactly topic)

by_length : (topic : List ℕ) (l : Result (Unit {0}) Fault)
    → gossip_number (gossip_on l (by_topic topic)) ≡ topic-too_long
    → gossip_told (gossip_on l (by_topic topic))
    ≡ told topic-too_long (length topic ∷ [])
by_length topic (Ok tt) n =
    either (nat_lt 1024 (length topic)) (λ t. simp t) (λ t. absurd (let z = simp t at n in omega arith))
by_length topic (Err why) n = absurd (no_topic why n)

answer-length : (c : MessageCache) (st topic : List ℕ) → gossip_number (gossip_answer c st topic) ≡ topic-too_long
    → gossip_told (gossip_answer c st topic) ≡ told topic-too_long (length topic ∷ [])
unfolding gossip_answer
answer-length c st topic n = by_length topic (lent_of c st) n

pub topic-too_long-length : (c : MessageCache) (st topic : List ℕ) (windows : ℕ) (r : GossipIds)
    → Gossips c st topic windows r → gossip_number r.answer ≡ topic-too_long
    → gossip_told r.answer ≡ told topic-too_long (length topic ∷ [])
topic-too_long-length c st topic windows r s n = rw s.answer (answer-length c st topic (rw s.answer at n))
