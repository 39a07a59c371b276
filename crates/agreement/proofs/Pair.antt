-- Two messages; a gateway that got the first and one that got both, with histories that meet every premise; and a round
-- that brings the second. The examples with unsigned messages and with groups have this in common.
use Rattle.std.specs.Prelude.{ℕ, ◌<◌, ◌≡◌, Bool, true, length}
use Rattle.std.proofs.Math.Path.{refl, ap}
use Rattle.std.proofs.Common.{sym, ap₂, subst, ◌∙◌}
use mathlib.Core.List.{List, [], ◌∷◌, ◌++◌, append-nil}
use native.Mathlib.Omega.{arith}
use Rattle.basis.specs.declared.Edition.TheVariants.{V11, V12}
use Rattle.basis.specs.Dialect.{mode_of}
use Rattle.protobuf.specs.Encode.{bytes_field}
use Rattle.rows.specs.Store.{all_up_to}
use Rattle.mcache.specs.State.{legal}
use Rattle.node.specs.Gateway.{Gateway, after_admit, told_of, lacking, having}
use Rattle.node.specs.State.{legal_settings, rises_from}
use Rattle.node.specs.Calls.{taken}
use Rattle.history.specs.History.{gateway_of, Fresh, Call, admit, ask, plan_in, after_all, readings}
use Rattle.history.specs.History.{first_of, beats as beatsIn}
use Rattle.history.proofs.Laws.{node-clock, fresh_keeps, fresh-starts, fresh-clock, fresh-flags, admit-leaves}
use Rattle.history.proofs.Laws.{brought_plan}
use Rattle.history.specs.Script.{Act, gets, calls_of, gateway_after, Written, nothing, got}
use Rattle.history.proofs.ScriptLaws.{fresh-leaves}
use Rattle.history.specs.Samples.{start, start-fresh}
use Rattle.agreement.specs.Premises.{MessageSet, Members, none_left, member, Clock, Premises}
use Rattle.agreement.specs.Round.{missing, lacked, Fair, advert_of, asker_round, asker_rounds}
use Rattle.agreement.specs.Holding.{got_all, past_all, Holding}
use Rattle.agreement.proofs.Holding.{member-some, holding-all}
use Rattle.agreement.proofs.Played.{one_round as one-asked}
use Rattle.agreement.specs.CatchUp.{all_asked, all_told, CaughtUp}
use Rattle.agreement.proofs.CatchUp.{caught_up, all-arrived}
use Rattle.agreement.specs.Script.{in_set}
use Rattle.agreement.proofs.Script.{script_members}
use Rattle.agreement.specs.Example.{topic, buffer, play}
use Rattle.agreement.proofs.Example.{two-set, two_in, clock-by, fair_for}
use Rattle.agreement.specs.Pair.{Pair, settings_a, settings_b, calls_a, calls_b, at_a, at_b, gateway_a, gateway_b}
use Rattle.agreement.specs.Pair.{reading}

module _ {flags : ℕ} {word : Bool} {m i body k j other : List ℕ} (t : Pair flags word m i body k j other) where
  pub message-set : MessageSet flags (m ∷ k ∷ [])
  message-set =
      two-set flags m k i j t.bytes-first t.bytes-second (t.first V11).own (t.second V11).own t.differ

  pub fresh_a : Fresh (settings_a flags) (start (settings_a flags))
  unfolding legal_settings legal
  fresh_a = start-fresh (settings_a flags) (omega arith) (rw t.known)

  pub fresh_b : Fresh (settings_b flags) (start (settings_b flags))
  unfolding legal_settings legal
  fresh_b = start-fresh (settings_b flags) (omega arith) (rw t.known)

  -- ---- the histories meet the premises
  members_a : Members flags (m ∷ k ∷ []) (calls_a word body)
  unfolding calls_a
  members_a = member (member-some flags (m ∷ k ∷ []) (admit V12 body 0 word 10) m t.comes (two_in m k).0) none_left

  clock_a : Clock (settings_a flags) (readings (calls_a word body))
  unfolding calls_a readings rises_from all_up_to
  clock_a = clock-by (settings_a flags) (10 ∷ []) 10 refl refl (omega arith) (omega arith)

  few_a : beatsIn (calls_a word body) < 2
  unfolding calls_a beatsIn
  few_a = omega arith

  pub premises_a : Premises (m ∷ k ∷ []) (settings_a flags) (calls_a word body) (start (settings_a flags))
  premises_a =
      record {
        fresh = fresh_a;
        members = members_a;
        set-seen = omega arith;
        set-cached = omega arith;
        clock = clock_a;
        few_heartbeats = few_a;
      }

  abbrev script_b : List Act
  script_b = gets V11 other k j 7 ∷ gets V11 body m i 8 ∷ []

  calls_b-written : calls_of script_b ≡ calls_b body other
  unfolding calls_of calls_b
  calls_b-written = refl

  written_b : Written flags 0 script_b
  written_b = got 0 7 (t.second V11) (omega arith) (got 7 8 (t.first V11) (omega arith) nothing)

  inside_b : in_set (m ∷ k ∷ []) script_b ≡ true
  unfolding in_set
  inside_b = simp ((two_in m k).0, (two_in m k).1)

  clock_b : Clock (settings_b flags) (readings (calls_b body other))
  unfolding calls_b readings rises_from all_up_to
  clock_b = clock-by (settings_b flags) (7 ∷ 8 ∷ []) 8 refl refl (omega arith) (omega arith)

  few_b : beatsIn (calls_b body other) < 3
  unfolding calls_b beatsIn
  few_b = omega arith

  pub premises_b : Premises (m ∷ k ∷ []) (settings_b flags) (calls_b body other) (start (settings_b flags))
  premises_b =
      record {
        fresh = fresh_b;
        members = subst (Members flags (m ∷ k ∷ [])) calls_b-written
            (script_members flags (m ∷ k ∷ []) written_b inside_b);
        set-seen = omega arith;
        set-cached = omega arith;
        clock = clock_b;
        few_heartbeats = few_b;
      }

  pub fair : Fair play (settings_a flags) (settings_b flags)
  fair = fair_for (settings_a flags) (settings_b flags) (omega arith) (omega arith)

  -- ---- the gateways after these calls
  a_takes : plan_in (start (settings_a flags)) V12 body 0 word 10 ≡ taken m i
  a_takes =
      let s = start (settings_a flags) in
      brought_plan s flags (fresh-flags fresh_a) V12 body 0 word 10 m i t.comes (t.first V12).own
      (fresh_keeps fresh_a).fine (omega (arith, node-clock s, fresh-clock fresh_a))

  pub a_is : gateway_of (at_a flags word body) ≡ gateway_a flags m i
  unfolding calls_a after_all gateway_a
  a_is =
      admit-leaves (start (settings_a flags)) V12 body 0 word 10 m i a_takes (fresh_keeps fresh_a).typed
      ∙ ap (after_admit 10 m i) (fresh-starts fresh_a)

  pub b_is : gateway_of (at_b flags body other) ≡ gateway_b flags m i k j
  unfolding gateway_after gateway_b
  b_is = ap (λ (cs : List Call). gateway_of (after_all cs (start (settings_b flags)))) (sym calls_b-written)
      ∙ fresh-leaves script_b fresh_b written_b

  pub holding_a : Holding (m ∷ k ∷ []) (settings_a flags) (first_of (calls_a word body))
      (past_all 0 (calls_a word body)) [] 0
      (got_all flags [] (calls_a word body)) (at_a flags word body)
  holding_a = holding-all message-set premises_a

  holding_b : Holding (m ∷ k ∷ []) (settings_b flags) (first_of (calls_b body other)) (past_all 0 (calls_b body other)) [] 0
      (got_all flags [] (calls_b body other)) (at_b flags body other)
  holding_b = holding-all message-set premises_b

  -- ---- where a asks for the second message, and b has it, one round brings it, a's admit at 20
  module _ (wants : lacking (gateway_a flags m i) (told_of topic 3 (gateway_b flags m i k j)) ≡ j ∷ [])
      (has : having (gateway_b flags m i k j) (j ∷ []) ≡ k ∷ [])
      (misses : missing (mode_of (gateway_b flags m i k j).flags) topic (gateway_a flags m i)
      (gateway_b flags m i k j).cache ≡ record { id = j; message = k; window = 0 } ∷ []) where
    pub a_lacks : lacked topic (at_a flags word body) (at_b flags body other)
        ≡ record { id = j; message = k; window = 0 } ∷ []
    a_lacks = ap₂ (λ (g h : Gateway). missing (mode_of h.flags) topic g h.cache) a_is b_is ∙ misses

    one_round : asker_rounds play 1 reading (at_a flags word body) (at_b flags body other)
        ≡ ask V12 (advert_of play (at_b flags body other)) (buffer 1 7) ∷ admit V12 (bytes_field 2 k) 0 true 20 ∷ []
    unfolding asker_rounds
    one_round =
        append-nil (asker_round play (reading 0) (at_a flags word body) (at_b flags body other))
        ∙ one-asked holding_a holding_b play fair k j
        (ap₂ (λ (g h : Gateway). lacking g (told_of topic 3 h)) a_is b_is ∙ wants)
        (ap (λ (g : Gateway). having g (j ∷ [])) b_is ∙ has) (reading 0)

    clock_round : (cs : List Call) (reply out advert : List ℕ)
        → cs ≡ ask V12 advert out ∷ admit V12 reply 0 true 20 ∷ []
        → Clock (settings_a flags) (readings (calls_a word body ++ cs))
    unfolding calls_a readings rises_from all_up_to
    clock_round cs reply out advert e =
        rw e (clock-by (settings_a flags) (10 ∷ 20 ∷ []) 20 refl refl (omega arith) (omega arith))

    clock-all : Clock (settings_a flags) (readings (all_asked (m ∷ k ∷ []) (settings_a flags) (settings_b flags)
        (calls_a word body) (calls_b body other) (start (settings_a flags)) (start (settings_b flags)) play 1 reading))
    clock-all = clock_round (asker_rounds play 1 reading (at_a flags word body) (at_b flags body other)) (bytes_field 2 k)
        (buffer 1 7) (advert_of play (at_b flags body other)) one_round

    -- no call in it is refused, and both histories, with it, are under the premises
    pub round_done : CaughtUp (m ∷ k ∷ []) (settings_a flags) (settings_b flags) (calls_a word body) (calls_b body other)
        (start (settings_a flags)) (start (settings_b flags)) play 1 reading
    round_done = caught_up message-set premises_a premises_b refl play fair 1 reading clock-all

    one-lacking : length (lacked topic (at_a flags word body) (at_b flags body other)) ≡ 1
    one-lacking = ap length a_lacks

    -- after it a lacks nothing
    pub none-lacking : lacked topic
        (after_all (all_asked (m ∷ k ∷ []) (settings_a flags) (settings_b flags) (calls_a word body) (calls_b body other)
        (start (settings_a flags)) (start (settings_b flags)) play 1 reading) (start (settings_a flags)))
        (after_all (all_told (m ∷ k ∷ []) (settings_a flags) (settings_b flags) (calls_a word body) (calls_b body other)
        (start (settings_a flags)) (start (settings_b flags)) play 1 reading) (start (settings_b flags))) ≡ []
    none-lacking = all-arrived message-set premises_a premises_b refl play fair 1 reading clock-all 1
        (omega (arith, one-lacking)) (omega arith)
