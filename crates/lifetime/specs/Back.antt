-- A call whose reading is before the gateway's clock, and a history with any such calls inserted; and why such a call is
-- refused. That it leaves everything, and that the insertion changes nothing, is in proofs/Back.antt.
use Rattle.std.specs.Prelude.{None, Result, Ok, Err, ℕ, ◌<◌, ◌≡◌, refl, Bool, List, [], ◌∷◌}
use Rattle.std.proofs.Common.{arith, lt-ltb}
use Rattle.basis.specs.declared.Edition.{Edition}
use Rattle.basis.specs.declared.Fault.{Fault}
use Rattle.basis.specs.Dialect.{mode_of}
use Rattle.basis.specs.Cases.{clash}
use Rattle.node.specs.declared.BeatError.TheVariants as beat
use Rattle.node.specs.Calls.{Plan, no, taken, on_lent, lent_of, beat_number, beat_answer}
use Rattle.node.specs.Laws.{plan_takes}
use Rattle.history.specs.History.{State, gateway_of, Call, admit, heartbeat, advertise, ask, serve, explain, plan_in}
use Rattle.history.specs.History.{after, after_all, reading, refusal_at}
use Rattle.history.proofs.Laws.{node-clock}
use Rattle.history.specs.Answers.{Answer, answer_at, answers_of}
use Rattle.lifetime.specs.Lifetime.{plan_form, taken_form}
use Rattle.lifetime.specs.Taken.{fault-some, untaken_refused}

-- ---- a call whose reading is before the clock of the gateway that it is lent
pub record StepsBack (s : State) (c : Call) : Type 0 where
  pub at : ℕ
  pub read : reading c ≡ at ∷ []
  pub earlier : at < (gateway_of s).clock

-- ---- it is refused
-- an admit, since it takes nothing
back_untaken : (s : State) (ed : Edition) (body : List ℕ) (i : ℕ) (word : Bool) (at : ℕ) (p : Plan)
    → plan_in s ed body i word at ≡ p → at < s.node.clock → plan_form (mode_of s.node.cache.flags) p ≡ None
back_untaken s ed body i word at (no r) e h = refl
back_untaken s ed body i word at (taken m id) e h =
    let t = ((plan_takes s.node s.ids s.messages ed body i word at m id).0 e).forward in absurd (omega arith)

admit-back : (s : State) (ed : Edition) (body : List ℕ) (i : ℕ) (word : Bool) (at : ℕ) → at < s.node.clock
    → 0 < refusal_at s (admit ed body i word at)
unfolding taken_form
admit-back s ed body i word at h =
    untaken_refused s ed body i word at (back_untaken s ed body i word at (plan_in s ed body i word at) refl h)

-- a heartbeat
beat-of : (l : Result (Unit {0}) Fault) (clock : ℕ)
    → 0 < beat_number (on_lent (λ (why : Fault). Err (beat.Faulty why)) l (Err (beat.ClockBack clock)))
beat-of (Err why) clock = fault-some why
beat-of (Ok tt) clock = omega arith

pub beat-back : (s : State) (at : ℕ) → at < s.node.clock → 0 < refusal_at s (heartbeat at)
unfolding beat_answer
beat-back s at h =
    rw (lt-ltb at s.node.clock h) (beat-of (lent_of s.node s.ids s.messages) s.node.clock)

-- of a call with a reading, by that
before : (s : State) (now at : ℕ) → now ∷ [] ≡ at ∷ [] → at < (gateway_of s).clock → now < s.node.clock
before s now at e h = let n = node-clock s in let k : now ≡ at = cc in omega arith

pub refused-at : (s : State) (c : Call) (at : ℕ) → reading c ≡ at ∷ [] → at < (gateway_of s).clock → 0 < refusal_at s c
refused-at s (admit ed body i word now) at e h =
    admit-back s ed body i word now (before s now at e h)
refused-at s (heartbeat now) at e h = beat-back s now (before s now at e h)
refused-at s (advertise topic windows out) at e h = clash (cc)
refused-at s (ask ed body out) at e h = clash (cc)
refused-at s (serve ed body second out) at e h = clash (cc)
refused-at s (explain id topic windows) at e h = clash (cc)

-- ---- calls of which some are inserted
pub data Item : Type 0 where
  own : Call → Item
  extra : Call → Item

-- all of them, and those that were there before
unfoldable pub all_calls : List Item → List Call
all_calls [] = []
all_calls (own c ∷ is) = c ∷ all_calls is
all_calls (extra c ∷ is) = c ∷ all_calls is

unfoldable pub own_calls : List Item → List Call
own_calls [] = []
own_calls (own c ∷ is) = c ∷ own_calls is
own_calls (extra c ∷ is) = own_calls is

-- each that is inserted steps back where it stands
pub data InsertedBack : List Item → State → Type 0 where
  no_more : {s : State} → InsertedBack [] s
  own-next : {c : Call} {is : List Item} {s : State} → InsertedBack is (after c s) → InsertedBack (own c ∷ is) s
  back-next : {c : Call} {is : List Item} {s : State} → StepsBack s c → InsertedBack is (after c s)
      → InsertedBack (extra c ∷ is) s

-- what the calls that were there before answer among all of them, and the states that they leave there
unfoldable pub own_answers : List Item → State → List Answer
own_answers [] s = []
own_answers (own c ∷ is) s = answer_at s c ∷ own_answers is (after c s)
own_answers (extra c ∷ is) s = own_answers is (after c s)

unfoldable pub own_states : List Item → State → List State
own_states [] s = []
own_states (own c ∷ is) s = after c s ∷ own_states is (after c s)
own_states (extra c ∷ is) s = own_states is (after c s)

-- the states that calls leave, each in its turn
unfoldable pub states_of : List Call → State → List State
states_of [] s = []
states_of (c ∷ cs) s = after c s ∷ states_of cs (after c s)

-- ---- the insertion changes nothing: the states, the last of them, and the answers
pub record Unmoved (is : List Item) (s : State) : Type 0 where
  pub states : own_states is s ≡ states_of (own_calls is) s
  pub last : after_all (all_calls is) s ≡ after_all (own_calls is) s
  pub answers : own_answers is s ≡ answers_of (own_calls is) s
