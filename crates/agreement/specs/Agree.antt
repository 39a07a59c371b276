-- Two gateways agree: rounds one way and then the other, as many as what is missing asks for, and neither lacks
-- anything of the topic any more; both then advertise it in identical bytes.
use Rattle.std.specs.Prelude.{ℕ, ◌≤◌, ◌≡◌, length}
use mathlib.Core.List.{List, []}
use Rattle.node.specs.Calls.{max_rpc_size}
use Rattle.history.specs.History.{State, Settings, Call, after_all, readings}
use Rattle.agreement.specs.Premises.{MessageSet, Alike, Clock, Premises}
use Rattle.agreement.specs.Round.{lacked, Play, Fair}
use Rattle.agreement.specs.Identical.{Identical}
use Rattle.agreement.specs.CatchUp.{all_asked, all_told}

-- ---- both ways
-- gateway a asks for r rounds, then b asks for s rounds; the premises on the two clocks reach over the rounds in which
-- each asks
module _ {set : List (List ℕ)} {x y : Settings} {calls_a_lem calls_b_lem : List Call} {a b : State}
    (ms : MessageSet x.flags set) (pa : Premises set x calls_a_lem a) (pb : Premises set y calls_b_lem b) (alike : Alike x y)
    (p q : Play) (fp : Fair p x y) (fq : Fair q x y) (same : p.topic ≡ q.topic)
    (r : ℕ) (at : ℕ → ℕ → ℕ) (clock_a : Clock x (readings (all_asked set x y calls_a_lem calls_b_lem a b p r at)))
    (s : ℕ) (at2 : ℕ → ℕ → ℕ) where
  -- after the rounds in which a asks
  abbrev pub calls_a1 : List Call
  calls_a1 = all_asked set x y calls_a_lem calls_b_lem a b p r at

  abbrev pub calls_b1 : List Call
  calls_b1 = all_told set x y calls_a_lem calls_b_lem a b p r at

  -- and after those in which b asks
  abbrev pub calls_a2 : List Call
  calls_a2 = all_told set y x calls_b1 calls_a1 b a q s at2

  abbrev pub calls_b2 : List Call
  calls_b2 = all_asked set y x calls_b1 calls_a1 b a q s at2

  pub record Agree : Type 0 where
    -- the histories with all rounds are under the premises
    pub history_a : Premises set x calls_a2 a
    pub history_b : Premises set y calls_b2 b
    -- neither lacks anything
    pub a_has-all : lacked p.topic (after_all calls_a2 a) (after_all calls_b2 b) ≡ []
    pub b_has-all : lacked p.topic (after_all calls_b2 b) (after_all calls_a2 a) ≡ []
    -- both advertise in identical bytes, whatever buffers they are lent
    pub identical : (out-a out-b : List ℕ) → max_rpc_size ≤ length out-a → max_rpc_size ≤ length out-b
        → Identical p.topic p.windows q.windows out-a out-b (after_all calls_a2 a) (after_all calls_b2 b)
