-- n missing messages arrive within n/15 rounds, rounded up: after so many undisturbed rounds at most n less fifteen for
-- each are missing, and no call in them is refused. The calls of the rounds belong to the gateways' histories, which
-- stay under the premises.
use Rattle.std.specs.Prelude.{ℕ, ◌-◌, ◌*◌, ◌≤◌, ◌≡◌, List, [], ◌++◌, length, true, false}
use Rattle.rows.specs.Ids.{among}
use Rattle.history.specs.History.{State, Settings, Call, after_all, NoneRefused}
use Rattle.agreement.specs.Premises.{Members, Premises}
use Rattle.agreement.specs.Round.{lacked, Play, asker_rounds, teller_rounds}
use Rattle.agreement.specs.Holding.{got_all}

-- ---- rounds, one after the other
pub record RoundsDone (x y : Settings) (set gotA gotB : List (List ℕ)) (p : Play) (r : ℕ) (at : ℕ → ℕ → ℕ)
    (a b : State) : Type 0 where
  pub asker-members : Members x.flags set (asker_rounds p r at a b)
  pub asker-done : NoneRefused (asker_rounds p r at a b) a
  pub teller-members : Members y.flags set (teller_rounds p r at a b)
  pub teller-done : NoneRefused (teller_rounds p r at a b) b
  pub missing-left : length
      (lacked p.topic (after_all (asker_rounds p r at a b) a) (after_all (teller_rounds p r at a b) b)) ≤ length
      (lacked p.topic a b) - 15 * r
  pub only : (m : List ℕ) → among m (got_all x.flags gotA (asker_rounds p r at a b)) ≡ true → among m gotA ≡ false
      → among m gotB ≡ true

-- ---- for two histories under the premises
module _ (set : List (List ℕ)) (x y : Settings) (calls_a_lem calls_b_lem : List Call) (a b : State) (p : Play) (r : ℕ) (at : ℕ
    → ℕ → ℕ) where
  -- the gateways before the rounds
  abbrev asker : State
  asker = after_all calls_a_lem a

  abbrev teller : State
  teller = after_all calls_b_lem b

  -- the asker's and the teller's calls, with the rounds
  abbrev pub all_asked : List Call
  all_asked = calls_a_lem ++ asker_rounds p r at asker teller

  abbrev pub all_told : List Call
  all_told = calls_b_lem ++ teller_rounds p r at asker teller

  pub record CaughtUp : Type 0 where
    -- at most n less fifteen for each round are missing
    pub missing-left : length (lacked p.topic (after_all all_asked a) (after_all all_told b)) ≤ length
        (lacked p.topic asker teller) - 15 * r
    -- no call in the rounds is refused
    pub asker-done : NoneRefused (asker_rounds p r at asker teller) asker
    pub teller-done : NoneRefused (teller_rounds p r at asker teller) teller
    -- with the rounds, both histories are under the premises
    pub asker_history : Premises set x all_asked a
    pub teller_history : Premises set y all_told b
    -- the asker got what it had before, and of the teller's
    pub only : (m : List ℕ) → among m (got_all x.flags [] all_asked) ≡ true
        → among m (got_all x.flags [] calls_a_lem) ≡ false → among m (got_all y.flags [] calls_b_lem) ≡ true
