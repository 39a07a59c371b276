-- One round: every call in it is done, all that is served is got, and of what the asker lacks fifteen messages arrive,
-- or all.
use Prim.Native.Nat.{ℕ, ◌+◌, ◌-◌, ◌≤◌, ◌<◌}
use Rattle.std.specs.Prelude.{◌≡◌, length}
use Rattle.std.proofs.Math.Bool.{true, false}
use mathlib.Core.List.{List, []}
use Rattle.std.proofs.Math.ListN.{get_or}
use Rattle.rows.specs.Ids.{among}
use Rattle.history.specs.History.{State, Settings, Call, after_all}
use Rattle.history.specs.History.{NoneRefused}
use Rattle.agreement.specs.Premises.{Members}
use Rattle.agreement.specs.Round.{lacked, Play, asker_round}
use Rattle.agreement.specs.Round.{teller_round}
use Rattle.agreement.specs.Holding.{got_all, Holding}

-- ---- admits of messages of the set, one after the other
pub record Admitted (set : List (List ℕ)) (x : Settings) (first past : ℕ) (rs : List ℕ) (left : ℕ)
    (got served : List (List ℕ)) (i k : ℕ) (calls : List Call) (s : State) : Type 0 where
  pub members : Members x.flags set calls
  pub none-refused : NoneRefused calls s
  pub holding : Holding set x first past rs left (got_all x.flags got calls) (after_all calls s)
  pub keeps : (m : List ℕ) → among m got ≡ true → among m (got_all x.flags got calls) ≡ true
  pub has : (j : ℕ) → i ≤ j → j < i + k → among (get_or served j []) (got_all x.flags got calls) ≡ true
  pub only : (m : List ℕ) → among m (got_all x.flags got calls) ≡ true → among m got ≡ false → among m served ≡ true

-- ---- a round
pub record RoundDone (set : List (List ℕ)) (x y : Settings) (firstA pastA leftA firstB pastB left_b : ℕ)
    (rsA rsB : List ℕ) (gotA gotB : List (List ℕ)) (p : Play) (at : ℕ → ℕ) (a b : State) : Type 0 where
  pub asker-members : Members x.flags set (asker_round p at a b)
  pub asker-done : NoneRefused (asker_round p at a b) a
  pub teller-members : Members y.flags set (teller_round p a b)
  pub teller-done : NoneRefused (teller_round p a b) b
  pub asker-holds : Holding set x firstA pastA rsA leftA (got_all x.flags gotA (asker_round p at a b))
      (after_all (asker_round p at a b) a)
  pub teller-holds : Holding set y firstB pastB rsB left_b gotB (after_all (teller_round p a b) b)
  -- fifteen arrive, or all
  pub fewer : length (lacked p.topic (after_all (asker_round p at a b) a) (after_all (teller_round p a b) b)) ≤ length (lacked p.topic a b) - 15
  -- and nothing that the teller did not get
  pub only : (m : List ℕ) → among m (got_all x.flags gotA (asker_round p at a b)) ≡ true → among m gotA ≡ false
      → among m gotB ≡ true
