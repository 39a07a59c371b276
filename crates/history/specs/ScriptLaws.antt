-- Calls that are written out: they leave the gateway that is computed, and a message is got and new in them as often
-- as is computed.
use Rattle.std.specs.Prelude.{ℕ, ◌+◌, ◌≡◌, List}
use Rattle.history.specs.History.{State, gateway_of, after_all, times_got, times_new, times_duplicate}
use Rattle.history.specs.Script.{Act, calls_of, gateway_after, got_in, new_in}

-- ---- what follows for a state that calls leave from a fresh one, under its flags
pub record Acted (flags : ℕ) (xs : List Act) (s : State) : Type 0 where
  pub gateway : gateway_of (after_all (calls_of xs) s) ≡ gateway_after xs (gateway_of s)
  pub times_got_lem : (m : List ℕ) → times_got flags m (calls_of xs) ≡ got_in m xs
  pub times_new_lem : (m : List ℕ) → times_new flags m (calls_of xs) s ≡ new_in m xs (gateway_of s)
  -- each time new or duplicate
  pub answered : (m : List ℕ)
      → got_in m xs ≡ times_new flags m (calls_of xs) s + times_duplicate flags m (calls_of xs) s
