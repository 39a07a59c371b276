-- The example's two gateways after their calls: what the one lacks, its request, one round, and the advertisements
-- after it, to the byte.
use Rattle.std.specs.Prelude.{ℕ, List}
use Rattle.history.specs.History.{State, Call, after_all}
use Rattle.history.specs.Samples.{start}
use Rattle.agreement.specs.CatchUp.{all_asked, all_told}
use Rattle.agreement.specs.Example.{messages, settings_a_lem, settings_b_lem, calls_a_lem, calls_b_lem, play}

-- ---- the gateways after these calls
abbrev pub at_a_lem : State
at_a_lem = after_all calls_a_lem (start settings_a_lem)

abbrev pub at_b : State
at_b = after_all calls_b_lem (start settings_b_lem)

-- ---- one round, a's admits at 20
abbrev pub reading : ℕ → ℕ → ℕ
reading k i = 20

-- all calls of each, with the round
abbrev pub all_a : List Call
all_a = all_asked messages settings_a_lem settings_b_lem calls_a_lem calls_b_lem (start settings_a_lem) (start settings_b_lem) play 1 reading

abbrev pub all_b : List Call
all_b = all_told messages settings_a_lem settings_b_lem calls_a_lem calls_b_lem (start settings_a_lem) (start settings_b_lem) play 1 reading

-- ---- after it neither lacks anything
abbrev pub later_a : State
later_a = after_all all_a (start settings_a_lem)

abbrev pub later_b : State
later_b = after_all all_b (start settings_b_lem)
