-- An example with unsigned messages: two gateways that allow them, two messages without a signature, of which the
-- second is lost on its way to the first gateway, and histories that meet every premise, one of them without the host's
-- word. One round brings the second message.
use Rattle.std.specs.Prelude.{ℕ, false, List, [], ◌∷◌}
use Rattle.history.specs.History.{Call}
use Rattle.history.specs.Samples.{unsigned, unsigned_body, start}
use Rattle.agreement.specs.CatchUp.{all_asked, all_told}
use Rattle.agreement.specs.Example.{play}
use Rattle.agreement.specs.Pair.{settings_a, settings_b, calls_a, calls_b, reading}

abbrev pub messages : List (List ℕ)
messages = unsigned 1 ∷ unsigned 2 ∷ []

-- ---- the gateways allow them: a gets the first message, without the host's word; b gets both, with it
abbrev pub calls_a_lem : List Call
calls_a_lem = calls_a false (unsigned_body 1)

abbrev pub calls_b_lem : List Call
calls_b_lem = calls_b (unsigned_body 1) (unsigned_body 2)

-- after it a lacks nothing
abbrev pub all_a : List Call
all_a = all_asked messages (settings_a 1) (settings_b 1) calls_a_lem calls_b_lem (start (settings_a 1)) (start (settings_b 1)) play 1
    reading

abbrev pub all_b : List Call
all_b = all_told messages (settings_a 1) (settings_b 1) calls_a_lem calls_b_lem (start (settings_a 1)) (start (settings_b 1)) play 1
    reading
