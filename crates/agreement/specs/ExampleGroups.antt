-- An example with groups: two gateways that pass over groups, two messages, of which the second has a group and is lost
-- on its way to the first gateway, and histories that meet every premise. One round brings the second message, with its
-- group.
use Rattle.std.specs.Prelude.{ℕ, true, List, [], ◌∷◌, ◌++◌}
use Rattle.history.specs.History.{Call}
use Rattle.history.specs.Samples.{signature, start}
use Rattle.agreement.specs.CatchUp.{all_asked, all_told}
use Rattle.agreement.specs.Example.{second-sender, first, first_body, play}
use Rattle.agreement.specs.Pair.{settings_a, settings_b, calls_a, calls_b, reading}

-- ---- the messages: the example's first, and one with seqno 2, topic `t` and, before its signature, a group of number
-- 15 with one field in it
unfoldable pub grouped : List ℕ
grouped =
    0x0a ∷ 0x26 ∷ (second-sender ++ (0x1a ∷ 0x01 ∷ 0x02 ∷ 0x22 ∷ 0x01 ∷ 0x74 ∷ 0x7b ∷ 0x08 ∷ 0x01 ∷ 0x7c ∷ 0x2a ∷ 0x40 ∷
    signature))

-- the body in which it comes
unfoldable pub grouped-body : List ℕ
grouped-body = 0x12 ∷ 0x74 ∷ grouped

abbrev pub messages : List (List ℕ)
messages = first ∷ grouped ∷ []

-- ---- the gateways pass over groups: a gets the first message, b both
abbrev pub calls_a_lem : List Call
calls_a_lem = calls_a true first_body

abbrev pub calls_b_lem : List Call
calls_b_lem = calls_b first_body grouped-body

-- after it a lacks nothing
abbrev pub all_a : List Call
all_a = all_asked messages (settings_a 2) (settings_b 2) calls_a_lem calls_b_lem (start (settings_a 2)) (start (settings_b 2)) play 1
    reading

abbrev pub all_b : List Call
all_b = all_told messages (settings_a 2) (settings_b 2) calls_a_lem calls_b_lem (start (settings_a 2)) (start (settings_b 2)) play 1
    reading
