-- Two messages; a gateway that got the first and one that got both, with histories that meet every premise; and a round
-- that brings the second. The examples with unsigned messages and with groups have this in common.
use Rattle.std.specs.Prelude.{Some, ℕ, ◌≡◌, Bool, true}
use mathlib.Core.List.{List, [], ◌∷◌}
use Rattle.basis.specs.declared.Edition.{Edition}
use Rattle.basis.specs.declared.Edition.TheVariants.{V11, V12}
use Rattle.basis.specs.Bytes.{Bytes}
use Rattle.admission.specs.Flags.{known_flags}
use Rattle.node.specs.Gateway.{Gateway, after_admit}
use Rattle.history.specs.History.{State, Settings, Call, admit, after_all, brought}
use Rattle.history.specs.Laws.{started_by}
use Rattle.history.specs.Script.{Carries}
use Rattle.history.specs.Samples.{start}

-- ---- the messages m and k, their ids i and j, and a body that brings each, under some flags; the first comes also
-- with this word of the host
pub record Pair (flags : ℕ) (word : Bool) (m i body k j other : List ℕ) : Type 0 where
  pub known : known_flags flags ≡ true
  pub first : (ed : Edition) → Carries flags ed body m i
  pub second : (ed : Edition) → Carries flags ed other k j
  pub comes : brought flags (admit V12 body 0 word 10) ≡ Some m
  pub bytes-first : Bytes m
  pub bytes-second : Bytes k
  pub differ : i ≡ j → ⊥

-- ---- the gateways
abbrev pub settings_a : ℕ → Settings
settings_a flags = record { ttl = 100; max_seen = 2; history_len = 2; max_messages = 2; flags = flags }

abbrev pub settings_b : ℕ → Settings
settings_b flags = record { ttl = 50; max_seen = 3; history_len = 3; max_messages = 4; flags = flags }

-- their calls: a gets the first message, b both
unfoldable pub calls_a : Bool → List ℕ → List Call
calls_a word body = admit V12 body 0 word 10 ∷ []

unfoldable pub calls_b : List ℕ → List ℕ → List Call
calls_b body other = admit V11 other 0 true 7 ∷ admit V11 body 0 true 8 ∷ []

-- after these
abbrev pub at_a : ℕ → Bool → List ℕ → State
at_a flags word body = after_all (calls_a word body) (start (settings_a flags))

abbrev pub at_b : ℕ → List ℕ → List ℕ → State
at_b flags body other = after_all (calls_b body other) (start (settings_b flags))

unfoldable pub gateway_a : ℕ → List ℕ → List ℕ → Gateway
gateway_a flags m i = after_admit 10 m i (started_by (settings_a flags))

unfoldable pub gateway_b : ℕ → List ℕ → List ℕ → List ℕ → List ℕ → Gateway
gateway_b flags m i k j = after_admit 8 m i (after_admit 7 k j (started_by (settings_b flags)))

abbrev pub reading : ℕ → ℕ → ℕ
reading k i = 20
