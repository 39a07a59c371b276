-- A history written out: each admit beside the message that its body carries and that message's id. What such calls
-- leave, and how often a message is got and new in them, is then computed over gateways, without their stores.
use Rattle.std.specs.Prelude.{Ok, ℕ, ◌+◌, ◌≤◌, ◌≡◌, true, cond, List, [], ◌∷◌}
use Rattle.basis.specs.declared.Edition.{Edition}
use Rattle.basis.specs.Dialect.{mode_of, spoken}
use Rattle.rows.specs.Ids.{same_bytes}
use Rattle.schema.specs.Accept.{accept_of}
use Rattle.admission.specs.Admission.{gives_id}
use Rattle.node.specs.Gateway.{Gateway, is_new, after_admit, after_beat}
use Rattle.history.specs.History.{Call, admit, heartbeat, ask, Placed}

-- a body that is taken in an edition, and whose first message is m, which gives that id under some flags
pub record Carries (flags : ℕ) (ed : Edition) (body m id : List ℕ) : Type 0 where
  pub accepted : accept_of (spoken (mode_of flags) ed) body ≡ Ok tt
  pub placed : Placed (mode_of flags) body 0 m
  pub own : gives_id flags m id ≡ true

-- ---- calls
pub data Act : Type 0 where
  -- an admit of a body's first message, with the host's word: the edition, the body, the message, its id, now
  gets : Edition → List ℕ → List ℕ → List ℕ → ℕ → Act
  beats : ℕ → Act
  asks : Edition → List ℕ → List ℕ → Act

abbrev pub call_of : Act → Call
call_of (gets ed body m id at) = admit ed body 0 true at
call_of (beats at) = heartbeat at
call_of (asks ed body out) = ask ed body out

unfoldable pub calls_of : List Act → List Call
calls_of [] = []
calls_of (x ∷ xs) = call_of x ∷ calls_of xs

-- the gateway after them
abbrev pub gateway_by : Act → Gateway → Gateway
gateway_by (gets ed body m id at) g = after_admit at m id g
gateway_by (beats at) g = after_beat at g
gateway_by (asks ed body out) g = g

unfoldable pub gateway_after : List Act → Gateway → Gateway
gateway_after [] g = g
gateway_after (x ∷ xs) g = gateway_after xs (gateway_by x g)

-- how often a message is got in them, and how often it is new
abbrev pub got_by : List ℕ → Act → ℕ
got_by m (gets ed body k id at) = cond (same_bytes k m) 1 0
got_by m (beats at) = 0
got_by m (asks ed body out) = 0

unfoldable pub got_in : List ℕ → List Act → ℕ
got_in m [] = 0
got_in m (x ∷ xs) = got_by m x + got_in m xs

abbrev pub new_by : List ℕ → Act → Gateway → ℕ
new_by m (gets ed body k id at) g = cond (same_bytes k m) (cond (is_new at k id g) 1 0) 0
new_by m (beats at) g = 0
new_by m (asks ed body out) g = 0

unfoldable pub new_in : List ℕ → List Act → Gateway → ℕ
new_in m [] g = 0
new_in m (x ∷ xs) g = new_by m x g + new_in m xs (gateway_by x g)

-- ---- they are what they say, and their clock, which is this before them, does not fall
pub data Written (flags : ℕ) : ℕ → List Act → Type 0 where
  nothing : {clock : ℕ} → Written flags clock []
  got : (clock at : ℕ) {ed : Edition} {body m id : List ℕ} {xs : List Act} → Carries flags ed body m id → clock ≤ at
      → Written flags at xs → Written flags clock (gets ed body m id at ∷ xs)
  beaten : (clock at : ℕ) {xs : List Act} → clock ≤ at → Written flags at xs → Written flags clock (beats at ∷ xs)
  asked : {clock : ℕ} {ed : Edition} {body out : List ℕ} {xs : List Act} → Written flags clock xs
      → Written flags clock (asks ed body out ∷ xs)
