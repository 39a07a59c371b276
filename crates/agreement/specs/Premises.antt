-- The scope's "Premises of demand 3", each named after its phrase.
use Rattle.std.specs.Prelude.{ℕ, ◌+◌, ◌-◌, ◌^◌, ◌≤◌, ◌<◌, ◌≡◌, true, List, [], ◌∷◌, length, get_or}
use Rattle.basis.specs.Bytes.{Bytes}
use Rattle.rows.specs.Ids.{among}
use Rattle.admission.specs.Admission.{gives_id}
use Rattle.node.specs.State.{rises_from}
use Rattle.history.specs.History.{State, Settings, Fresh, Call, readings, beats, brings}

-- ---- the set of messages; a message is the bytes of the submessage
pub record MessageSet (flags : ℕ) (set : List (List ℕ)) : Type 0 where
  pub bytes : (m : List ℕ) → among m set ≡ true → Bytes m
  -- every one passes admission under the flags, with the host's word
  pub admissible : (m : List ℕ) → among m set ≡ true → (id : List ℕ) × (gives_id flags m id ≡ true)
  -- different messages of the set have different ids
  pub ids-differ : (m k id : List ℕ) → among m set ≡ true → among k set ≡ true → gives_id flags m id ≡ true
      → gives_id flags k id ≡ true → m ≡ k

-- ---- admitting set members only; where the body is refused or the message is not vouched for, the node gets nothing
abbrev pub MemberAt : ℕ → List (List ℕ) → Call → Type 0
MemberAt flags set c = (m : List ℕ) → brings flags m c ≡ true → among m set ≡ true

pub data Members (flags : ℕ) (set : List (List ℕ)) : List Call → Type 0 where
  none_left : Members flags set []
  member : {c : Call} {cs : List Call} → MemberAt flags set c → Members flags set cs → Members flags set (c ∷ cs)

-- ---- both nodes set alike, and so in one mode: the set is then one for both
abbrev pub Alike : Settings → Settings → Type 0
Alike x y = x.flags ≡ y.flags

-- ---- the clock
pub record Clock (x : Settings) (rs : List ℕ) : Type 0 where
  -- it never falls
  pub rises : rises_from 0 rs ≡ true
  -- its readings are less than ttl after its first
  pub within-ttl : (i : ℕ) → i < length rs → get_or rs i 0 < get_or rs 0 0 + x.ttl
  -- and below 2^64 - 1
  pub below_last : (i : ℕ) → i < length rs → get_or rs i 0 < 2 ^ 64 - 1

-- ---- a history under the premises
pub record Premises (set : List (List ℕ)) (x : Settings) (calls : List Call) (s : State) : Type 0 where
  pub fresh : Fresh x s
  pub members : Members x.flags set calls
  -- the set is no larger than max_seen or max_messages
  pub set-seen : length set ≤ x.max_seen
  pub set-cached : length set ≤ x.max_messages
  pub clock : Clock x (readings calls)
  -- fewer heartbeats than history_len
  pub few_heartbeats : beats calls < x.history_len
