-- What a gateway holds in a history under the premises: the messages got, each once, the oldest first. Their marked ids
-- are the ids seen, they are the messages cached, and nothing ever leaves.
use Rattle.std.specs.Prelude.{Option, Some, None, ℕ, suc, ◌+◌, ◌≤◌, ◌<◌, ◌≡◌, cond, List, [], ◌∷◌, ◌++◌, length, get_or}
use Rattle.std.proofs.Math.Bool.{true}
use Rattle.basis.specs.Bytes.{Bytes}
use Rattle.rows.specs.Ids.{among, distinct}
use Rattle.seen.specs.Entries.{until}
use Rattle.node.specs.Gateway.{Gateway}
use Rattle.node.specs.State.{rises_from}
use Rattle.history.specs.History.{State, gateway_of, Settings, Call, admit, heartbeat, advertise, ask, serve}
use Rattle.history.specs.History.{explain, brought}
use Rattle.history.specs.Laws.{Kept}
use Rattle.agreement.specs.Rows.{Rows}

-- ---- the messages got, each once, the oldest first
abbrev pub with_got : List ℕ → List (List ℕ) → List (List ℕ)
with_got m got = cond (among m got) got (got ++ (m ∷ []))

abbrev pub got_by : List (List ℕ) → Option (List ℕ) → List (List ℕ)
got_by got None = got
got_by got (Some m) = with_got m got

abbrev pub got_next : ℕ → List (List ℕ) → Call → List (List ℕ)
got_next flags got c = got_by got (brought flags c)

unfoldable pub got_all : ℕ → List (List ℕ) → List Call → List (List ℕ)
got_all flags got [] = got
got_all flags got (c ∷ cs) = got_all flags (got_next flags got c) cs

-- ---- what a gateway holds, after its first reading and some heartbeats
pub record Holds (set : List (List ℕ)) (x : Settings) (first past : ℕ) (got : List (List ℕ))
    (g : Gateway) : Type 0 where
  -- the settings, as at the start
  pub ttl : g.ttl ≡ x.ttl
  pub max_seen : g.max_seen ≡ x.max_seen
  pub history_len : g.history_len ≡ x.history_len
  pub max_messages : g.max_messages ≡ x.max_messages
  pub flags : g.flags ≡ x.flags
  -- the set has room
  pub set-seen : length set ≤ x.max_seen
  pub set-cached : length set ≤ x.max_messages
  -- the messages got
  pub each-once : distinct got ≡ true
  pub from-set : (m : List ℕ) → among m got ≡ true → among m set ≡ true
  -- the ids seen and the messages cached
  pub rows : Rows x.flags (until first x.ttl) past got g.seen g.cache

-- ---- the readings and heartbeats still to come, for a gateway whose clock is this
pub record Ahead (x : Settings) (first past clock : ℕ) (rs : List ℕ) (left : ℕ) : Type 0 where
  pub rises : rises_from clock rs ≡ true
  pub from_first : (i : ℕ) → i < length rs → first ≤ get_or rs i 0
  -- every reading is below every expiry
  pub lasting : (i : ℕ) → i < length rs → get_or rs i 0 < until first x.ttl
  pub few : past + left < x.history_len

-- the next reading
pub record Reads (x : Settings) (first past clock at : ℕ) (rs : List ℕ) (left : ℕ) : Type 0 where
  pub forward : clock ≤ at
  pub later : first ≤ at
  pub lasting : at < until first x.ttl
  pub rest : Ahead x first past at rs left

-- ---- a state of a history, with the readings and heartbeats still to come
-- `first` is the first reading of the history, `past` are the heartbeats so far
pub record Holding (set : List (List ℕ)) (x : Settings) (first past : ℕ) (rs : List ℕ) (left : ℕ) (got : List (List ℕ))
    (s : State) : Type 0 where
  pub kept : Kept s
  pub held : Holds set x first past got (gateway_of s)
  pub bytes : Bytes s.messages
  pub ahead : Ahead x first past (gateway_of s).clock rs left

abbrev pub past_next : ℕ → Call → ℕ
past_next past (admit ed body i word at) = past
past_next past (heartbeat at) = suc past
past_next past (advertise topic windows out) = past
past_next past (ask ed body out) = past
past_next past (serve ed body second out) = past
past_next past (explain _ topic windows) = past

unfoldable pub past_all : ℕ → List Call → ℕ
past_all past [] = past
past_all past (c ∷ cs) = past_all (past_next past c) cs
