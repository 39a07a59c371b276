-- Histories of a gateway: a fresh node, and calls one after the other, each lent the node and stores as the last one
-- left them, refused calls included. A call is its input; what it answers and leaves are the definitions that its
-- contract cites.
use Rattle.std.specs.Prelude.{Option, Some, None, Result, Ok, Err, ℕ, zero, suc, ◌+◌, ◌*◌, ◌^◌, ◌<◌, ◌≡◌, Bool, true}
use Rattle.std.specs.Prelude.{false, cond, List, [], ◌∷◌, ◌++◌, length, get_or, take}
use Rattle.basis.specs.declared.Mode.{Mode}
use Rattle.basis.specs.declared.Edition.{Edition}
use Rattle.basis.specs.Dialect.{mode_of, spoken}
use Rattle.basis.specs.Bytes.{Bytes}
use Rattle.rows.specs.Ids.{same_bytes}
use Rattle.protobuf.specs.declared.Refusal.{Refusal}
use Rattle.protobuf.specs.Walk.{between}
use Rattle.schema.specs.Accept.{accept_of}
use Rattle.ids.specs.Ids.{message_at}
use Rattle.admission.specs.Admission.{vouched}
use Rattle.node.specs.declared.Node.{Node}
use Rattle.node.specs.declared.AdmitError.{AdmitError}
use Rattle.node.specs.declared.AdvertiseError.{AdvertiseError}
use Rattle.node.specs.declared.AskError.{AskError}
use Rattle.node.specs.declared.Novelty.TheVariants as novelty
use Rattle.node.specs.declared.Novelty.{Novelty}
use Rattle.node.specs.declared.Reply.{Reply}
use Rattle.node.specs.declared.ServeError.{ServeError}
use Rattle.node.specs.Gateway.{Gateway}
use Rattle.node.specs.State.{gateway_in, legal_settings, fresh_node}
use Rattle.node.specs.Calls.{Plan, planned, admit_number, admit_answer, admit_node, admit_seen, admit_cache}
use Rattle.node.specs.Calls.{beat_number, beat_answer, beat_node, advertise_number, advertise_answer}
use Rattle.node.specs.Calls.{ask_number, ask_answer, serve_number, serve_answer, explain_number, explain_answer}

-- a node with its two stores
pub record State : Type 0 where
  pub node : Node
  pub ids : List ℕ
  pub messages : List ℕ

-- the gateway that it is
abbrev pub gateway_of : State → Gateway
gateway_of s = gateway_in s.node s.ids s.messages

-- ---- settings, and a fresh node with stores of their lengths
pub record Settings : Type 0 where
  pub ttl : ℕ
  pub max_seen : ℕ
  pub history_len : ℕ
  pub max_messages : ℕ
  pub flags : ℕ

pub record Fresh (x : Settings) (s : State) : Type 0 where
  pub small : x.ttl < 2 ^ 64
  pub legal : legal_settings x.max_seen x.history_len x.max_messages x.flags ≡ true
  pub node : s.node ≡ fresh_node x.ttl x.max_seen x.history_len x.max_messages x.flags
  pub ids : length s.ids ≡ x.max_seen * 129
  pub messages : length s.messages ≡ x.max_messages * 4096
  pub bytes : Bytes s.messages

-- ---- calls
pub data Call : Type 0 where
  -- the stream's edition, body, message index, the host's word, now
  admit : Edition → List ℕ → ℕ → Bool → ℕ → Call
  heartbeat : ℕ → Call
  -- topic, windows, buffer
  advertise : List ℕ → ℕ → List ℕ → Call
  -- edition, body, buffer
  ask : Edition → List ℕ → List ℕ → Call
  -- edition, body, second body, buffer
  serve : Edition → List ℕ → List ℕ → List ℕ → Call
  -- id, topic, windows
  explain : List ℕ → List ℕ → ℕ → Call

-- what an admit is to do
abbrev pub plan_in : State → Edition → List ℕ → ℕ → Bool → ℕ → Plan
plan_in s ed body i word at = planned s.node s.ids s.messages ed body i word at

-- and what it answers
abbrev pub answer_in : State → Edition → List ℕ → ℕ → Bool → ℕ → Result Novelty AdmitError
answer_in s ed body i word at = admit_answer s.node s.ids at (plan_in s ed body i word at)

-- the node and stores as a call leaves them
unfoldable pub after : Call → State → State
after (admit ed body i word at) s =
    record {
      node = admit_node s.node s.ids at (plan_in s ed body i word at);
      ids = admit_seen s.node s.ids at (plan_in s ed body i word at);
      messages = admit_cache s.node s.ids s.messages at (plan_in s ed body i word at);
    }
after (heartbeat at) s =
    record { node = beat_node s.node s.ids s.messages at; ids = s.ids; messages = s.messages }
after (advertise topic windows out) s = s
after (ask ed body out) s = s
after (serve ed body second out) s = s
after (explain id topic windows) s = s

unfoldable pub after_all : List Call → State → State
after_all [] s = s
after_all (c ∷ cs) s = after_all cs (after c s)

-- ---- the readings of the clock, in their order, and the heartbeats
abbrev pub reading : Call → List ℕ
reading (admit ed body i word at) = at ∷ []
reading (heartbeat at) = at ∷ []
reading (advertise topic windows out) = []
reading (ask ed body out) = []
reading (serve ed body second out) = []
reading (explain id topic windows) = []

unfoldable pub readings : List Call → List ℕ
readings [] = []
readings (c ∷ cs) = reading c ++ readings cs

-- the first
abbrev pub first_of : List Call → ℕ
first_of calls = get_or (readings calls) 0 0

abbrev pub beat : Call → ℕ
beat (admit ed body i word at) = 0
beat (heartbeat at) = 1
beat (advertise topic windows out) = 0
beat (ask ed body out) = 0
beat (serve ed body second out) = 0
beat (explain id topic windows) = 0

unfoldable pub beats : List Call → ℕ
beats [] = 0
beats (c ∷ cs) = beat c + beats cs

-- ---- refusals: the number of the one that a call meets, 0 where it is done
abbrev pub refusal_at : State → Call → ℕ
refusal_at s (admit ed body i word at) = admit_number (answer_in s ed body i word at)
refusal_at s (heartbeat at) = beat_number (beat_answer s.node s.ids s.messages at)
refusal_at s (advertise topic windows out) =
    advertise_number (advertise_answer s.node s.ids s.messages topic windows out)
refusal_at s (ask ed body out) = ask_number (ask_answer s.node s.ids s.messages ed body out)
refusal_at s (serve ed body second out) = serve_number (serve_answer s.node s.ids s.messages ed body second out)
refusal_at s (explain id topic windows) =
    explain_number (explain_answer s.node s.ids s.messages id topic windows)

pub data NoneRefused : List Call → State → Type 0 where
  all_done : {s : State} → NoneRefused [] s
  done : {c : Call} {cs : List Call} {s : State} → refusal_at s c ≡ 0 → NoneRefused cs (after c s)
      → NoneRefused (c ∷ cs) s

-- ---- what a call wrote: as many bytes as it answers, from the front of the buffer as it leaves it
abbrev pub told_bytes : Result ℕ AdvertiseError → List ℕ → List ℕ
told_bytes (Ok n) out = take n out
told_bytes (Err why) out = []

abbrev pub asked_bytes : Result ℕ AskError → List ℕ → List ℕ
asked_bytes (Ok n) out = take n out
asked_bytes (Err why) out = []

abbrev pub served_bytes : Result Reply ServeError → List ℕ → List ℕ
served_bytes (Ok r) out = take r.bytes out
served_bytes (Err why) out = []

abbrev pub served_messages : Result Reply ServeError → ℕ
served_messages (Ok r) = r.messages
served_messages (Err why) = 0

-- ---- the message at an index of a body, byte for byte
pub record Placed (mode : Mode) (s : List ℕ) (i : ℕ) (m : List ℕ) : Type 0 where
  pub start : ℕ
  pub next : ℕ
  pub found : message_at mode s i ≡ Ok (start, next)
  pub bytes : between s start next ≡ m

-- ---- what comes in, by the call and the flags alone and whatever the node does with it: an admit brings the message
-- at its index. If the body is refused, the node gets nothing by it; nor if the host's word is not given, unless the
-- message has no signature and the flags allow that.
abbrev pub standing : ℕ → Bool → List ℕ → Result (ℕ × ℕ) ℕ → Option (List ℕ)
standing flags word body (Ok (a, e)) = cond (vouched flags (between body a e) word) (Some (between body a e)) None
standing flags word body (Err n) = None

abbrev pub where_accepted : Result (Unit {0}) Refusal → Option (List ℕ) → Option (List ℕ)
where_accepted (Ok tt) m = m
where_accepted (Err why) m = None

unfoldable pub brought : ℕ → Call → Option (List ℕ)
brought flags (admit ed body i word at) =
    where_accepted (accept_of (spoken (mode_of flags) ed) body)
    (standing flags word body (message_at (mode_of flags) body i))
brought flags (heartbeat at) = None
brought flags (advertise topic windows out) = None
brought flags (ask ed body out) = None
brought flags (serve ed body second out) = None
brought flags (explain id topic windows) = None

abbrev pub is_that : List ℕ → Option (List ℕ) → Bool
is_that m None = false
is_that m (Some k) = same_bytes k m

-- a call brings the message m, byte for byte
abbrev pub brings : ℕ → List ℕ → Call → Bool
brings flags m c = is_that m (brought flags c)

-- ---- how often a message is got
unfoldable pub times_got : ℕ → List ℕ → List Call → ℕ
times_got flags m [] = 0
times_got flags m (c ∷ cs) = cond (brings flags m c) 1 0 + times_got flags m cs

-- ---- and how often it is answered new, and duplicate
abbrev pub is_new : Result Novelty AdmitError → ℕ
is_new (Ok novelty.New) = 1
is_new (Ok novelty.Duplicate) = 0
is_new (Err why) = 0

abbrev pub is_duplicate : Result Novelty AdmitError → ℕ
is_duplicate (Ok novelty.New) = 0
is_duplicate (Ok novelty.Duplicate) = 1
is_duplicate (Err why) = 0

-- an admit that brings the message counts as its answer counts, and no other call does
abbrev pub count_at : (Result Novelty AdmitError → ℕ) → ℕ → List ℕ → State → Call → ℕ
count_at f flags m s (admit ed body i word at) =
    cond (brings flags m (admit ed body i word at)) (f (answer_in s ed body i word at)) 0
count_at f flags m s (heartbeat at) = 0
count_at f flags m s (advertise topic windows out) = 0
count_at f flags m s (ask ed body out) = 0
count_at f flags m s (serve ed body second out) = 0
count_at f flags m s (explain id topic windows) = 0

unfoldable pub times : (Result Novelty AdmitError → ℕ) → ℕ → List ℕ → List Call → State → ℕ
times f flags m [] s = 0
times f flags m (c ∷ cs) s = count_at f flags m s c + times f flags m cs (after c s)

abbrev pub times_new : ℕ → List ℕ → List Call → State → ℕ
times_new flags m calls s = times is_new flags m calls s

abbrev pub times_duplicate : ℕ → List ℕ → List Call → State → ℕ
times_duplicate flags m calls s = times is_duplicate flags m calls s

-- ---- admits of k messages of a body, from an index on, each with the host's word, in its edition and at its reading
unfoldable pub admits : (ℕ → Edition) → List ℕ → (ℕ → ℕ) → ℕ → ℕ → List Call
admits eds body at i zero = []
admits eds body at i (suc k) = admit (eds i) body i true (at i) ∷ admits eds body at (suc i) k
