-- An example: two gateways, two messages, of which one is lost on its way to the first gateway, and histories that meet
-- every premise, in which both editions are spoken. How often each message is got, new and a duplicate is computed for
-- it; a round between the two follows in ExampleRound.
use Rattle.std.specs.Prelude.{ℕ, ◌+◌, ◌≡◌, true, List, [], ◌∷◌, ◌++◌, replicate}
use Rattle.basis.specs.declared.Edition.TheVariants.{V11, V12}
use Rattle.node.specs.Calls.{max_rpc_size}
use Rattle.history.specs.History.{State, Settings, Call, admit, heartbeat, times_got, times_new, times_duplicate}
use Rattle.history.specs.Script.{Act, gets, beats}
use Rattle.history.specs.Samples.{signature, first-sender}
use Rattle.agreement.specs.Round.{Play}

-- ---- the messages
abbrev pub topic : List ℕ
topic = 0x74 ∷ []

-- a second sender: an identity over the key of another Ed25519 pair
abbrev pub second-sender : List ℕ
second-sender =
    0x00 ∷ 0x24 ∷ 0x08 ∷ 0x01 ∷ 0x12 ∷ 0x20 ∷
    0xd7 ∷ 0x5a ∷ 0x98 ∷ 0x01 ∷ 0x82 ∷ 0xb1 ∷ 0x0a ∷ 0xb7 ∷ 0xd5 ∷ 0x4b ∷ 0xfe ∷ 0xd3 ∷ 0xc9 ∷ 0x64 ∷ 0x07 ∷ 0x3a ∷
    0x0e ∷ 0xe1 ∷ 0x72 ∷ 0xf3 ∷ 0xda ∷ 0xa6 ∷ 0x23 ∷ 0x25 ∷ 0xaf ∷ 0x02 ∷ 0x1a ∷ 0x68 ∷ 0xf7 ∷ 0x07 ∷ 0x51 ∷ 0x1a ∷ []

-- data `hello`, seqno 1, topic `t`
unfoldable pub first : List ℕ
first =
    0x0a ∷ 0x26 ∷ (first-sender ++ (0x12 ∷ 0x05 ∷ 0x68 ∷ 0x65 ∷ 0x6c ∷ 0x6c ∷ 0x6f ∷ 0x1a ∷ 0x01 ∷ 0x01 ∷ 0x22 ∷ 0x01 ∷
    0x74 ∷ 0x2a ∷ 0x40 ∷ signature))

-- data `bye`, seqno 2, topic `t`
unfoldable pub second : List ℕ
second =
    0x0a ∷ 0x26 ∷ (second-sender ++ (0x12 ∷ 0x03 ∷ 0x62 ∷ 0x79 ∷ 0x65 ∷ 0x1a ∷ 0x01 ∷ 0x02 ∷ 0x22 ∷ 0x01 ∷ 0x74 ∷ 0x2a ∷
    0x40 ∷ signature))

unfoldable pub messages : List (List ℕ)
messages = first ∷ second ∷ []

-- their ids, from and seqno
abbrev pub first-id : List ℕ
first-id = first-sender ++ (0x01 ∷ [])

abbrev pub second-id : List ℕ
second-id = second-sender ++ (0x02 ∷ [])

-- the bodies in which they come: an RPC with one message
unfoldable pub first_body : List ℕ
first_body = 0x12 ∷ 0x77 ∷ first

unfoldable pub second-body : List ℕ
second-body = 0x12 ∷ 0x75 ∷ second

-- ---- the gateways
abbrev pub settings_a_lem : Settings
settings_a_lem = record { ttl = 100; max_seen = 2; history_len = 2; max_messages = 2; flags = 0 }

abbrev pub settings_b_lem : Settings
settings_b_lem = record { ttl = 50; max_seen = 3; history_len = 3; max_messages = 4; flags = 0 }

-- ---- their calls: a gets the first message twice, and the second is lost on its way; b gets the second, the first,
-- and the second again
unfoldable pub calls_a_lem : List Call
calls_a_lem = admit V11 first_body 0 true 10 ∷ admit V12 first_body 0 true 12 ∷ []

unfoldable pub calls_b_lem : List Call
calls_b_lem =
    admit V12 second-body 0 true 7 ∷ admit V12 first_body 0 true 8 ∷ heartbeat 9 ∷ admit V11 second-body 0 true 11 ∷ []

-- the same, written out
abbrev pub script_a : List Act
script_a = gets V11 first_body first first-id 10 ∷ gets V12 first_body first first-id 12 ∷ []

abbrev pub script_b : List Act
script_b =
    gets V12 second-body second second-id 7 ∷ gets V12 first_body first first-id 8 ∷ beats 9
    ∷ gets V11 second-body second second-id 11 ∷ []

-- ---- what rounds are played with: full buffers, for each call of each round one of its own length and content
unfoldable pub buffer : ℕ → ℕ → List ℕ
buffer more byte = replicate (max_rpc_size + more) byte

abbrev pub play : Play
play =
    record {
      topic = topic;
      windows = 3;
      advert_out = λ k. buffer k 0;
      request_out = λ k. buffer (k + 1) 7;
      reply_out = λ k. buffer (k + 2) 255;
      ask_edition = λ k. V12;
      serve_edition = λ k. V11;
      admit_edition = λ k i. V12;
    }

-- ---- a message got is new once
pub record Counts (flags : ℕ) (m : List ℕ) (calls : List Call) (s : State) (got new duplicate : ℕ) : Type 0 where
  pub times_got_lem : times_got flags m calls ≡ got
  pub times_new_lem : times_new flags m calls s ≡ new
  pub times_duplicate_lem : times_duplicate flags m calls s ≡ duplicate
