-- The premises of demand 3 are needed: for each, gateways for which that one does not hold, and what then goes wrong.
-- The theorem is named after the premise. The messages pass admission, but for the one of that premise; that the other
-- premises hold is to be seen from the figures, and is not stated. 65,536 bytes are more than a reply needs: 61,485 are
-- enough for fifteen messages.
use Prim.Native.Nat.{ℕ}
use Rattle.std.specs.Prelude.{Result, ◌≡◌, false, length}
use Rattle.std.proofs.Math.Bool.{true}
use mathlib.Core.List.{List, [], ◌∷◌, ◌++◌}
use Rattle.basis.specs.declared.Edition.{Edition}
use Rattle.basis.specs.Dialect.{mode_of}
use Rattle.protobuf.specs.Encode.{bytes_field}
use Rattle.admission.specs.Admission.{gives_id}
use Rattle.rows.specs.Ids.{same_bytes}
use Rattle.node.specs.declared.Reply.{Reply}
use Rattle.node.specs.declared.ServeError.{ServeError}
use Rattle.node.specs.Gateway.{Gateway, is_new, after_admit, told_of, lacking, having}
use Rattle.node.specs.Calls.{serve_answer, serve_left}
use Rattle.history.specs.History.{State, gateway_of, Settings, Fresh, Call, admit, advertise, ask, serve, after_all}
use Rattle.history.specs.History.{refusal_at, brings, times_new, served_bytes, served_messages, admits}
use Rattle.history.specs.Samples.{signature, first-sender, message, id_of, unsigned_body, start}
use Rattle.outputs.specs.Replied.{wrote}
use Rattle.agreement.specs.Round.{missing, lacked, Play, advert_of, request_of, reply_of, asker_rounds, teller_rounds}
use Rattle.agreement.specs.Example.{second-id, settings_a_lem}
use Rattle.agreement.specs.Pair.{at_a}
use Rattle.agreement.specs.ExampleGroups.{grouped-body}

-- ---- the small messages of the samples
abbrev pub topic : List ℕ
topic = 116 ∷ []

-- a gateway, and one of these messages admitted at a reading
abbrev pub with : ℕ → ℕ → Gateway → Gateway
with at n g = after_admit at (message n) (id_of n) g

-- message 1 is new at a gateway, and new again at a later one
pub record NewTwice (at later : ℕ) (g h : Gateway) : Type 0 where
  pub first : is_new at (message 1) (id_of 1) g ≡ true
  pub again : is_new later (message 1) (id_of 1) h ≡ true

-- ---- different messages of the set have different ids
-- the same from and seqno, and data beside them: another message with the same id
abbrev pub other_message : List ℕ
other_message = 10 ∷ 38 ∷ (first-sender ++ (18 ∷ 1 ∷ 7 ∷ 26 ∷ 1 ∷ 1 ∷ 34 ∷ 1 ∷ 116 ∷ 42 ∷ 64 ∷ signature))

-- it is not new, and the first is what is served in its place
pub record NeverNew (m k id : List ℕ) (g : Gateway) : Type 0 where
  pub differ : same_bytes m k ≡ false
  pub one-id : gives_id g.flags m id ≡ true
  pub same_id : gives_id g.flags k id ≡ true
  pub not_new : is_new 2 k id (after_admit 1 m id g) ≡ false
  pub not-kept : having (after_admit 2 k id (after_admit 1 m id g)) (id ∷ []) ≡ m ∷ []

-- at a gateway with these flags it comes in, in either edition, is called new in no history, and is refused by this
-- number each time
pub record Unanswered (flags number : ℕ) (m body : List ℕ) : Type 0 where
  pub comes_in : (ed : Edition) (at : ℕ) → brings flags m (admit ed body 0 true at) ≡ true
  pub never-new : (calls : List Call) (s : State) → (gateway_of s).flags ≡ flags → times_new flags m calls s ≡ 0
  pub refused : {x : Settings} {s : State} → Fresh x s → x.flags ≡ flags → (before : List Call) (ed : Edition) (at : ℕ)
      → refusal_at (after_all before s) (admit ed body 0 true at) ≡ number

-- the same of a host's name, `gate`, as the sender of a message that is else as the others are, by 34, under all flags
abbrev pub stranger : List ℕ
stranger = 10 ∷ 4 ∷ 103 ∷ 97 ∷ 116 ∷ 101 ∷ 26 ∷ 1 ∷ 1 ∷ 34 ∷ 1 ∷ 116 ∷ 42 ∷ 64 ∷ signature

abbrev pub stranger_body : List ℕ
stranger_body = 18 ∷ 78 ∷ stranger

-- ---- both nodes set alike
-- A gateway lacks a message that another holds, asks for it and is served it; the admit is refused by this number and
-- leaves it as it was. So it lacks the message after any number of rounds.
pub record NeverArrives (p : Play) (number : ℕ) (m id : List ℕ) (a b : State) : Type 0 where
  pub asks : lacking (gateway_of a) (told_of p.topic p.windows (gateway_of b)) ≡ id ∷ []
  pub served : reply_of p a b ≡ bytes_field 2 m
  pub refused : (ed : Edition) (at : ℕ) → refusal_at a (admit ed (reply_of p a b) 0 true at) ≡ number
  pub stays : (r : ℕ) (at : ℕ → ℕ → ℕ) → after_all (asker_rounds p r at a b) a ≡ a
  pub lacks : (r : ℕ) (at : ℕ → ℕ → ℕ)
      → lacked p.topic (after_all (asker_rounds p r at a b) a) (after_all (teller_rounds p r at a b) b)
      ≡ record { id = id; message = m; window = 0 } ∷ []

-- the asker is as the first gateway of the example, fresh, with flags 0
abbrev pub asker : State
asker = start settings_a_lem

-- ---- unsigned messages are allowed by both or by neither
-- the teller allows unsigned messages and holds one, and the asker does not allow them: 25
abbrev pub teller : State
teller = at_a 1 false (unsigned_body 1)

-- ---- both are in one mode
-- the teller passes over groups and holds a message with one, and the asker reads in the first mode: 5
abbrev pub group-teller : State
group-teller = at_a 2 true grouped-body

-- ---- two gateways that lack nothing of each other, and tell of different ids
pub record Apart (windows : ℕ) (a b : Gateway) (tells-a tells-b : List (List ℕ)) : Type 0 where
  pub a_lacks : missing (mode_of b.flags) topic a b.cache ≡ []
  pub b_lacks : missing (mode_of a.flags) topic b a.cache ≡ []
  pub a_tells : told_of topic windows a ≡ tells-a
  pub b_tells : told_of topic windows b ≡ tells-b

-- ---- something is lacking, and what is told of does not have it
pub record Untold (told : List (List ℕ)) (a b : Gateway) : Type 0 where
  pub lacks : length (missing (mode_of b.flags) topic a b.cache) ≡ 1
  pub asks : lacking a told ≡ []

-- ---- no second body is lent in a round
-- a round as those of Round, but for the second body that its serve is lent
module _ (p : Play) (second : List ℕ) (a b : State) where
  abbrev pub reply_with : Result Reply ServeError
  reply_with =
      serve_answer b.node b.ids b.messages (p.serve_edition 0) (request_of p a b) second (p.reply_out 0)

  abbrev pub bytes_with : List ℕ
  bytes_with =
      served_bytes reply_with
      (serve_left b.node b.ids b.messages (p.serve_edition 0) (request_of p a b) second (p.reply_out 0))

  abbrev pub asker_with : (ℕ → ℕ) → List Call
  asker_with at =
      ask (p.ask_edition 0) (advert_of p b) (p.request_out 0)
      ∷ admits (p.admit_edition 0) bytes_with at 0 (served_messages reply_with)

  abbrev pub teller_with : List Call
  teller_with =
      advertise p.topic p.windows (p.advert_out 0)
      ∷ serve (p.serve_edition 0) (request_of p a b) second (p.reply_out 0) ∷ []

  -- a message is lacking and asked for; the serve is not refused, and neither writes nor leaves one, so nothing is
  -- admitted; and after the round it is lacking as before
  pub record Withheld : Type 0 where
    pub lacks : length (lacked p.topic a b) ≡ 1
    pub answers : reply_with ≡ wrote 0 0 0
    pub still : (at : ℕ → ℕ)
        → lacked p.topic (after_all (asker_with at) a) (after_all teller_with b) ≡ lacked p.topic a b

-- the example's gateways: the teller is lent an IDONTWANT of the id of the message that it holds and the asker lacks
abbrev pub unwanted_body : List ℕ
unwanted_body = 26 ∷ 43 ∷ 42 ∷ 41 ∷ 10 ∷ 39 ∷ second-id
