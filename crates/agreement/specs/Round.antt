-- Rounds for one topic, between a gateway that asks and one that tells: advertise, ask, serve without a second body,
-- admit all served with the host's word, each call in an edition of its own. And what the one lacks of the other.
use Rattle.std.specs.Prelude.{Result, ℕ, zero, suc, ◌≤◌, cond, not, ◌&&◌, List, [], ◌∷◌, ◌++◌, length}
use Rattle.basis.specs.declared.Edition.{Edition}
use Rattle.basis.specs.declared.Mode.{Mode}
use Rattle.basis.specs.Dialect.{mode_of}
use Rattle.rows.specs.Ids.{among}
use Rattle.mcache.specs.Messages.{Cached, topics}
use Rattle.node.specs.declared.Reply.{Reply}
use Rattle.node.specs.declared.ServeError.{ServeError}
use Rattle.node.specs.Gateway.{Gateway, knows}
use Rattle.node.specs.Calls.{advertise_answer, advertise_left, ask_answer, ask_left, serve_answer, serve_left, max_rpc_size}
use Rattle.history.specs.History.{State, gateway_of, Settings, Call, advertise, ask, serve, after_all, told_bytes}
use Rattle.history.specs.History.{asked_bytes, served_bytes, served_messages, admits}

-- ---- "lacks": the messages of a topic that are cached at one gateway, which reads them in this mode, and not held by
-- the asker
unfoldable pub missing : Mode → List ℕ → Gateway → List Cached → List Cached
missing mode topic asker [] = []
missing mode topic asker (c ∷ cs) =
    cond (among topic (topics mode c) && not (knows asker c.id)) (c ∷ missing mode topic asker cs)
    (missing mode topic asker cs)

-- what a lacks of b
abbrev pub lacked : List ℕ → State → State → List Cached
lacked topic a b = missing (mode_of (gateway_of b).flags) topic (gateway_of a) (gateway_of b).cache

-- ---- what rounds are played with: the topic, the windows told of, and the buffers and editions, which are others for
-- each call of each round; `advert_out k` is lent to the advertise of the k-th round, `admit_edition k i` is its i-th
-- admit's
pub record Play : Type 0 where
  pub topic : List ℕ
  pub windows : ℕ
  pub advert_out : ℕ → List ℕ
  pub request_out : ℕ → List ℕ
  pub reply_out : ℕ → List ℕ
  pub ask_edition : ℕ → Edition
  pub serve_edition : ℕ → Edition
  pub admit_edition : ℕ → ℕ → Edition

-- the same from the second round on
abbrev pub onward : Play → Play
onward p =
    record {
      topic = p.topic;
      windows = p.windows;
      advert_out = λ k. p.advert_out (suc k);
      request_out = λ k. p.request_out (suc k);
      reply_out = λ k. p.reply_out (suc k);
      ask_edition = λ k. p.ask_edition (suc k);
      serve_edition = λ k. p.serve_edition (suc k);
      admit_edition = λ k. p.admit_edition (suc k);
    }

-- the scope's premises on these, for gateways with these settings
pub record Fair (p : Play) (x y : Settings) : Type 0 where
  pub topic-short : length p.topic ≤ 1024
  -- windows at least both history_lens
  pub windows-x : x.history_len ≤ p.windows
  pub windows_y : y.history_len ≤ p.windows
  -- output buffers hold 65,536 bytes
  pub advert-room : (k : ℕ) → max_rpc_size ≤ length (p.advert_out k)
  pub request-room : (k : ℕ) → max_rpc_size ≤ length (p.request_out k)
  pub reply_room_lem : (k : ℕ) → max_rpc_size ≤ length (p.reply_out k)

-- they are the same for the other way round
pub turned : {p : Play} {x y : Settings} → Fair p x y → Fair p y x
turned f =
    record {
      topic-short = f.topic-short;
      windows-x = f.windows_y;
      windows_y = f.windows-x;
      advert-room = f.advert-room;
      request-room = f.request-room;
      reply_room_lem = f.reply_room_lem;
    }

-- and from the second round on
pub fair-onward : {p : Play} {x y : Settings} → Fair p x y → Fair (onward p) x y
fair-onward f =
    record {
      topic-short = f.topic-short;
      windows-x = f.windows-x;
      windows_y = f.windows_y;
      advert-room = λ k. f.advert-room (suc k);
      request-room = λ k. f.request-room (suc k);
      reply_room_lem = λ k. f.reply_room_lem (suc k);
    }

-- ---- what an advertise of topic and windows says that it wrote, with this buffer
unfoldable pub advert_by : List ℕ → ℕ → List ℕ → State → List ℕ
advert_by topic windows out b =
    told_bytes (advertise_answer b.node b.ids b.messages topic windows out)
    (advertise_left b.node b.ids b.messages topic windows out)

-- ---- the first round
module _ (p : Play) where
  -- b's advertisement
  unfoldable pub advert_of : State → List ℕ
  advert_of b = advert_by p.topic p.windows (p.advert_out 0) b

  -- a's request, given b's advertisement
  unfoldable pub request_of : State → State → List ℕ
  request_of a b =
      asked_bytes (ask_answer a.node a.ids a.messages (p.ask_edition 0) (advert_of b) (p.request_out 0))
      (ask_left a.node a.ids a.messages (p.ask_edition 0) (advert_of b) (p.request_out 0))

  -- b's reply, given a's request and no second body
  abbrev pub reply_answer : State → State → Result Reply ServeError
  reply_answer a b =
      serve_answer b.node b.ids b.messages (p.serve_edition 0) (request_of a b) [] (p.reply_out 0)

  unfoldable pub reply_of : State → State → List ℕ
  reply_of a b =
      served_bytes (reply_answer a b)
      (serve_left b.node b.ids b.messages (p.serve_edition 0) (request_of a b) [] (p.reply_out 0))

  unfoldable pub served_count : State → State → ℕ
  served_count a b = served_messages (reply_answer a b)

-- as the calls of each gateway
module _ (p : Play) where
  unfoldable pub asker_round : (ℕ → ℕ) → State → State → List Call
  asker_round at a b =
      ask (p.ask_edition 0) (advert_of p b) (p.request_out 0)
      ∷ admits (p.admit_edition 0) (reply_of p a b) at 0 (served_count p a b)

  unfoldable pub teller_round : State → State → List Call
  teller_round a b =
      advertise p.topic p.windows (p.advert_out 0)
      ∷ serve (p.serve_edition 0) (request_of p a b) [] (p.reply_out 0) ∷ []

-- ---- so many rounds, one after the other, and no other call of either; `at k i` is the reading at the i-th admit of
-- the k-th round
unfoldable pub asker_rounds : Play → ℕ → (ℕ → ℕ → ℕ) → State → State → List Call
asker_rounds p zero at a b = []
asker_rounds p (suc r) at a b =
    asker_round p (at 0) a b ++ asker_rounds (onward p) r (λ k. at (suc k)) (after_all (asker_round p (at 0) a b) a)
    (after_all (teller_round p a b) b)

unfoldable pub teller_rounds : Play → ℕ → (ℕ → ℕ → ℕ) → State → State → List Call
teller_rounds p zero at a b = []
teller_rounds p (suc r) at a b =
    teller_round p a b ++ teller_rounds (onward p) r (λ k. at (suc k)) (after_all (asker_round p (at 0) a b) a)
    (after_all (teller_round p a b) b)
