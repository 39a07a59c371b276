-- A gateway as the scope has it, "The node": its settings, its clock, the ids that it has seen and the messages that it
-- holds, the oldest first; and what each call does to it and makes of it. Nothing here speaks of bytes in a store.
use Rattle.std.specs.Prelude.{Option, Some, None, ℕ, min, Bool, true, false, cond, not, ◌&&◌, ◌||◌, List, [], ◌∷◌, length, take, drop, eqb}
use Rattle.basis.specs.declared.Mode.{Mode}
use Rattle.basis.specs.Dialect.{mode_of}
use Rattle.protobuf.specs.Encode.{bytes_field}
use Rattle.ids.specs.Ids.{mark}
use Rattle.admission.specs.Flags.{allows_unsigned}
use Rattle.admission.specs.Admission.{is_signed}
use Rattle.seen.specs.Entries.{Entry, holds, inserted, live}
use Rattle.mcache.specs.declared.Offer.{Offer}
use Rattle.mcache.specs.Messages.{Cached, held, put, shift, get, gossip_ids, offer_of}
use Rattle.rpc.specs.Rpc.{Rpc, ControlMessage}
use Rattle.rpc.specs.Encode.{encode_rpc, repeated}
use Rattle.node.specs.Parts.{once, without, fitting}

pub record Gateway : Type 0 where
  pub ttl : ℕ
  pub max_seen : ℕ
  pub history_len : ℕ
  pub max_messages : ℕ
  pub flags : ℕ
  pub clock : ℕ
  pub seen : List Entry
  pub cache : List Cached

-- the clock starts at 0
unfoldable pub started : ℕ → ℕ → ℕ → ℕ → ℕ → Gateway
started ttl max_seen history_len max_messages flags =
    record {
      ttl = ttl;
      max_seen = max_seen;
      history_len = history_len;
      max_messages = max_messages;
      flags = flags;
      clock = 0;
      seen = [];
      cache = [];
    }

-- the form in which an id is seen: a mark byte, 1 for a message with a signature and 0 for one without, and then the id
abbrev pub marked : Bool → List ℕ → List ℕ
marked signed id = mark signed ∷ id

-- the mark comes from the message
abbrev pub form_of : Mode → List ℕ → List ℕ → List ℕ
form_of mode message id = marked (is_signed mode message) id

-- ---- admit, at a reading, a message with its id: clean up, then insert the marked id
unfoldable pub is_new : ℕ → List ℕ → List ℕ → Gateway → Bool
is_new at message id g = not (holds (form_of (mode_of g.flags) message id) (live at g.seen))

-- held: duplicate. Else: new, and the message is put under its id. Both set the clock.
unfoldable pub after_admit : ℕ → List ℕ → List ℕ → Gateway → Gateway
after_admit at message id g =
    record {
      ttl = g.ttl;
      max_seen = g.max_seen;
      history_len = g.history_len;
      max_messages = g.max_messages;
      flags = g.flags;
      clock = at;
      seen = inserted g.max_seen (form_of (mode_of g.flags) message id) at g.ttl (live at g.seen);
      cache = cond (is_new at message id g) (put g.max_messages id message g.cache) g.cache;
    }

-- ---- heartbeat: clean up, shift, set the clock
unfoldable pub after_beat : ℕ → Gateway → Gateway
after_beat at g =
    record {
      ttl = g.ttl;
      max_seen = g.max_seen;
      history_len = g.history_len;
      max_messages = g.max_messages;
      flags = g.flags;
      clock = at;
      seen = live at g.seen;
      cache = shift g.history_len g.cache;
    }

-- ---- what advertise and ask write: an RPC, or nothing
-- no ids: no RPC
abbrev pub if_any : List (List ℕ) → Rpc → Option Rpc
if_any [] x = None
if_any (i ∷ is) x = Some x

-- and no bytes
abbrev pub rpc_bytes : Option Rpc → List ℕ
rpc_bytes None = []
rpc_bytes (Some x) = encode_rpc x

abbrev pub controlled : ControlMessage → Rpc
controlled c = record { subscriptions = []; publish = []; control = Some c }

-- ---- advertise
-- the ids of the newest windows that carry the topic, sorted
abbrev pub told_of : List ℕ → ℕ → Gateway → List (List ℕ)
told_of topic windows g = gossip_ids (mode_of g.flags) topic windows g.cache

-- an RPC with one control, one IHAVE, the topic, the sorted ids
unfoldable pub advertisement : List ℕ → List (List ℕ) → Rpc
advertisement topic ids =
    controlled (record {
      ihave = record { topic_id = Some topic; message_ids = ids } ∷ [];
      iwant = [];
      graft = [];
      prune = [];
      idontwant = [];
    })

abbrev pub advertisement_for : List ℕ → List (List ℕ) → Option Rpc
advertisement_for topic ids = if_any ids (advertisement topic ids)

-- advertise topic, windows
unfoldable pub advertise_of : List ℕ → ℕ → Gateway → Option Rpc
advertise_of topic windows g = advertisement_for topic (told_of topic windows g)

-- ---- explain: whether an id is among those, and why not
abbrev pub explain_of : List ℕ → List ℕ → ℕ → Gateway → Offer
explain_of id topic windows g = offer_of (mode_of g.flags) id topic windows g.cache

-- ---- ask
-- an id counts as held where the form of a signed message is seen; where unsigned messages are allowed, either form
unfoldable pub knows : Gateway → List ℕ → Bool
knows g i = holds (marked true i) g.seen || (allows_unsigned g.flags && holds (marked false i) g.seen)

-- those of the ids that are not held
unfoldable pub lacking : Gateway → List (List ℕ) → List (List ℕ)
lacking g [] = []
lacking g (i ∷ is) = cond (knows g i) (lacking g is) (i ∷ lacking g is)

-- an RPC with one IWANT
unfoldable pub request : List (List ℕ) → Rpc
request ids =
    controlled (record {
      ihave = [];
      iwant = record { message_ids = ids } ∷ [];
      graft = [];
      prune = [];
      idontwant = [];
    })

abbrev pub request_for : List (List ℕ) → Option Rpc
request_for ids = if_any ids (request ids)

-- ask, given a body: `named` are the ids in its IHAVEs; one named twice is asked for once, at its first mention
unfoldable pub ask_of : List (List ℕ) → Gateway → Option Rpc
ask_of named g = request_for (lacking g (once named))

-- ---- serve
-- the messages that are cached of the ids
unfoldable pub having : Gateway → List (List ℕ) → List (List ℕ)
having g [] = []
having g (i ∷ is) = cond (held i g.cache) (get i g.cache ∷ having g is) (having g is)

-- the most bytes of a body
abbrev pub max_rpc_size : ℕ
max_rpc_size = 65536

-- the reply room is the buffer or those, the smaller
abbrev pub reply_room : ℕ → ℕ
reply_room buffer = min buffer max_rpc_size

-- how many messages are written, each as a field 2: stopping before the first that would pass what is left of the room
abbrev pub written_in : ℕ → List (List ℕ) → ℕ
written_in room ms = fitting 2 room ms

-- which those are, and which are left
abbrev pub sent_in : ℕ → List (List ℕ) → List (List ℕ)
sent_in room ms = take (written_in room ms) ms

abbrev pub left_in : ℕ → List (List ℕ) → List (List ℕ)
left_in room ms = drop (written_in room ms) ms

-- a reply with the messages written and those left; or 12, with the bytes of the first message's field
pub data Reply : Type 0 where
  sent : List (List ℕ) → List (List ℕ) → Reply
  short : ℕ → Reply

-- its bytes: none with 12
abbrev pub sent_bytes : Reply → List ℕ
sent_bytes (sent written left) = repeated (bytes_field 2) written
sent_bytes (short needed) = []

-- 12 where there are messages and not even the first fits
abbrev pub reply_for : ℕ → List (List ℕ) → Reply
reply_for room [] = sent [] []
reply_for room (m ∷ ms) =
    cond (eqb (written_in room (m ∷ ms)) 0) (short (length (bytes_field 2 m)))
    (sent (sent_in room (m ∷ ms)) (left_in room (m ∷ ms)))

-- serve, given a body: `named` are the ids in its IWANTs, each is served once, in order of first mention; `unwanted`
-- are the ids in the IDONTWANTs of a second body, which are left out
unfoldable pub serve_of : List (List ℕ) → List (List ℕ) → ℕ → Gateway → Reply
serve_of named unwanted buffer g = reply_for (reply_room buffer) (having g (without unwanted (once named)))
