-- The RPC that a body and its records say. The records are taken from the last to the first: topics, message ids and
-- peers are collected up to the record that holds them.
use Rattle.std.specs.Prelude.{Option, Some, None, ℕ, ◌+◌, Bool, cond, List, [], ◌∷◌}
use Rattle.protobuf.specs.Walk.{between}
use Rattle.schema.specs.declared.Kind.{Kind}
use Rattle.schema.specs.declared.Kind.TheVariants as kind
use Rattle.schema.specs.declared.Place.{Place}
use Rattle.schema.specs.declared.Place.TheVariants as place
use Rattle.schema.specs.declared.Number.{Number}
use Rattle.schema.specs.declared.Number.TheVariants as number
use Rattle.message.specs.declared.Record.{Record}
use Rattle.rpc.specs.Rpc.{SubOpts, RawMessage, ControlIHave, ControlIWant, ControlGraft, PeerInfo, ControlPrune}
use Rattle.rpc.specs.Rpc.{ControlIDontWant, ControlMessage, Rpc}
use Rattle.rpc.specs.Grammar.{nonzero}

-- the bytes at a place of a record that begins at `at`
abbrev pub bytes_at : List ℕ → ℕ → Place → Option (List ℕ)
bytes_at b at place.Absent = None
bytes_at b at (place.Present a e) = Some (between b (at + a) (at + e))

abbrev pub number_at : Number → Option ℕ
number_at number.Absent = None
number_at (number.Present v) = Some v

abbrev pub raw_of : List ℕ → Record → List ℕ
raw_of b r = between b r.start r.end

-- what the records from one on say: what they hold, and what still waits for its holder
pub record Gathered : Type 0 where
  pub topics : List (List ℕ)
  pub ids : List (List ℕ)
  pub peers : List PeerInfo
  pub subscriptions : List SubOpts
  pub publish : List RawMessage
  pub control : ControlMessage

abbrev pub empty_control : ControlMessage
empty_control = record { ihave = []; iwant = []; graft = []; prune = []; idontwant = [] }

abbrev pub nothing : Gathered
nothing = record { topics = []; ids = []; peers = []; subscriptions = []; publish = []; control = empty_control }

-- each kind of record, before what follows it
abbrev pub gather_sub : List ℕ → Record → Gathered → Gathered
gather_sub b r g =
    record {
      topics = g.topics;
      ids = g.ids;
      peers = g.peers;
      subscriptions =
          record {
            subscribe = nonzero (number_at r.slots.number);
            topic_id = bytes_at b r.start r.slots.first;
          } ∷ g.subscriptions;
      publish = g.publish;
      control = g.control;
    }

abbrev pub gather_message : List ℕ → Record → Gathered → Gathered
gather_message b r g =
    record {
      topics = [];
      ids = g.ids;
      peers = g.peers;
      subscriptions = g.subscriptions;
      publish =
          record {
            raw = raw_of b r;
            from = bytes_at b r.start r.slots.first;
            «data» = bytes_at b r.start r.slots.second;
            seqno = bytes_at b r.start r.slots.third;
            topic_ids = g.topics;
            signature = bytes_at b r.start r.slots.fourth;
            key = bytes_at b r.start r.slots.fifth;
          }
          ∷ g.publish;
      control = g.control;
    }

abbrev pub gather_topic : List ℕ → Record → Gathered → Gathered
gather_topic b r g =
    record {
      topics = raw_of b r ∷ g.topics;
      ids = g.ids;
      peers = g.peers;
      subscriptions = g.subscriptions;
      publish = g.publish;
      control = g.control;
    }

abbrev pub gather_id : List ℕ → Record → Gathered → Gathered
gather_id b r g =
    record {
      topics = g.topics;
      ids = raw_of b r ∷ g.ids;
      peers = g.peers;
      subscriptions = g.subscriptions;
      publish = g.publish;
      control = g.control;
    }

abbrev pub gather_peer : List ℕ → Record → Gathered → Gathered
gather_peer b r g =
    record {
      topics = g.topics;
      ids = g.ids;
      peers = record {
        peer_id = bytes_at b r.start r.slots.first;
        signed_peer_record = bytes_at b r.start r.slots.second;
      } ∷ g.peers;
      subscriptions = g.subscriptions;
      publish = g.publish;
      control = g.control;
    }

-- a control with one entry more
abbrev pub add_iHave : ControlIHave → ControlMessage → ControlMessage
add_iHave h c =
    record { ihave = h ∷ c.ihave; iwant = c.iwant; graft = c.graft; prune = c.prune; idontwant = c.idontwant }

abbrev pub add_iWant : ControlIWant → ControlMessage → ControlMessage
add_iWant w c =
    record { ihave = c.ihave; iwant = w ∷ c.iwant; graft = c.graft; prune = c.prune; idontwant = c.idontwant }

abbrev pub add_graft : ControlGraft → ControlMessage → ControlMessage
add_graft g c =
    record { ihave = c.ihave; iwant = c.iwant; graft = g ∷ c.graft; prune = c.prune; idontwant = c.idontwant }

abbrev pub add_prune : ControlPrune → ControlMessage → ControlMessage
add_prune p c =
    record { ihave = c.ihave; iwant = c.iwant; graft = c.graft; prune = p ∷ c.prune; idontwant = c.idontwant }

abbrev pub add_iDont_want : ControlIDontWant → ControlMessage → ControlMessage
add_iDont_want d c =
    record { ihave = c.ihave; iwant = c.iwant; graft = c.graft; prune = c.prune; idontwant = d ∷ c.idontwant }

abbrev pub gather_iHave : List ℕ → Record → Gathered → Gathered
gather_iHave b r g =
    record {
      topics = g.topics;
      ids = [];
      peers = g.peers;
      subscriptions = g.subscriptions;
      publish = g.publish;
      control = add_iHave (record { topic_id = bytes_at b r.start r.slots.first; message_ids = g.ids })
          g.control;
    }

abbrev pub gather_iWant : List ℕ → Record → Gathered → Gathered
gather_iWant b r g =
    record {
      topics = g.topics;
      ids = [];
      peers = g.peers;
      subscriptions = g.subscriptions;
      publish = g.publish;
      control = add_iWant (record { message_ids = g.ids }) g.control;
    }

abbrev pub gather_graft : List ℕ → Record → Gathered → Gathered
gather_graft b r g =
    record {
      topics = g.topics;
      ids = g.ids;
      peers = g.peers;
      subscriptions = g.subscriptions;
      publish = g.publish;
      control = add_graft (record { topic_id = bytes_at b r.start r.slots.first }) g.control;
    }

abbrev pub gather_prune : List ℕ → Record → Gathered → Gathered
gather_prune b r g =
    record {
      topics = g.topics;
      ids = g.ids;
      peers = [];
      subscriptions = g.subscriptions;
      publish = g.publish;
      control = add_prune
          (record {
            topic_id = bytes_at b r.start r.slots.first;
            peers = g.peers;
            backoff = number_at r.slots.number;
          }) g.control;
    }

abbrev pub gather_iDont_want : List ℕ → Record → Gathered → Gathered
gather_iDont_want b r g =
    record {
      topics = g.topics;
      ids = [];
      peers = g.peers;
      subscriptions = g.subscriptions;
      publish = g.publish;
      control = add_iDont_want (record { message_ids = g.ids }) g.control;
    }

abbrev pub gather_kind : Kind → List ℕ → Record → Gathered → Gathered
gather_kind (kind.Rpc d) b r g = g
gather_kind kind.SubOpts b r g = gather_sub b r g
gather_kind kind.RawMessage b r g = gather_message b r g
gather_kind kind.Topic b r g = gather_topic b r g
gather_kind (kind.ControlMessage d) b r g = g
gather_kind kind.ControlIHave b r g = gather_iHave b r g
gather_kind kind.ControlIWant b r g = gather_iWant b r g
gather_kind kind.MessageId b r g = gather_id b r g
gather_kind kind.ControlGraft b r g = gather_graft b r g
gather_kind kind.ControlPrune b r g = gather_prune b r g
gather_kind kind.PeerInfo b r g = gather_peer b r g
gather_kind kind.ControlIDontWant b r g = gather_iDont_want b r g

-- the records rs, before what g says of those that follow
abbrev pub gather : List ℕ → List Record → Gathered → Gathered
gather b [] g = g
gather b (r ∷ rs) g = gather_kind r.kind b r (gather b rs g)

-- the RPC: a control is there where the decoder says so
abbrev pub rpc_from : Bool → Gathered → Rpc
rpc_from c g =
    record { subscriptions = g.subscriptions; publish = g.publish; control = cond c (Some g.control) None }

unfoldable pub read_back : List ℕ → List Record → Bool → Rpc
read_back b rs c = rpc_from c (gather b rs nothing)
