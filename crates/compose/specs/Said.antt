-- The RPC that lent rows say. They are read as the decoder's own rows are read back (`gather`): a topic is of the last message before it, a peer of the last
-- prune before it, order is kept within a kind, absent is not empty. A message's raw bytes are made anew from its fields, and a control is there where there
-- is a graft or a prune.
use Rattle.std.specs.Prelude.{Option, Some, None, ℕ, List, [], ◌∷◌, ◌++◌, map}
use Rattle.protobuf.specs.Encode.{bytes_field}
use Rattle.message.specs.declared.Record.{Record}
use Rattle.rpc.specs.Rpc.{SubOpts, RawMessage, ControlGraft, PeerInfo, ControlPrune, ControlMessage, Rpc}
use Rattle.rpc.specs.Grammar.{nonzero}
use Rattle.rpc.specs.Encode.{optional, repeated}
use Rattle.meaning.specs.ReadBack.{bytes_at, number_at, raw_of, nothing, gather}

-- ---- a message built from its fields
-- from, data, seqno and every topic: what is signed, after the prefix
unfoldable pub encode_fields : RawMessage → List ℕ
encode_fields m =
    optional (bytes_field 1) m.from
    ++ (optional (bytes_field 2) m.«data»
    ++ (optional (bytes_field 3) m.seqno ++ repeated (bytes_field 4) m.topic_ids))

-- and then signature and key
unfoldable pub encode_message : RawMessage → List ℕ
encode_message m = encode_fields m ++ (optional (bytes_field 5) m.signature ++ optional (bytes_field 6) m.key)

abbrev pub renewed : RawMessage → RawMessage
renewed m =
    record {
      raw = encode_message m;
      from = m.from;
      «data» = m.«data»;
      seqno = m.seqno;
      topic_ids = m.topic_ids;
      signature = m.signature;
      key = m.key;
    }

-- ---- what rows say, over the bytes b
unfoldable pub subscriptions_in : List ℕ → List Record → List SubOpts
subscriptions_in b rs = (gather b rs nothing).subscriptions

unfoldable pub messages_in : List ℕ → List Record → List RawMessage
messages_in b rs = (gather b rs nothing).publish

unfoldable pub grafts_in : List ℕ → List Record → List ControlGraft
grafts_in b rs = (gather b rs nothing).control.graft

unfoldable pub prunes_in : List ℕ → List Record → List ControlPrune
prunes_in b rs = (gather b rs nothing).control.prune

-- topics up to the next message, and peers up to the next prune: of a message or a prune that stands before the rows
unfoldable pub topics_from : List ℕ → List Record → List (List ℕ)
topics_from b rs = (gather b rs nothing).topics

unfoldable pub peers_from : List ℕ → List Record → List PeerInfo
peers_from b rs = (gather b rs nothing).peers

-- ---- what one row says, before the rows rs
abbrev pub sub_opts_of : List ℕ → Record → SubOpts
sub_opts_of b r =
    record {
      subscribe = nonzero (number_at r.slots.number);
      topic_id = bytes_at b r.start r.slots.first;
    }

abbrev pub graft_of : List ℕ → Record → ControlGraft
graft_of b r = record { topic_id = bytes_at b r.start r.slots.first }

abbrev pub peer_of : List ℕ → Record → PeerInfo
peer_of b r =
    record {
      peer_id = bytes_at b r.start r.slots.first;
      signed_peer_record = bytes_at b r.start r.slots.second;
    }

abbrev pub prune_of : List ℕ → Record → List Record → ControlPrune
prune_of b r rs =
    record {
      topic_id = bytes_at b r.start r.slots.first;
      peers = peers_from b rs;
      backoff = number_at r.slots.number;
    }

abbrev pub message_of : List ℕ → Record → List Record → RawMessage
message_of b r rs =
    record {
      raw = raw_of b r;
      from = bytes_at b r.start r.slots.first;
      «data» = bytes_at b r.start r.slots.second;
      seqno = bytes_at b r.start r.slots.third;
      topic_ids = topics_from b rs;
      signature = bytes_at b r.start r.slots.fourth;
      key = bytes_at b r.start r.slots.fifth;
    }

-- ---- the RPC
abbrev pub control_of : List ControlGraft → List ControlPrune → Option ControlMessage
control_of [] [] = None
control_of [] (p ∷ ps) = Some (record { ihave = []; iwant = []; graft = []; prune = p ∷ ps; idontwant = [] })
control_of (g ∷ gs) ps = Some (record { ihave = []; iwant = []; graft = g ∷ gs; prune = ps; idontwant = [] })

unfoldable pub said : List ℕ → List Record → Rpc
said b rs =
    record {
      subscriptions = subscriptions_in b rs;
      publish = map renewed (messages_in b rs);
      control = control_of (grafts_in b rs) (prunes_in b rs);
    }
