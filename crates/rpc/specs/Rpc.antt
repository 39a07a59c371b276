-- The RPC as a value: the messages of the gossipsub v1.1 protobuf, and IDONTWANT of v1.2, over lists of bytes. What may
-- be absent is an Option, so that absent and empty stay apart. Names are message.rs's.
use Rattle.std.specs.Prelude.{Option, ℕ, Bool, List}

-- message SubOpts { optional bool subscribe = 1; optional string topicid = 2; }
pub record SubOpts : Type 0 where
  pub subscribe : Option Bool
  pub topic_id : Option (List ℕ)

-- message Message { optional bytes from = 1; optional bytes data = 2; optional bytes seqno = 3; repeated string
-- topicIDs = 4; optional bytes signature = 5; optional bytes key = 6; }; `raw` is the message as it stood in the body
pub record RawMessage : Type 0 where
  pub raw : List ℕ
  pub from : Option (List ℕ)
  pub «data» : Option (List ℕ)
  pub seqno : Option (List ℕ)
  pub topic_ids : List (List ℕ)
  pub signature : Option (List ℕ)
  pub key : Option (List ℕ)

-- message ControlIHave { optional string topicID = 1; repeated bytes messageIDs = 2; }
pub record ControlIHave : Type 0 where
  pub topic_id : Option (List ℕ)
  pub message_ids : List (List ℕ)

-- message ControlIWant { repeated bytes messageIDs = 1; }
pub record ControlIWant : Type 0 where
  pub message_ids : List (List ℕ)

-- message ControlGraft { optional string topicID = 1; }
pub record ControlGraft : Type 0 where
  pub topic_id : Option (List ℕ)

-- message PeerInfo { optional bytes peerID = 1; optional bytes signedPeerRecord = 2; }
pub record PeerInfo : Type 0 where
  pub peer_id : Option (List ℕ)
  pub signed_peer_record : Option (List ℕ)

-- message ControlPrune { optional string topicID = 1; repeated PeerInfo peers = 2; optional uint64 backoff = 3; }
pub record ControlPrune : Type 0 where
  pub topic_id : Option (List ℕ)
  pub peers : List PeerInfo
  pub backoff : Option ℕ

-- v1.2: message ControlIDontWant { repeated bytes messageIDs = 1; }
pub record ControlIDontWant : Type 0 where
  pub message_ids : List (List ℕ)

-- message ControlMessage { repeated ControlIHave ihave = 1; repeated ControlIWant iwant = 2; repeated ControlGraft
-- graft = 3; repeated ControlPrune prune = 4; }, in v1.2 also repeated ControlIDontWant idontwant = 5;
pub record ControlMessage : Type 0 where
  pub ihave : List ControlIHave
  pub iwant : List ControlIWant
  pub graft : List ControlGraft
  pub prune : List ControlPrune
  pub idontwant : List ControlIDontWant

-- message RPC { repeated SubOpts subscriptions = 1; repeated Message publish = 2; optional ControlMessage control = 3;
-- }
pub record Rpc : Type 0 where
  pub subscriptions : List SubOpts
  pub publish : List RawMessage
  pub control : Option ControlMessage
