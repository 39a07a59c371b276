-- Which messages of an RPC are fit, by their fields: what the libp2p peer id document and the scope ask of a message before
-- it is taken under a gateway's flags. FitsLaws: an admission takes exactly these.
use Rattle.std.specs.Prelude.{Some, None, ℕ, ◌≤◌, ◌≡◌, Bool, true, List, length}
use Rattle.peer_id.specs.Multihash.{Hash, IsPeerId}
use Rattle.rpc.specs.Rpc.{RawMessage}
use Rattle.rpc.specs.Grammar.{Each}
use Rattle.admission.specs.Flags.{allows_unsigned}
use Rattle.admission.specs.Fit.{KeyOf}

-- what stands behind a message whose sender is s
pub data BackedMessage (flags : ℕ) (m : RawMessage) (word : Bool) (s : List ℕ) : Type 0 where
  -- a signature of 64 bytes; the key is the sender's, as far as its bytes tell; and the host gave its word
  signed : {signature : List ℕ} → m.signature ≡ Some signature → length signature ≡ 64 → KeyOf s m.key → word ≡ true
      → BackedMessage flags m word s
  -- neither signature nor key, where the flags allow that; the host's word does not matter
  unsigned : allows_unsigned flags ≡ true → m.signature ≡ None → m.key ≡ None → BackedMessage flags m word s

pub record FitMessage (flags : ℕ) (m : RawMessage) (word : Bool) : Type 0 where
  -- the sender is a peer id
  pub sender : List ℕ
  pub from : m.from ≡ Some sender
  pub hash : Hash
  pub digest : List ℕ
  pub peer : IsPeerId sender hash digest
  -- a seqno of 1 to 64 bytes
  pub number : List ℕ
  pub seqno : m.seqno ≡ Some number
  pub number-some : 1 ≤ length number
  pub number_short : length number ≤ 64
  -- the sender's signature, or none
  pub backed : BackedMessage flags m word sender
  -- 1 to 4 topics of at most 1,024 bytes, and at most 4,096 bytes in all
  pub topic : 1 ≤ length m.topic_ids
  pub few : length m.topic_ids ≤ 4
  pub short : Each (λ (t : List ℕ). length t ≤ 1024) m.topic_ids
  pub small : length m.raw ≤ 4096
