-- Peer ids, from the libp2p peer id document: a multihash, which is a code, the length of a digest, and the digest,
-- both numbers as varints. The identity code goes with a key of at most 42 bytes, that of SHA-256 with 32 bytes.
use Rattle.std.specs.Prelude.{ℕ, ◌≤◌, ◌≡◌, List, ◌++◌, length}
use Rattle.peer_id.specs.Uvarint.{uvarint}

-- the bytes of a multihash
unfoldable pub multihash : ℕ → List ℕ → List ℕ
multihash code d = uvarint code ++ (uvarint (length d) ++ d)

pub data Hash : Type 0 where
  identity : Hash
  sha_256 : Hash

-- these bytes are a peer id, made so, with this digest
pub data IsPeerId : List ℕ → Hash → List ℕ → Type 0 where
  inlined : (d : List ℕ) → length d ≤ 42 → IsPeerId (multihash 0x00 d) identity d
  hashed : (d : List ℕ) → length d ≡ 32 → IsPeerId (multihash 0x12 d) sha_256 d
