-- Public keys, from the libp2p peer id document, "Keys": a protobuf message of two required fields, Type (1) and Data
-- (2), encoded in one way only: both fields, in this order, numbers minimal, nothing else.
use Rattle.std.specs.Prelude.{ℕ, List, ◌∷◌, ◌++◌, length}
use Rattle.peer_id.specs.Uvarint.{uvarint}
use Rattle.key.specs.declared.KeyType.{KeyType}
use Rattle.key.specs.declared.KeyType.TheVariants.{Rsa, Ed25519, Secp256k1, Ecdsa}

-- enum KeyType
abbrev pub code_of : KeyType → ℕ
code_of Rsa = 0
code_of Ed25519 = 1
code_of Secp256k1 = 2
code_of Ecdsa = 3

-- the bytes of a key of this type with these data
unfoldable pub key_bytes : KeyType → List ℕ → List ℕ
key_bytes t d = 0x08 ∷ code_of t ∷ 0x12 ∷ (uvarint (length d) ++ d)

-- these bytes are a key
pub data IsKey : List ℕ → KeyType → List ℕ → Type 0 where
  key : (t : KeyType) (d : List ℕ) → IsKey (key_bytes t d) t d
