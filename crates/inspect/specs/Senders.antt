-- The lines of keys and peer ids, in ASCII. Bytes are ` =` and their hex.
use Rattle.std.specs.Prelude.{Result, Ok, Err, Option, Some, None, ℕ, List, [], ◌∷◌, ◌++◌, drop}
use Rattle.text.specs.Line.{number}
use Rattle.lines.specs.Lines.{refusal}
use Rattle.peer_id.specs.declared.PeerId.{PeerId}
use Rattle.key.specs.declared.PublicKey.{PublicKey}
use Rattle.key.specs.declared.PublicKeyError.{PublicKeyError}
use Rattle.peer_id.specs.declared.PeerId.TheVariants as who
use Rattle.peer_id.specs.PeerId.{from_bytes, digest_of}
use Rattle.peer_id.specs.Told.{peer_id_told}
use Rattle.key.specs.Key.{code_of}
use Rattle.key.specs.Decode.{decode_protobuf}
use Rattle.key.specs.Told.{key_told}
use Rattle.inspect.specs.Records.{bytes_text}

-- the type's number and the data, which are all of s from `start` on; or refusal 35
unfoldable pub key_text : List ℕ → Result PublicKey PublicKeyError → List ℕ
key_text s (Ok key) = number (code_of key.key_type) ++ bytes_text (drop key.start s)
key_text s (Err why) = refusal (key_told (Err why))

-- ` identity` or ` sha256`, and the digest; or refusal 34
unfoldable pub peer_id_text : List ℕ → Option PeerId → List ℕ
peer_id_text s (Some who.Identity) = (32 ∷ 105 ∷ 100 ∷ 101 ∷ 110 ∷ 116 ∷ 105 ∷ 116 ∷ 121 ∷ []) ++ bytes_text (digest_of s)
peer_id_text s (Some who.Sha256) = (32 ∷ 115 ∷ 104 ∷ 97 ∷ 50 ∷ 53 ∷ 54 ∷ []) ++ bytes_text (digest_of s)
peer_id_text s None = refusal (peer_id_told None)

-- ---- the call and the answer to a content
-- ` key`
unfoldable pub key_answer : List ℕ → List ℕ
key_answer s = 32 ∷ 107 ∷ 101 ∷ 121 ∷ key_text s (decode_protobuf s)

-- ` peer`
unfoldable pub peer_answer : List ℕ → List ℕ
peer_answer s = 32 ∷ 112 ∷ 101 ∷ 101 ∷ 114 ∷ peer_id_text s (from_bytes s)
