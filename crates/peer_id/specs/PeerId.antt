-- Which peer id some bytes are, as they are read: MultihashLaws joins it to the document's grammar.
use Rattle.std.specs.Prelude.{Option, Some, None, ℕ, ◌+◌, List, cond, length, drop, get_or, eqb, ltb}
use Rattle.peer_id.specs.declared.PeerId.{PeerId}
use Rattle.peer_id.specs.declared.PeerId.TheVariants as who

-- a multihash of this code, with a digest of so many bytes
unfoldable pub hash_of : ℕ → ℕ → Option PeerId
hash_of code size =
    cond (eqb code 0x00) (cond (ltb 42 size) None (Some who.Identity))
    (cond (eqb code 0x12) (cond (eqb size 32) (Some who.Sha256) None) None)

-- a byte for the code, one for the size, and just so many bytes
unfoldable pub from_bytes : List ℕ → Option PeerId
from_bytes s = cond (eqb (2 + get_or s 1 0) (length s)) (hash_of (get_or s 0 0) (get_or s 1 0)) None

-- the digest of a peer id
abbrev pub digest_of : List ℕ → List ℕ
digest_of s = drop 2 s
