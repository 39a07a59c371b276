-- What reading a varint tells, and what reading a peer id tells: the scope's number and the values beside it.
use Rattle.std.specs.Prelude.{Result, Ok, Err, Option, Some, None, ℕ, [], ◌∷◌}
use Rattle.basis.specs.declared.Told.{Told}
use Rattle.basis.specs.Refusals.{buffer-too_short, overflow, non_canonical, not-peer_id}
use Rattle.basis.specs.Told.{told, done}
use Rattle.peer_id.specs.declared.VarintError.{VarintError}
use Rattle.peer_id.specs.declared.VarintError.TheVariants as varint
use Rattle.peer_id.specs.declared.PeerId.{PeerId}
use Rattle.peer_id.specs.declared.PeerId.TheVariants as who

abbrev pub varint_told : VarintError → Told
varint_told varint.BufferTooShort = told buffer-too_short []
varint_told varint.Overflow = told overflow []
varint_told varint.NonCanonical = told non_canonical []

-- the value, and how many bytes it took
abbrev pub uvarint_told : Result (ℕ × ℕ) VarintError → Told
uvarint_told (Ok (value, used)) = done (value ∷ used ∷ [])
uvarint_told (Err why) = varint_told why

-- the code of its multihash
abbrev pub peer_id_told : Option PeerId → Told
peer_id_told (Some who.Identity) = done (0x00 ∷ [])
peer_id_told (Some who.Sha256) = done (0x12 ∷ [])
peer_id_told None = told not-peer_id []
