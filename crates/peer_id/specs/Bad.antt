-- Why bytes begin with no varint, in the scope's words: they end inside one; a tenth byte is above 1; a last byte is 0
-- after others. Nothing here speaks of a reader.
use Rattle.std.specs.Prelude.{ℕ, ◌≤◌, ◌<◌, ◌≡◌, List, [], ◌∷◌, ◌++◌, length}
use Rattle.peer_id.specs.declared.VarintError.{VarintError}
use Rattle.peer_id.specs.declared.VarintError.TheVariants.{BufferTooShort, Overflow, NonCanonical}

-- each byte says that another follows: its high bit is set
abbrev pub Open : List ℕ → Type 0
Open [] = Unit {0}
Open (b ∷ s) = (128 ≤ b) × Open s

pub data Bad : List ℕ → VarintError → Type 0 where
  short : (s : List ℕ) → Open s → length s ≤ 9 → Bad s BufferTooShort
  large : (s rest : List ℕ) {b : ℕ} → Open s → length s ≡ 9 → 1 < b → Bad (s ++ (b ∷ rest)) Overflow
  padded : (s rest : List ℕ) → Open s → 1 ≤ length s → length s ≤ 9 → Bad (s ++ (0 ∷ rest)) NonCanonical
