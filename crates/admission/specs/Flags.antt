-- The flags among a gateway's settings: one number, a bit for each. Bit 0: messages without a signature and without a key
-- may be taken. Bit 1: groups are passed over; `mode_of` of basis reads it, as it does in the number of a dialect.
use Rattle.std.specs.Prelude.{ℕ, ◌%◌, Bool, leb, eqb}

-- the highest number that the known flags make
abbrev pub max_flags : ℕ
max_flags = 3

unfoldable pub known_flags : ℕ → Bool
known_flags flags = leb flags max_flags

unfoldable pub allows_unsigned : ℕ → Bool
allows_unsigned flags = eqb (flags % 2) 1
