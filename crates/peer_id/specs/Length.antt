-- How many bytes a value takes, said twice: from the bits that it needs, and by taking seven bits off at a time.
-- LengthLaws: for values below 2^64 the two agree, and both are the length of the encoding.
use Rattle.std.specs.Prelude.{ℕ, zero, suc, ◌+◌, ◌-◌, ◌/◌, max, cond, ltb}
use Rattle.std.specs.Int.Count.{count_leading_zeros}

-- the bits that a value below 2^64 needs: 64 less its leading zeros, so none for 0
unfoldable pub bits_of : ℕ → ℕ
bits_of v = 64 - count_leading_zeros 64 v

-- those bits, at least one, divided by seven and rounded up
unfoldable pub by_bits : ℕ → ℕ
by_bits v = (max (bits_of v) 1 + 6) / 7

-- 1 below 128, else 1 more than for v / 128; the first number only bounds the recursion, and v itself is always enough
unfoldable pub turns_of : ℕ → ℕ → ℕ
turns_of zero v = 1
turns_of (suc f) v = let r = turns_of f (v / 128) in cond (ltb v 128) 1 (1 + r)

unfoldable pub by_loop : ℕ → ℕ
by_loop v = turns_of v v
