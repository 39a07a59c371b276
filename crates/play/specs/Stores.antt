-- How much of a store is lent: so many rows of a size, where there are not too many of them.
use Rattle.std.specs.Prelude.{ℕ, ◌*◌, cond, leb}

unfoldable pub store_len : ℕ → ℕ → ℕ → ℕ
store_len most size n = cond (leb n most) (n * size) 0
