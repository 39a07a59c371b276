-- The dialect in which a body is read, and the numbers that name one. The edition of gossipsub is one part: of 1.1 or of
-- 1.2, whose controls also hold IDONTWANTs. It is the stream's. The reading mode is the other: whether groups are refused
-- or passed over. A body call takes both with the body; a gateway has its mode among its settings, under the same bit.
use Rattle.std.specs.Prelude.{ℕ, ◌/◌, ◌%◌, cond, eqb}
use Rattle.basis.specs.declared.Edition.{Edition}
use Rattle.basis.specs.declared.Edition.TheVariants.{V11, V12}
use Rattle.basis.specs.declared.Mode.{Mode}
use Rattle.basis.specs.declared.Mode.TheVariants.{Plain, Groups}
use Rattle.basis.specs.declared.Dialect.{Dialect}

-- only the lowest bit counts
unfoldable pub edition_of : ℕ → Edition
edition_of n = cond (eqb (n % 2) 0) V11 V12

-- only the second bit counts
unfoldable pub mode_of : ℕ → Mode
mode_of n = cond (eqb (n / 2 % 2) 0) Plain Groups

-- what a reader in that mode takes of a stream in an edition
abbrev pub spoken : Mode → Edition → Dialect
spoken m e = record { edition = e; mode = m }

unfoldable pub dialect_of : ℕ → Dialect
dialect_of n = spoken (mode_of n) (edition_of n)
