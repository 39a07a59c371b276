-- `peer_id::uvarint_len` meets its contract: what it gives is the form, and the form is the length of the encoding.
use native.Mathlib.Omega.{arith}
use lib.Count.{leading_le}
use Rattle.peer_id.specs.Length.{by_bits, bits_of}
use Rattle.peer_id.specs.LengthLaws.{bits-uvarint}
use Rattle.peer_id.proofs.uvarint_len.Goals as goal

-- the bits, at least one
pub returns : goal.returns
unfolding by_bits bits_of
returns c = let a = c.args in omega (arith, bits-uvarint a.value c.ranges.value.fits, leading_le 64 a.value, c.max-bits.ensures)
