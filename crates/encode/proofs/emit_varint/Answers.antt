-- `encode::emit_varint` meets its contract: the varint's length says where it ends, and `put_uvarint` puts it there where it fits.
use Prim.Native.Nat.{ℕ, ◌+◌}
use mathlib.Core.Path.{ap}
use Rattle.peer_id.specs.Uvarint.{uvarint}
use Rattle.encode.specs.Puts.{puts_set}
use Rattle.encode.proofs.emit_varint.Goals as goal

pub returns : goal.returns
returns c =
    let a = c.args in
    puts_set a.out.now a.at (uvarint a.value) _ _ (ap (λ (x : ℕ). a.at + x) c.uvarint_len.ensures)
    c.put_uvarint.ensures.lent
