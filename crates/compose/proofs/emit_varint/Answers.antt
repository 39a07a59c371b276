-- `compose::emit_varint` meets its contract: its length says where it ends, and `put_uvarint` puts it there where it fits.
use Prim.Native.Nat.{ℕ, ◌+◌}
use mathlib.Core.Path.{ap, ◌∙◌}
use Rattle.peer_id.specs.Uvarint.{uvarint}
use Rattle.compose.specs.Weighed.{capped}
use Rattle.compose.specs.Puts.{puts_set}
use Rattle.compose.proofs.emit_varint.Goals as goal

pub returns : goal.returns
returns c =
    let a = c.args in
    puts_set a.out.now a.at (uvarint a.value) _ _ (c.past.ensures ∙ ap (λ (x : ℕ). capped (a.at + x)) c.uvarint_len.ensures) c.put_uvarint.ensures.lent
