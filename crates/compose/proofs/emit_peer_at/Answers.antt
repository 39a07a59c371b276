-- `compose::emit_peer_at` meets its contract: a peer or nothing, by the code.
use Prim.Native.Nat.{◌*◌}
use mathlib.Core.Path.{sym, ◌∙◌}
use native.Mathlib.Omega.{arith}
use lib.ListN.{length}
use Rattle.message.specs.Rows.{record_from}
use Rattle.compose.specs.Puts.{puts_none, puts_same}
use Rattle.compose.proofs.Parts.{peer-row, peer-yes, peer-no}
use Rattle.compose.proofs.emit_peer_at.Goals as goal

pub emit_peer_field-requires : goal.emit_peer_field-requires
emit_peer_field-requires c =
    let a = c.args in
    let p = c.requires in
    peer-row (length a.bytes.now) _ (record_from a.records.now (a.i * 20)) c.row_at.ensures (p.inside.each a.i p.i_in_bounds) (sym c.is_code.ensures ∙ c.if-is_code.true)

pub returns-then-is_code : goal.returns-then-is_code
returns-then-is_code c =
    let a = c.args in
    puts_same a.out.now a.at _ _ _ _ (peer-yes a.bytes.now _ (record_from a.records.now (a.i * 20)) c.row_at.ensures (sym c.is_code.ensures ∙ c.if-is_code.true)) c.emit_peer_field.ensures

pub returns : goal.returns
returns c =
    let a = c.args in
    puts_same a.out.now a.at _ _ _ _ (peer-no a.bytes.now (record_from a.records.now (a.i * 20)) (sym c.is_code.ensures ∙ c.if-is_code.false)) (puts_none a.out.now a.at (omega (arith, c.ranges.at.fits)))
