-- `compose::emit_prune` meets its contract: its topic, its peers, its backoff.
use Prim.Native.Nat.{◌+◌, ◌*◌}
use native.Mathlib.Omega.{arith}
use lib.ListN.{length}
use Rattle.message.specs.Rows.{record_from}
use Rattle.compose.specs.Lent.{rows_from}
use Rattle.compose.specs.Puts.{puts_same, puts_append}
use Rattle.compose.proofs.Parts.{prune-row, prune-at}
use Rattle.compose.proofs.emit_prune.Goals as goal

pub emit_place-j-requires : goal.emit_place-j-requires
emit_place-j-requires c =
    let a = c.args in
    let p = c.requires in
    (omega arith, prune-row (length a.bytes.now) _ (record_from a.records.now (a.i * 20)) c.row_at-r.ensures (p.inside.each a.i p.i_in_bounds) p.i_value)

pub returns : goal.returns
returns c =
    let a = c.args in
    puts_same a.out.now a.at _ _ _ _ (prune-at a.bytes.now _ (record_from a.records.now (a.i * 20)) (rows_from a.records.now (a.i + 1)) c.row_at-r.ensures)
    (puts_append a.out.now _ _ a.at _ _ _ _ c.emit_place-j.ensures (puts_append _ _ _ _ _ _ _ _ c.emit_peers-k.ensures c.emit_number.ensures))
