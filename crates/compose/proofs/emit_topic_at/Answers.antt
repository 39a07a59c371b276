-- `compose::emit_topic_at` meets its contract: a topic or nothing, by the code.
use Prim.Native.Nat.{◌*◌}
use mathlib.Core.Path.{sym, ◌∙◌}
use native.Mathlib.Omega.{arith}
use lib.ListN.{length}
use Rattle.std.proofs.Common.{rules}
use Rattle.message.specs.Rows.{record_from}
use Rattle.compose.specs.Puts.{puts_none, puts_same}
use Rattle.compose.proofs.Parts.{topic-row, topic-yes, topic-no}
use Rattle.compose.proofs.emit_topic_at.Goals as goal

pub slice_bounds-emit_part-count : goal.slice_bounds-emit_part-count
slice_bounds-emit_part-count c =
    let a = c.args in
    let p = c.requires in
    let h = topic-row (length a.bytes.now) _ (record_from a.records.now (a.i * 20)) c.row_at-r.ensures (p.inside.each a.i p.i_in_bounds) in
    h.0

pub slice_bounds-emit_part-start : goal.slice_bounds-emit_part-start
slice_bounds-emit_part-start c =
    let a = c.args in
    let p = c.requires in
    let h = topic-row (length a.bytes.now) _ (record_from a.records.now (a.i * 20)) c.row_at-r.ensures (p.inside.each a.i p.i_in_bounds) in
    search rules

pub slice_bounds-emit_part-end : goal.slice_bounds-emit_part-end
slice_bounds-emit_part-end c =
    let a = c.args in
    let p = c.requires in
    let h = topic-row (length a.bytes.now) _ (record_from a.records.now (a.i * 20)) c.row_at-r.ensures (p.inside.each a.i p.i_in_bounds) in
    h.1

pub returns-then-is_code : goal.returns-then-is_code
returns-then-is_code c =
    let a = c.args in
    puts_same a.out.now a.at _ _ _ _ (topic-yes a.bytes.now _ (record_from a.records.now (a.i * 20)) c.row_at-r.ensures (sym c.is_code.ensures ∙ c.if-is_code.true)) c.emit_part.ensures

pub returns : goal.returns
returns c =
    let a = c.args in
    puts_same a.out.now a.at _ _ _ _ (topic-no a.bytes.now (record_from a.records.now (a.i * 20)) (sym c.is_code.ensures ∙ c.if-is_code.false)) (puts_none a.out.now a.at (omega (arith, c.ranges.at.fits)))
