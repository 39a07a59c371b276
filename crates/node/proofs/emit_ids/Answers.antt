-- `node::emit_ids` meets its contract: what is left of the ids, written at the end of what was written, makes all of them.
use native.Mathlib.Omega.{arith}
use Rattle.encode.specs.Puts.{going-none}
use Rattle.node.proofs.Writes.{ids-end, id-head-fits, id-fits, ids_more}
use Rattle.node.proofs.emit_ids.Goals as goal

pub emit_head-end-requires : goal.emit_head-end-requires
emit_head-end-requires c =
    let a = c.args in let l = c.loop-row in (
      omega arith,
      id-head-fits a.n a.rows.now a.id_lens.now a.ids.now l.row-index c.requires.listed c.requires.n_in_bounds c.loop-row-test.true
          a.out.now a.at _ l.out l.end l.invariant,
    )

pub emit_bytes-end-requires : goal.emit_bytes-end-requires
emit_bytes-end-requires c =
    let a = c.args in let l = c.loop-row in
    id-fits a.n a.rows.now a.id_lens.now a.ids.now l.row-index c.requires.listed c.requires.n_in_bounds c.loop-row-test.true
    a.out.now a.at _ l.out l.end l.invariant _ _ c.emit_head-end.ensures

pub loop-row-preserved : goal.loop-row-preserved
loop-row-preserved c =
    let a = c.args in let l = c.loop-row in
    ids_more a.n a.rows.now a.id_lens.now a.ids.now l.row-index c.requires.listed c.requires.n_in_bounds c.loop-row-test.true
    a.out.now a.at _ l.out l.end l.invariant _ _ c.emit_head-end.ensures _ _ c.emit_bytes-end.ensures

pub returns : goal.returns
returns c =
    let a = c.args in let l = c.loop-row in
    going-none _ _ _ _ _ _ l.invariant (ids-end a.n a.rows.now a.id_lens.now a.ids.now l.row-index c.loop-row-test.false)
