-- `encode::emit_merged` meets its contract. The invariant: the rows that are left, written at the end of what was written, make all.
use mathlib.Core.Path.{refl}
use native.Mathlib.Omega.{arith}
use Rattle.canon.specs.Canon.{entries_of, merged_of}
use Rattle.encode.specs.Puts.{going-same}
use Rattle.encode.proofs.Parts.{few-rows, rows_all, rows-done, rows-fits, rows-turn}
use Rattle.basis.specs.declared.Mode.TheVariants.{Groups}
use Rattle.encode.proofs.emit_merged.Goals as goal

pub loop-m-init : goal.loop-m-init
unfolding merged_of
loop-m-init c =
    let a = c.args in (going-same a.out.now a.at _ _ (rows_all (entries_of Groups a.kind a.n a.body.now) a.kind) c.requires, refl)

pub emit_entries-end-requires : goal.emit_entries-end-requires
emit_entries-end-requires c =
    let a = c.args in
    let m = few-rows a.kind in (
      omega (arith, c.rows-m-end.ensures),
      rows-fits (entries_of Groups a.kind a.n a.body.now) a.kind _ _ _ _ _ _ c.loop-m.invariant.0 (omega (arith, c.rows-m-end.ensures)),
    )

pub loop-m-preserved : goal.loop-m-preserved
loop-m-preserved c =
    let a = c.args in
    let k = c.loop-m.invariant.1 in (
      rows-turn (entries_of Groups a.kind a.n a.body.now) a.kind _ _ _ _ _ _ c.loop-m.invariant.0 (omega (arith, c.rows-m-end.ensures)) _ _ c.emit_entries-end.ensures,
      omega arith,
    )

pub shape_of-out : goal.shape_of-out
shape_of-out c = let k = c.loop-m.invariant.1 in omega arith

pub returns : goal.returns
returns c =
    let a = c.args in
    rows-done (entries_of Groups a.kind a.n a.body.now) a.kind _ _ _ _ _ _ c.loop-m.invariant.0 (omega (arith, c.rows-m-end.ensures))

pub returns-2 : goal.returns-2
returns-2 c =
    let a = c.args in
    rows-done (entries_of Groups a.kind a.n a.body.now) a.kind _ _ _ _ _ _
    (rows-turn (entries_of Groups a.kind a.n a.body.now) a.kind _ _ _ _ _ _ c.loop-m.invariant.0 (omega (arith, c.rows-m-end.ensures)) _ _ c.emit_entries-end.ensures)
    (omega (arith, c.rows-m-end.ensures))
