-- `encode::emit_body` meets its contract. The invariant: the rows that are left, written at the end of what was written, make all.
use mathlib.Core.Path.{refl, sym, ap, ◌∙◌}
use native.Mathlib.Omega.{arith}
use Rattle.schema.specs.declared.Kind.TheVariants as kind
use Rattle.schema.specs.Schema.{held_of}
use Rattle.canon.specs.Canon.{body_part, canon_body}
use Rattle.encode.specs.Puts.{puts_same, fits-same, going-same}
use Rattle.encode.proofs.Parts.{rows_all, rows-done, rows-fits, rows-turn}
use Rattle.basis.specs.declared.Mode.TheVariants.{Groups}
use Rattle.encode.proofs.emit_body.Invariants.{top}
use Rattle.encode.proofs.emit_body.Goals as goal

pub loop-n-init : goal.loop-n-init
unfolding canon_body
loop-n-init c =
    let a = c.args in (going-same a.out.now 0 _ _ (rows_all (top a.edition a.body.now) (kind.Rpc a.edition)) c.requires, refl)

pub emit_top-end-requires : goal.emit_top-end-requires
emit_top-end-requires c =
    let a = c.args in
    let l = c.loop-n in (
      omega (arith, c.rows-n-end.ensures),
      fits-same _ _ _ (sym (ap (body_part Groups a.body.now l.n) (c.held_of.ensures ∙ ap held_of c.row_of.ensures)))
          (rows-fits (top a.edition a.body.now) (kind.Rpc a.edition) _ _ _ _ _ _ l.invariant.0 (omega (arith, c.rows-n-end.ensures))),
    )

pub loop-n-preserved : goal.loop-n-preserved
loop-n-preserved c =
    let a = c.args in
    let l = c.loop-n in
    let k = l.invariant.1 in (
      rows-turn (top a.edition a.body.now) (kind.Rpc a.edition) _ _ _ _ _ _ l.invariant.0 (omega (arith, c.rows-n-end.ensures)) _ _
          (puts_same _ _ _ _ _ _ (ap (body_part Groups a.body.now l.n) (c.held_of.ensures ∙ ap held_of c.row_of.ensures)) c.emit_top-end.ensures),
      omega arith,
    )

pub shape_of-out : goal.shape_of-out
shape_of-out c = let k = c.loop-n.invariant.1 in omega arith

pub returns : goal.returns
returns c =
    let a = c.args in
    rows-done (top a.edition a.body.now) (kind.Rpc a.edition) _ _ _ _ _ _ c.loop-n.invariant.0 (omega (arith, c.rows-n-end.ensures))

pub returns-2 : goal.returns-2
returns-2 c =
    let a = c.args in
    let l = c.loop-n in
    rows-done (top a.edition a.body.now) (kind.Rpc a.edition) _ _ _ _ _ _
    (rows-turn (top a.edition a.body.now) (kind.Rpc a.edition) _ _ _ _ _ _ l.invariant.0 (omega (arith, c.rows-n-end.ensures)) _ _
    (puts_same _ _ _ _ _ _ (ap (body_part Groups a.body.now l.n) (c.held_of.ensures ∙ ap held_of c.row_of.ensures)) c.emit_top-end.ensures))
    (omega (arith, c.rows-n-end.ensures))
