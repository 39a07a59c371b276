-- `encode::emit_whole` meets its contract. The loop's invariant: what is left along the fields, written at the end of what was written, makes
-- all of it.
use mathlib.Core.Path.{◌≡◌, refl, sym, ap, ◌∙◌}
use native.Mathlib.Omega.{arith}
use Rattle.std.specs.Prelude.{None, Ok}
use Rattle.protobuf.specs.Field.{read_field}
use Rattle.protobuf.specs.Walk.{fields_of}
use Rattle.protobuf.specs.Encode.{bytes_field}
use Rattle.canon.specs.Canon.{each_along}
use Rattle.encode.specs.Puts.{going-all}
use Rattle.encode.proofs.Parts.{walk-end, walk-refused, walk-within, walk-moves, walk-fits, walk-turn}
use Rattle.basis.specs.declared.Mode.TheVariants.{Groups}
use Rattle.encode.proofs.emit_whole.Goals as goal

pub loop-f-init : goal.loop-f-init
loop-f-init c =
    let a = c.args in (going-all a.out.now a.at (each_along (bytes_field a.n) a.n a.input.now (fields_of Groups a.input.now)) c.requires.1, refl)

pub emit_there-end-requires : goal.emit_there-end-requires
emit_there-end-requires c =
    let a = c.args in
    let l = c.loop-f in
    let e = ap Ok (sym c.in-Ok-Some.field-0-is) ∙ c.in-Ok-Some.ensures in
    (c.requires.0, walk-within (bytes_field a.n) a.n a.input.now _ _ _ _ _ _ l.invariant.0 _ e, walk-fits (bytes_field a.n) a.n a.input.now _ _ _ _ _ _ l.invariant.0 _ e)

pub loop-f-smaller : goal.loop-f-smaller
loop-f-smaller c =
    let a = c.args in
    let l = c.loop-f in
    walk-moves (bytes_field a.n) a.n a.input.now _ _ _ _ _ _ l.invariant.0 _ (ap Ok (sym c.in-Ok-Some.field-0-is) ∙ c.in-Ok-Some.ensures)

pub loop-f-preserved : goal.loop-f-preserved
loop-f-preserved c =
    let a = c.args in
    let l = c.loop-f in
    let e = ap Ok (sym c.in-Ok-Some.field-0-is) ∙ c.in-Ok-Some.ensures in
    let k = l.invariant.1 in
    (walk-turn (bytes_field a.n) a.n a.input.now _ _ _ _ _ _ l.invariant.0 _ e _ _ c.emit_there-end.ensures, omega arith)

pub shape_of-out-in_default : goal.shape_of-out-in_default
shape_of-out-in_default c = let k = c.loop-f.invariant.1 in omega arith

pub returns-in_default : goal.returns-in_default
returns-in_default c =
    let a = c.args in
    let l = c.loop-f in
    let e : Ok None ≡ read_field Groups a.input.now l.i = cc in
    walk-end (bytes_field a.n) a.n a.input.now _ _ _ _ _ _ l.invariant.0 e

pub shape_of-out-in_default-2 : goal.shape_of-out-in_default-2
shape_of-out-in_default-2 c = let k = c.loop-f.invariant.1 in omega arith

pub returns-in_default-2 : goal.returns-in_default-2
returns-in_default-2 c =
    let a = c.args in
    let l = c.loop-f in
    walk-refused (bytes_field a.n) a.n a.input.now _ _ _ _ _ _ l.invariant.0 _ (sym c.in_default.is ∙ c.read_field.ensures)
