-- `encode::emit_entry` meets its contract: the test on the field picks the case.
use mathlib.Core.Path.{sym, ap, ◌∙◌}
use Rattle.protobuf.specs.Walk.{value_in}
use Rattle.schema.specs.Schema.{row_of, held_of}
use Rattle.canon.specs.Canon.{held_part, canon}
use Rattle.encode.specs.Puts.{puts_same, fits-same}
use Rattle.encode.proofs.Parts.{field-yes, field-no, held-is}
use Rattle.basis.specs.declared.Mode.TheVariants.{Groups}
use Rattle.encode.proofs.emit_entry.Goals as goal

pub emit_held-requires : goal.emit_held-requires
emit_held-requires c =
    let a = c.args in
    let p = value_in a.body.now a.f in
    let x = held_part Groups (canon Groups) a.m p (held_of (row_of a.kind a.m)) in
    let h = c.held_of-held.ensures ∙ ap held_of c.row_of.ensures in
    let y = field-yes a.n a.f x (sym c.is_bytes.ensures ∙ c.if-not-is_bytes.false) ∙ held-is Groups a.m p _ _ (sym h) in
    (c.requires.0, fits-same a.at _ _ y c.requires.2)

pub returns-then-not-is_bytes : goal.returns-then-not-is_bytes
returns-then-not-is_bytes c =
    let a = c.args in
    field-no a.n a.f (held_part Groups (canon Groups) a.m (value_in a.body.now a.f) (held_of (row_of a.kind a.m)))
    (sym c.is_bytes.ensures ∙ c.if-not-is_bytes.true) a.out.now a.at

pub returns : goal.returns
returns c =
    let a = c.args in
    let p = value_in a.body.now a.f in
    let x = held_part Groups (canon Groups) a.m p (held_of (row_of a.kind a.m)) in
    let h = c.held_of-held.ensures ∙ ap held_of c.row_of.ensures in
    let y = field-yes a.n a.f x (sym c.is_bytes.ensures ∙ c.if-not-is_bytes.false) ∙ held-is Groups a.m p _ _ (sym h) in
    puts_same a.out.now a.at _ _ _ _ (sym y) c.emit_held.ensures
