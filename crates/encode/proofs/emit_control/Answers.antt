-- `encode::emit_control` meets its contract: where the body has a control, a head and the controls as one.
use mathlib.Core.List.{[]}
use mathlib.Core.Path.{sym, ap, ◌∙◌}
use mathlib.Core.Bool.{Bool, cond}
use native.Mathlib.Omega.{arith}
use Rattle.protobuf.specs.Encode.{bytes_field}
use Rattle.canon.specs.Canon.{merged_of}
use Rattle.encode.specs.Puts.{puts_none, puts_same}
use Rattle.encode.proofs.Parts.{measure_fits, head-fits, value-fits, sum_fits, field_puts, field-short}
use borrow.Author.Rules.{rules}
use Rattle.basis.specs.declared.Mode.TheVariants.{Groups}
use Rattle.encode.proofs.emit_control.Goals as goal

pub emit_merged-len-requires : goal.emit_merged-len-requires
emit_merged-len-requires c =
    let a = c.args in
    let x = merged_of Groups a.kind a.n a.body.now in measure_fits a.n _ x a.at
    (ap (λ (t : Bool). cond t (bytes_field a.n x) []) (sym c.has_field.ensures ∙ c.if-not-has_field.false))
    c.requires.1

pub emit_head-i-requires : goal.emit_head-i-requires
emit_head-i-requires c =
    let a = c.args in
    let x = merged_of Groups a.kind a.n a.body.now in (
      c.requires.0,
      head-fits a.n _ x a.at (ap (λ (t : Bool). cond t (bytes_field a.n x) []) (sym c.has_field.ensures ∙ c.if-not-has_field.false)) c.requires.1 _ _ _
          c.emit_merged-len.ensures,
    )

pub overflow_add-i : goal.overflow_add-i
overflow_add-i c =
    let a = c.args in
    let x = merged_of Groups a.kind a.n a.body.now in
    let z = sum_fits a.n _ x a.at
    (ap (λ (t : Bool). cond t (bytes_field a.n x) []) (sym c.has_field.ensures ∙ c.if-not-has_field.false))
    c.requires.1 _ _ _
    c.emit_merged-len.ensures _ _ _ c.emit_head-i.ensures in omega arith

pub overflow_add-result : goal.overflow_add-result
overflow_add-result c =
    let a = c.args in
    let x = merged_of Groups a.kind a.n a.body.now in
    let z = sum_fits a.n _ x a.at
    (ap (λ (t : Bool). cond t (bytes_field a.n x) []) (sym c.has_field.ensures ∙ c.if-not-has_field.false))
    c.requires.1 _ _ _
    c.emit_merged-len.ensures _ _ _ c.emit_head-i.ensures in omega arith

pub returns-then-out-i : goal.returns-then-out-i
returns-then-out-i c =
    let a = c.args in
    let x = merged_of Groups a.kind a.n a.body.now in
    field-short a.n _ x a.at
    (ap (λ (t : Bool). cond t (bytes_field a.n x) []) (sym c.has_field.ensures ∙ c.if-not-has_field.false))
    c.requires.1 _ _ _
    c.emit_merged-len.ensures _ _ _ c.emit_head-i.ensures (search rules)
    c.if-out-i.true

pub emit_merged-requires : goal.emit_merged-requires
emit_merged-requires c =
    let a = c.args in
    let x = merged_of Groups a.kind a.n a.body.now in
    value-fits a.n _ x a.at
    (ap (λ (t : Bool). cond t (bytes_field a.n x) [])
    (sym c.has_field.ensures ∙ c.if-not-has_field.false))
    c.requires.1 _ _ _
    c.emit_merged-len.ensures _ _ _ c.emit_head-i.ensures

pub returns : goal.returns
returns c =
    let a = c.args in
    let x = merged_of Groups a.kind a.n a.body.now in
    field_puts a.n _ x a.at
    (ap (λ (t : Bool). cond t (bytes_field a.n x) [])
    (sym c.has_field.ensures ∙ c.if-not-has_field.false))
    c.requires.1 _ _ _
    c.emit_merged-len.ensures _ _ _
    c.emit_head-i.ensures _ _ c.emit_merged.ensures

pub returns-then-not-has_field : goal.returns-then-not-has_field
returns-then-not-has_field c =
    let a = c.args in let x = merged_of Groups a.kind a.n a.body.now in puts_same a.out.now
    a.at [] _ _ _ (sym (ap (λ (t : Bool). cond t (bytes_field a.n x) []) (sym c.has_field.ensures ∙ c.if-not-has_field.true)))
    (puts_none a.out.now a.at)
