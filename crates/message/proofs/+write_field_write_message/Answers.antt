-- The cycle {write_field, write_message} meets its contracts.
use Prim.Native.Nat.{◌-◌}
use mathlib.Core.Path.{◌≡◌, sym, ap, ◌∙◌}
use mathlib.Core.List.{[]}
use mathlib.Core.Logic.{inl, inr}
use Rattle.std.specs.Prelude.{None, Ok}
use Rattle.protobuf.specs.Field.{read_field}
use native.Mathlib.Omega.{arith}
use lib.ListN.{length, drop, length-take}
use Rattle.basis.specs.declared.Mode.TheVariants.{Groups}
use Rattle.protobuf.specs.Laws.{field-stands}
use Rattle.schema.specs.SchemaLaws.{sub-rank}
use Rattle.message.specs.Rows.{role_rows, rows_of, field_rows}
use Rattle.message.specs.RowsLaws.{own-length}
use Rattle.message.proofs.Turns.{puts_none, puts_one, left-all, left-none, left-room, left-part, along_at, rows-count, puts_rows, along-end, along-refused, along-field, field_count_lem, puts_field}
use Rattle.message.proofs.+write_field_write_message.Goals as goal

pub write_field-write_leaf-requires : goal.write_field-write_leaf-requires
write_field-write_leaf-requires t c =
    let a = c.args in
    let e : length (field_rows Groups a.kind a.base a.input.now a.f) ≡ 1 =
    field_count_lem Groups a.kind a.base a.input.now a.f _ (sym c.role_of.ensures ∙ c.in-Topic.is) in
    omega arith

pub write_field-write_leaf-requires-in-MessageId : goal.write_field-write_leaf-requires-in-MessageId
write_field-write_leaf-requires-in-MessageId t c =
    let a = c.args in
    let e : length (field_rows Groups a.kind a.base a.input.now a.f) ≡ 1 =
    field_count_lem Groups a.kind a.base a.input.now a.f _ (sym c.role_of.ensures ∙ c.in-MessageId.is) in
    omega arith

pub write_field-write_message-requires : goal.write_field-write_message-requires
write_field-write_message-requires t c =
    let a = c.args in
    let r = sub-rank a.kind _ _ _ _ (sym c.role_of.ensures ∙ c.in-Sub.is) in
    let l = length-take (a.f.next - a.f.start) (drop a.f.start a.input.now) in
    let e = field_count_lem Groups a.kind a.base a.input.now a.f _ (sym c.role_of.ensures ∙ c.in-Sub.is) in
    (omega (arith, c.decreases), (omega arith, omega arith))

pub write_field-returns-in-Skip : goal.write_field-returns-in-Skip
write_field-returns-in-Skip t c =
    let a = c.args in
    let e : role_rows (rows_of Groups) a.base a.input.now a.f c.role_of.result ≡ [] =
    elim c.in-Skip.is [ inl h ↦ rw h | inr o ↦ elim o [ inl h ↦ rw h.1 | inr o ↦ elim o [ inl h ↦ rw h.1 | inr o ↦ elim o [ inl h ↦ rw h.1 | inr h ↦ rw h.1 ] ] ] ] in
    let p = puts_field Groups a.kind a.base a.input.now a.f _ (sym c.role_of.ensures) a.table.now _ a.row _ (rw e (puts_none a.table.now a.row)) in
    record { value = p.0; table_after = p.1 }

pub write_field-returns-in-Topic : goal.write_field-returns-in-Topic
write_field-returns-in-Topic t c =
    let a = c.args in
    let e = sym c.role_of.ensures ∙ c.in-Topic.is in
    let p = puts_field Groups a.kind a.base a.input.now a.f _ e a.table.now _ a.row _ (puts_one a.table.now _ a.row _ _ (c.write_leaf.ensures.value, c.write_leaf.ensures.table_after)) in
    record { value = p.0; table_after = p.1 }

pub write_field-returns-in-MessageId : goal.write_field-returns-in-MessageId
write_field-returns-in-MessageId t c =
    let a = c.args in
    let e = sym c.role_of.ensures ∙ c.in-MessageId.is in
    let p = puts_field Groups a.kind a.base a.input.now a.f _ e a.table.now _ a.row _ (puts_one a.table.now _ a.row _ _ (c.write_leaf-in-MessageId.ensures.value, c.write_leaf-in-MessageId.ensures.table_after)) in
    record { value = p.0; table_after = p.1 }

pub write_field-returns-in-Sub : goal.write_field-returns-in-Sub
write_field-returns-in-Sub t c =
    let a = c.args in
    let e = sym c.role_of.ensures ∙ c.in-Sub.is in
    let p = puts_field Groups a.kind a.base a.input.now a.f _ e a.table.now _ a.row _ (c.write_message.ensures.value, c.write_message.ensures.table_after) in
    record { value = p.0; table_after = p.1 }

pub write_message-write_own-next_row-requires : goal.write_message-write_own-next_row-requires
write_message-write_own-next_row-requires t c =
    let a = c.args in (c.requires.0, omega (arith, rows-count Groups a.kind a.base a.input.now))

pub write_message-loop-f-init : goal.write_message-loop-f-init
write_message-loop-f-init t c =
    let a = c.args in
    record {
      room = omega (arith, rows-count Groups a.kind a.base a.input.now, own-length Groups a.kind a.base a.input.now);
      left = left-all _ _ _;
    }

pub write_message-returns-in_default : goal.write_message-returns-in_default
write_message-returns-in_default t c =
    let a = c.args in
    let e : Ok None ≡ read_field Groups a.input.now c.loop-f.at = cc in
    let z = along-end Groups a.kind a.base a.input.now c.loop-f.at e in
    let w = c.write_own-next_row.ensures in
    let p = puts_rows Groups a.kind a.base a.input.now a.table.now _ _ a.row _ _ (w.value, w.table_after)
    (left-none _ _ _ _ _ _ c.loop-f.invariant.left z) in
    record { value = p.0; table_after = p.1 }

pub write_message-returns-in_default-2 : goal.write_message-returns-in_default-2
write_message-returns-in_default-2 t c =
    let a = c.args in
    let z = along-refused Groups a.kind a.base a.input.now c.loop-f.at _ (sym c.in_default.is ∙ c.read_field.ensures) in
    let w = c.write_own-next_row.ensures in
    let p = puts_rows Groups a.kind a.base a.input.now a.table.now _ _ a.row _ _ (w.value, w.table_after)
    (left-none _ _ _ _ _ _ c.loop-f.invariant.left z) in
    record { value = p.0; table_after = p.1 }

pub write_message-write_field-next_row-requires : goal.write_message-write_field-next_row-requires
write_message-write_field-next_row-requires t c =
    let a = c.args in
    let l = c.loop-f in
    let f = c.in-Ok-Some.f in
    let e = ap Ok (sym c.in-Ok-Some.field-0-is) ∙ c.in-Ok-Some.ensures in
    let m = field-stands Groups a.input.now l.at _ e in
    let r = field_rows Groups a.kind a.base a.input.now f in
    let o = along_at Groups a.kind a.base a.input.now f.next in
    let d = along-field Groups a.kind a.base a.input.now l.at f e in
    (omega (arith, c.decreases), (c.requires.0, record { order = m.ends; fits = m.within }, left-room _ _ _ _ _ _ l.invariant.left r o d l.invariant.room))

pub write_message-loop-f-smaller : goal.write_message-loop-f-smaller
write_message-loop-f-smaller t c =
    let m = field-stands Groups c.args.input.now c.loop-f.at _ (ap Ok (sym c.in-Ok-Some.field-0-is) ∙ c.in-Ok-Some.ensures) in
    omega arith

pub write_message-loop-f-preserved : goal.write_message-loop-f-preserved
write_message-loop-f-preserved t c =
    let a = c.args in
    let l = c.loop-f in
    let f = c.in-Ok-Some.f in
    let r = field_rows Groups a.kind a.base a.input.now f in
    let o = along_at Groups a.kind a.base a.input.now f.next in
    let e = along-field Groups a.kind a.base a.input.now l.at f (ap Ok (sym c.in-Ok-Some.field-0-is) ∙ c.in-Ok-Some.ensures) in
    let w = c.write_field-next_row.ensures in
    record { room = l.invariant.room; left = left-part _ _ _ _ _ _ l.invariant.left r o e _ _ (w.value, w.table_after) }
