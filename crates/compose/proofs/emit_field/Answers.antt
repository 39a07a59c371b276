-- `compose::emit_field` meets its contract: the topics, or the place of the field, by its number.
use Prim.Native.Nat.{◌+◌, ◌*◌}
use mathlib.Core.Bool.{true}
use mathlib.Core.Path.{◌≡◌, sym, subst}
use lib.ListN.{length}
use Rattle.schema.specs.declared.Place.{Place}
use Rattle.message.specs.Rows.{record_from}
use Rattle.compose.specs.Lent.{rows_from, inside_at}
use Rattle.compose.specs.Puts.{puts_same}
use Rattle.compose.proofs.Parts.{message-row, slot_inside, part-topics, part_other}
use Rattle.compose.proofs.emit_field.Goals as goal

pub returns-then-n-eq4 : goal.returns-then-n-eq4
returns-then-n-eq4 c =
    let a = c.args in
    puts_same a.out.now a.at _ _ _ _ (part-topics a.n a.bytes.now a.r (rows_from a.records.now (a.i + 1)) c.if-n-eq4.true) c.emit_topics.ensures

pub emit_place-requires : goal.emit_place-requires
emit_place-requires c =
    let a = c.args in
    let p = c.requires in
    let n = length a.bytes.now in
    let m = message-row n a.r (record_from a.records.now (a.i * 20)) p.r_value.0 (p.inside.each a.i p.message_row.0) p.message_row.1 in
    (p.r_value.1, subst (λ (x : Place). inside_at n a.r.start x ≡ true) (sym c.slot_at.ensures) (slot_inside n a.r.start a.n a.r.slots m))

pub returns : goal.returns
returns c =
    let a = c.args in
    puts_same a.out.now a.at _ _ _ _ (part_other a.n a.bytes.now a.r (rows_from a.records.now (a.i + 1)) c.if-n-eq4.false _ c.slot_at.ensures) c.emit_place.ensures
