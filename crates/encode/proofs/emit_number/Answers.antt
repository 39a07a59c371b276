-- `encode::emit_number` meets its contract: nothing, or a tag and the value where the tag ends.
use Prim.Native.Nat.{◌*◌}
use mathlib.Core.Path.{refl, sym}
use Rattle.peer_id.specs.Uvarint.{uvarint}
use Rattle.encode.specs.Puts.{puts_none, puts_same, puts_append, fits-same, fits-first, fits_next}
use Rattle.encode.proofs.Parts.{number-none, number_is}
use Rattle.encode.proofs.emit_number.Goals as goal

pub emit_varint-i-requires : goal.emit_varint-i-requires
emit_varint-i-requires c =
    let a = c.args in
    let e = number_is a.how a.n _ _ a.number c.in-Present.is refl in
    fits-first a.at (uvarint (a.n * 8)) _ (fits-same a.at _ _ e c.requires.1)

pub emit_varint-requires : goal.emit_varint-requires
emit_varint-requires c =
    let a = c.args in
    let pre = c.requires in
    let e = number_is a.how a.n _ _ a.number c.in-Present.is c.figure.ensures in
    fits_next a.out.now _ a.at _ (uvarint (a.n * 8)) _ c.emit_varint-i.ensures (fits-same a.at _ _ e pre.1)

pub returns-in-Absent : goal.returns-in-Absent
returns-in-Absent c =
    let a = c.args in
    puts_same a.out.now a.at _ _ _ _ (sym (number-none a.how a.n a.number c.in-Absent.is)) (puts_none a.out.now a.at)

pub returns-in-Present : goal.returns-in-Present
returns-in-Present c =
    let figure = c.figure in
    let a = c.args in
    let e = number_is a.how a.n _ _ a.number c.in-Present.is figure.ensures in
    puts_same a.out.now a.at _ _ _ _ (sym e)
    (puts_append a.out.now _ _ a.at _ _ _ _ c.emit_varint-i.ensures
    c.emit_varint.ensures)
