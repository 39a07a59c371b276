-- `encode::emit_there` meets its contract: the test on the field picks the case, nothing, or a head and the bytes.
use mathlib.Core.Path.{sym, ◌∙◌}
use mathlib.Core.List.{◌++◌}
use lib.ListN.{length}
use Rattle.peer_id.specs.Uvarint.{uvarint}
use Rattle.protobuf.specs.Walk.{value_in}
use Rattle.protobuf.specs.Encode.{tag, bytes_field}
use Rattle.encode.specs.Puts.{puts_same, puts_append, fits-same, fits-first, fits_next}
use Rattle.encode.proofs.Parts.{field-no, whole_is}
use Rattle.encode.proofs.emit_there.Goals as goal

pub emit_head-i-requires : goal.emit_head-i-requires
emit_head-i-requires c =
    let a = c.args in
    let v = value_in a.input.now a.f in
    let y = whole_is a.n a.input.now a.f (sym c.is_bytes.ensures ∙ c.if-not-is_bytes.false) in
    (c.requires.0, fits-first a.at (tag a.n 2 ++ uvarint (length v)) v (fits-same a.at _ _ y c.requires.2))

pub emit_bytes-requires : goal.emit_bytes-requires
emit_bytes-requires c =
    let a = c.args in
    let v = value_in a.input.now a.f in
    let y = whole_is a.n a.input.now a.f (sym c.is_bytes.ensures ∙ c.if-not-is_bytes.false) in
    fits_next a.out.now _ a.at _ (tag a.n 2 ++ uvarint (length v)) v c.emit_head-i.ensures (fits-same a.at _ _ y c.requires.2)

pub returns-then-not-is_bytes : goal.returns-then-not-is_bytes
returns-then-not-is_bytes c =
    let a = c.args in field-no a.n a.f (bytes_field a.n (value_in a.input.now a.f)) (sym c.is_bytes.ensures ∙ c.if-not-is_bytes.true) a.out.now a.at

pub returns : goal.returns
returns c =
    let a = c.args in
    let y = whole_is a.n a.input.now a.f (sym c.is_bytes.ensures ∙ c.if-not-is_bytes.false) in
    puts_same a.out.now a.at _ _ _ _ (sym y) (puts_append a.out.now _ _ a.at _ _ _ _ c.emit_head-i.ensures c.emit_bytes.ensures)
