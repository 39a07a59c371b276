-- `encode::emit_place` meets its contract: nothing, or a tag, a length and the bytes that stand at the place.
use Prim.Native.Nat.{◌-◌}
use mathlib.Core.List.{◌++◌}
use Rattle.peer_id.specs.Uvarint.{uvarint}
use Rattle.protobuf.specs.Encode.{tag}
use mathlib.Core.Path.{sym}
use Rattle.encode.specs.Puts.{puts_none, puts_same, puts_append, fits-same, fits-first, fits_next}
use Rattle.encode.proofs.Parts.{place_none, place_is}
use Rattle.encode.proofs.emit_place.Goals as goal

pub overflow_sub-end : goal.overflow_sub-end
overflow_sub-end c = (c.requires.1 _ _ c.in-Present.is).0

pub emit_head-i-requires : goal.emit_head-i-requires
emit_head-i-requires c =
    let a = c.args in
    let pre = c.requires in
    let i = pre.1 _ _ c.in-Present.is in
    let e = place_is a.n _ _ a.input.now a.place c.in-Present.is i.0 i.1 in (
      pre.0,
      fits-first a.at (tag a.n 2 ++ uvarint (c.in-Present.end - c.in-Present.start))
          _ (fits-same a.at _ _ e pre.2),
    )

pub slice_bounds-emit_bytes-count : goal.slice_bounds-emit_bytes-count
slice_bounds-emit_bytes-count c = (c.requires.1 _ _ c.in-Present.is).0

pub slice_bounds-emit_bytes-start : goal.slice_bounds-emit_bytes-start
slice_bounds-emit_bytes-start c = (c.requires.1 _ _ c.in-Present.is).0

pub slice_bounds-emit_bytes-end : goal.slice_bounds-emit_bytes-end
slice_bounds-emit_bytes-end c = (c.requires.1 _ _ c.in-Present.is).1

pub emit_bytes-requires : goal.emit_bytes-requires
emit_bytes-requires c =
    let a = c.args in
    let pre = c.requires in
    let i = pre.1 _ _ c.in-Present.is in
    let e = place_is a.n _ _ a.input.now a.place c.in-Present.is i.0 i.1 in
    fits_next a.out.now _ a.at _ _ _ c.emit_head-i.ensures (fits-same a.at _ _ e pre.2)

pub returns-in-Absent : goal.returns-in-Absent
returns-in-Absent c =
    let a = c.args in
    puts_same a.out.now a.at _ _ _ _ (sym (place_none a.n a.input.now a.place c.in-Absent.is)) (puts_none a.out.now a.at)

pub returns-in-Present : goal.returns-in-Present
returns-in-Present c =
    let emit-head = c.emit_head-i in
    let a = c.args in
    let pre = c.requires in
    let i = pre.1 _ _ c.in-Present.is in
    let e = place_is a.n _ _ a.input.now a.place c.in-Present.is i.0 i.1 in
    puts_same a.out.now a.at _ _ _ _ (sym e)
    (puts_append a.out.now _ _ a.at _ _ _ _ emit-head.ensures c.emit_bytes.ensures)
