-- `emit_request` meets its contract: the ids are measured, then the IWANT; two heads and the ids are written.
use native.Mathlib.Omega.{arith}
use Rattle.protobuf.specs.Encode.{bytes_field}
use Rattle.rpc.specs.Encode.{repeated}
use Rattle.node.specs.Parts.{parts_in}
use Rattle.node.specs.WireLaws.{request-bytes}
use Rattle.node.proofs.Asking.{ids_fit_lem, entry-head-fits, entry-fits, control-head-fits, want_head-fits, want_ids_fit, request_puts}
use Rattle.node.proofs.emit_request.Goals as goal

pub emit_parts-len-requires : goal.emit_parts-len-requires
emit_parts-len-requires c =
    let a = c.args in
    let p = parts_in a.body.now a.table.now a.n in record {
      parts = c.requires.parts;
      field_bound = (omega arith, ids_fit_lem a.at (repeated (bytes_field 1) p) _ (request-bytes p) c.requires.fits);
    }

pub emit_head-requires : goal.emit_head-requires
emit_head-requires c =
    let a = c.args in
    let p = parts_in a.body.now a.table.now a.n in
    (omega arith, entry-head-fits a.at (repeated (bytes_field 1) p) _ (request-bytes p) c.requires.fits _ _ _ c.emit_parts-len.ensures)

pub overflow_add-entry : goal.overflow_add-entry
overflow_add-entry c =
    let a = c.args in
    let p = parts_in a.body.now a.table.now a.n in
    let z = entry-fits a.at (repeated (bytes_field 1) p) _ (request-bytes p)
    c.requires.fits _ _ _ c.emit_parts-len.ensures _ _ _
    c.emit_head.ensures in omega arith

pub emit_head-i-requires : goal.emit_head-i-requires
emit_head-i-requires c =
    let a = c.args in
    let p = parts_in a.body.now a.table.now a.n in (
      omega arith,
      control-head-fits a.at (repeated (bytes_field 1) p) _ (request-bytes p)
          c.requires.fits _ _ _
          c.emit_parts-len.ensures _ _ _ c.emit_head.ensures,
    )

pub emit_head-j-requires : goal.emit_head-j-requires
emit_head-j-requires c =
    let a = c.args in
    let p = parts_in a.body.now a.table.now a.n in (
      omega arith,
      want_head-fits a.at (repeated (bytes_field 1) p) _ (request-bytes p)
          c.requires.fits _ _ _
          c.emit_parts-len.ensures _ _ _
          c.emit_head.ensures _ _ _ c.emit_head-i.ensures,
    )

pub emit_parts-requires : goal.emit_parts-requires
emit_parts-requires c =
    let a = c.args in
    let p = parts_in a.body.now a.table.now a.n in record {
      parts = c.requires.parts;
      field_bound = (
        omega arith,
        want_ids_fit a.at (repeated (bytes_field 1) p) _ (request-bytes p)
            c.requires.fits
            _ _ _ c.emit_parts-len.ensures _ _ _
            c.emit_head.ensures _ _ _
            c.emit_head-i.ensures _ _ c.emit_head-j.ensures,
      );
    }

pub returns : goal.returns
returns c =
    let a = c.args in let p = parts_in a.body.now a.table.now a.n in
    request_puts a.at (repeated (bytes_field 1) p) _ (request-bytes p)
    c.requires.fits _ _ _
    c.emit_parts-len.ensures _ _
    _ c.emit_head.ensures _ _ _
    c.emit_head-i.ensures _ _
    c.emit_head-j.ensures _ _ c.emit_parts.ensures
