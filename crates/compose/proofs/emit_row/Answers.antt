-- `compose::emit_row` meets its contract: by the code, each kind by its own writer.
use Rattle.std.specs.Prelude.{◌+◌, ◌*◌, length}
use Rattle.std.proofs.Common.{rules}
use Rattle.message.specs.Rows.{record_from}
use Rattle.compose.specs.Lent.{rows_from}
use Rattle.compose.specs.Puts.{puts_same}
use Rattle.compose.proofs.Parts.{sub_opts_row, graft-row, of_code, row-sub_opts, row-message, row-graft, row-prune, last_code}
use Rattle.compose.proofs.emit_row.Goals as goal

pub emit_sub_opts-requires : goal.emit_sub_opts-requires
emit_sub_opts-requires c =
    let a = c.args in
    let p = c.requires in
    let x = record_from a.records.now (a.i * 20) in
    sub_opts_row (length a.bytes.now) _ x c.row_at.ensures (p.inside.each a.i p.i_in_bounds) (of_code x c.in-1.is p.code_value)

pub emit_graft-requires : goal.emit_graft-requires
emit_graft-requires c =
    let a = c.args in
    let p = c.requires in
    let x = record_from a.records.now (a.i * 20) in
    graft-row (length a.bytes.now) _ x c.row_at-in-8.ensures (p.inside.each a.i p.i_in_bounds) (of_code x c.in-8.is p.code_value)

pub returns-in-1 : goal.returns-in-1
returns-in-1 c =
    let a = c.args in
    puts_same a.out.now a.at _ _ _ _
    (row-sub_opts a.code a.bytes.now _ (record_from a.records.now (a.i * 20)) (rows_from a.records.now (a.i + 1)) c.row_at.ensures c.in-1.is)
    c.emit_sub_opts.ensures

pub returns-in-2 : goal.returns-in-2
returns-in-2 c =
    let a = c.args in
    puts_same a.out.now a.at _ _ _ _
    (row-message a.code a.bytes.now (record_from a.records.now (a.i * 20)) (rows_from a.records.now (a.i + 1)) c.in-2.is)
    c.emit_message.ensures

pub returns-in-8 : goal.returns-in-8
returns-in-8 c =
    let a = c.args in
    puts_same a.out.now a.at _ _ _ _
    (row-graft a.code a.bytes.now _ (record_from a.records.now (a.i * 20)) (rows_from a.records.now (a.i + 1)) c.row_at-in-8.ensures c.in-8.is)
    c.emit_graft.ensures

pub returns-in_default : goal.returns-in_default
returns-in_default c =
    let a = c.args in
    puts_same a.out.now a.at _ _ _ _
    (row-prune a.code a.bytes.now (record_from a.records.now (a.i * 20)) (rows_from a.records.now (a.i + 1)) (last_code c.requires.written (λ e. search rules) (λ e. search rules) (λ e. search rules)))
    c.emit_prune.ensures
