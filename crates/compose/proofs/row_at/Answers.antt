-- `compose::row_at` meets its contract: the table has the row, so it is found.
use Rattle.std.specs.Prelude.{Some, ◌*◌, ◌≡◌}
use Rattle.std.proofs.Common.{rules, sym, ◌∙◌}
use Rattle.message.specs.Rows.{record_from}
use Rattle.meaning.specs.Table.{record_at-row}
use Rattle.compose.proofs.row_at.Goals as goal

pub unwrap-requires : goal.unwrap-requires
unwrap-requires c =
    let a = c.args in
    let e = c.record_at.ensures ∙ record_at-row a.records.now a.i c.requires in
    search rules

pub returns : goal.returns
returns c =
    let a = c.args in
    let e : Some c.unwrap.result ≡ Some (record_from a.records.now (a.i * 20)) =
    sym c.unwrap.ensures ∙ c.record_at.ensures ∙ record_at-row a.records.now a.i c.requires in
    cc
