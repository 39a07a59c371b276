-- `inspect::lists::put_fields` meets its contract: the words that are left, from where the loop stands, make the same table, and end where all of them do.
use Prim.Native.Nat.{◌+◌, ◌-◌}
use mathlib.Core.Path.{◌∙◌}
use native.Mathlib.Omega.{arith}
use Rattle.inspect.proofs.Rows.{fields-turn, fields-none}
use Rattle.inspect.proofs.lists.put_fields.Goals as goal

pub loop-field-preserved : goal.loop-field-preserved
loop-field-preserved c =
    let l = c.loop-field in
    let t = fields-turn (5 - l.field) (5 - (l.field + 1)) l.m _ l.p _ _ _ _ l.table _ (omega arith) (omega arith) c.word_if-start.ensures c.word_if-end.ensures c.put_three.ensures.table_after in
    (t.0 ∙ l.invariant.0, t.1 ∙ l.invariant.1, omega arith)

pub returns : goal.returns
returns c =
    let l = c.loop-field in
    let t = fields-none (5 - l.field) l.m _ l.p _ l.table (omega arith) in record {
      value = t.1 ∙ l.invariant.1;
      table_after = t.0 ∙ l.invariant.0;
    }
