-- `message::write_leaf` meets its contract: a record of no slots is written, and the next row is the place after it.
use Prim.Native.Nat.{◌*◌}
use mathlib.Core.Path.{refl}
use Rattle.message.specs.Rows.{bare_row}
use Rattle.message.proofs.Tables.{leaf-put}
use Rattle.message.proofs.write_leaf.Goals as goal

pub returns : goal.returns
returns c =
    let a = c.args in record {
      value = refl;
      table_after = leaf-put a.table.now _ _ (a.row * 20) _ _ (bare_row a.kind a.start a.end)
          c.kind_code-code.ensures
          (c.put_triple-a.ensures.value, c.put_triple-a.ensures.table_after) c.put_none.ensures;
    }
