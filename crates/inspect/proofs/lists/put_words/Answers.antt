-- `inspect::lists::put_words` meets its contract: three words, two, and those of the fields, one after the other.
use native.Mathlib.Omega.{arith}
use mathlib.Core.Path.{refl}
use lib.ListN.{length-set}
use borrow.Author.Rules.{rules}
use Rattle.inspect.proofs.Rows.{words-put}
use Rattle.inspect.proofs.lists.put_words.Goals as goal

pub bounds-table-j-2 : goal.bounds-table-j-2
bounds-table-j-2 c = simp length-set (omega arith)

pub put_fields-requires : goal.put_fields-requires
put_fields-requires c = simp length-set (search rules)

pub returns : goal.returns
returns c =
    let a = c.args in let h = words-put a.mask _ a.at a.i _ _ _ _ _ _ _ a.table.now _ _ c.little_at-kind.ensures c.little_at-start.ensures c.little_at-end.ensures
    (c.put_three-j.ensures.value, c.put_three-j.ensures.table_after) c.word_if-number.ensures refl (c.put_fields.ensures.value, c.put_fields.ensures.table_after) in record { value = h.0; table_after = h.1 }
