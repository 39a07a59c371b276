-- `inspect::lists::put_rows` meets its contract: the rows that are left end where all of them do, and with the words before them in the table their words are all.
use Prim.Native.Nat.{◌-◌, ◌*◌}
use mathlib.Core.Path.{◌≡◌}
use mathlib.Core.List.{◌++◌}
use lib.ListN.{take}
use Rattle.inspect.specs.Lists.{rows_end, rows_words}
use Rattle.inspect.proofs.lists.put_rows.Given as goal

abbrev pub invariant-loop-row : goal.invariant-loop-row
invariant-loop-row l =
    (rows_end (l.count - l.row) l.s l.p ≡ rows_end l.count l.s l.at)
    × (take (20 * l.row) l.table ++ rows_words (l.count - l.row) l.s l.p ≡ rows_words l.count l.s l.at)
