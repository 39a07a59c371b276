-- `inspect::lists::put_fields` meets its contract: the words that are left, from where the loop stands, make the same table, and end where all of them do.
use Prim.Native.Nat.{◌+◌, ◌-◌, ◌*◌, ◌≤◌}
use mathlib.Core.Path.{◌≡◌}
use lib.Seq.{sets}
use Rattle.inspect.specs.Lists.{fields_words, fields_end}
use Rattle.inspect.proofs.lists.put_fields.Given as goal

abbrev pub invariant-loop-field : goal.invariant-loop-field
invariant-loop-field l =
    (sets l.table (l.i + 3 * l.field) (fields_words (5 - l.field) l.m l.s l.p) ≡ sets l.initial.table l.i (fields_words 5 l.mask l.s l.at))
    × (fields_end (5 - l.field) l.m l.p ≡ fields_end 5 l.mask l.at)
    × (l.p ≤ l.at + 16 * l.field)
