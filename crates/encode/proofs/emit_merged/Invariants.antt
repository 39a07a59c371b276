-- `encode::emit_merged` meets its contract. The invariant: the rows that are left, written at the end of what was written, make all.
use mathlib.Core.Path.{◌≡◌}
use lib.ListN.{length}
use Rattle.canon.specs.Canon.{entries_of, merged_of}
use Rattle.encode.specs.Puts.{Going}
use Rattle.basis.specs.declared.Mode.TheVariants.{Groups}
use Rattle.encode.proofs.Parts.{rows_from}
use Rattle.encode.proofs.emit_merged.Given as goal

abbrev pub invariant-loop-m : goal.invariant-loop-m
invariant-loop-m l =
    Going l.initial.out l.at (merged_of Groups l.kind l.n l.body) l.out l.end (rows_from (entries_of Groups l.kind l.n l.body) l.kind l.m)
    × (length l.out ≡ length l.initial.out)
