-- `encode::emit_entries` meets its contract. The loop's invariant: what is left along the fields, written at the end of what was written, makes
-- all of it.
use Prim.Native.Nat.{ℕ, ◌-◌}
use mathlib.Core.Path.{◌≡◌}
use mathlib.Core.List.{List}
use lib.ListN.{length}
use Rattle.protobuf.specs.Walk.{walk_at}
use Rattle.schema.specs.declared.Kind.{Kind}
use Rattle.schema.specs.Schema.{row_of, held_of}
use Rattle.canon.specs.Canon.{each_along, held_part, canon, entries_of}
use Rattle.encode.specs.Puts.{Going}
use Rattle.basis.specs.declared.Mode.TheVariants.{Groups}
use Rattle.encode.proofs.emit_entries.Given as goal

-- the entries m of one submessage
abbrev pub entry : Kind → ℕ → List ℕ → List ℕ
entry j m p = held_part Groups (canon Groups) m p (held_of (row_of j m))

abbrev pub invariant-loop-f : goal.invariant-loop-f
invariant-loop-f l =
    Going l.initial.out l.at (entries_of Groups l.kind l.n l.body l.m) l.out l.end (each_along (entry l.kind l.m) l.n l.body (walk_at Groups l.body l.i)) × (length l.out ≡ length l.initial.out)

abbrev pub decreases-loop-f : goal.decreases-loop-f
decreases-loop-f l = length l.body - l.i
