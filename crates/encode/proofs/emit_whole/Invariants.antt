-- `encode::emit_whole` meets its contract. The loop's invariant: what is left along the fields, written at the end of what was written, makes
-- all of it.
use Prim.Native.Nat.{◌-◌}
use mathlib.Core.Path.{◌≡◌}
use lib.ListN.{length}
use Rattle.protobuf.specs.Walk.{walk_at}
use Rattle.protobuf.specs.Encode.{bytes_field}
use Rattle.canon.specs.Canon.{each_along, each_of}
use Rattle.encode.specs.Puts.{Going}
use Rattle.basis.specs.declared.Mode.TheVariants.{Groups}
use Rattle.encode.proofs.emit_whole.Given as goal

abbrev pub invariant-loop-f : goal.invariant-loop-f
invariant-loop-f l =
    Going l.initial.out l.at (each_of Groups (bytes_field l.n) l.n l.input) l.out l.end (each_along (bytes_field l.n) l.n l.input (walk_at Groups l.input l.i)) × (length l.out ≡ length l.initial.out)

abbrev pub decreases-loop-f : goal.decreases-loop-f
decreases-loop-f l = length l.input - l.i
