-- `encode::emit_body` meets its contract. The invariant: the rows that are left, written at the end of what was written, make all.
use Prim.Native.Nat.{ℕ}
use mathlib.Core.Path.{◌≡◌}
use mathlib.Core.List.{List}
use lib.ListN.{length}
use Rattle.basis.specs.declared.Edition.{Edition}
use Rattle.basis.specs.Dialect.{spoken}
use Rattle.schema.specs.declared.Kind.TheVariants as kind
use Rattle.schema.specs.Schema.{row_of, held_of}
use Rattle.canon.specs.Canon.{body_part, canon_body}
use Rattle.encode.specs.Puts.{Going}
use Rattle.basis.specs.declared.Mode.TheVariants.{Groups}
use Rattle.encode.proofs.Parts.{rows_from}
use Rattle.encode.proofs.emit_body.Given as goal

-- the field n of a body
abbrev pub top : Edition → List ℕ → ℕ → List ℕ
top e s n = body_part Groups s n (held_of (row_of (kind.Rpc e) n))

abbrev pub invariant-loop-n : goal.invariant-loop-n
invariant-loop-n l =
    Going l.initial.out 0 (canon_body (spoken Groups l.fn.edition) l.body) l.out l.end (rows_from (top l.fn.edition l.body) (kind.Rpc l.fn.edition) l.n)
    × (length l.out ≡ length l.initial.out)
