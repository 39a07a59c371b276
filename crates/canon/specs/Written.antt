-- What an edition adds to a control, as the writer makes it: proofs/Written speaks of it.
use Rattle.std.specs.Prelude.{ℕ, List, []}
use Rattle.basis.specs.declared.Mode.{Mode}
use Rattle.basis.specs.declared.Edition.{Edition}
use Rattle.basis.specs.declared.Edition.TheVariants.{V11, V12}
use Rattle.schema.specs.declared.Kind.TheVariants as kind
use Rattle.schema.specs.declared.Held.TheVariants as held
use Rattle.canon.specs.Canon.{held_part, canon}

-- those of the fields that an edition adds
unfoldable pub added_part : Mode → Edition → List ℕ → List ℕ
added_part mode V11 p = []
added_part mode V12 p = held_part mode (canon mode) 5 p (held.Anew kind.ControlIDontWant)
