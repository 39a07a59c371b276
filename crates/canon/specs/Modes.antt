-- What proofs/Modes proves of each kind of message: where the first mode counts its records, its canonical bytes are the
-- same in both modes.
use Rattle.std.specs.Prelude.{Ok, ℕ, ◌≡◌, List}
use Rattle.basis.specs.declared.Mode.TheVariants.{Plain, Groups}
use Rattle.schema.specs.declared.Kind.{Kind}
use Rattle.schema.specs.Count.{counted}
use Rattle.canon.specs.Canon.{canon}

abbrev pub SameBytes : Kind → Type 0
SameBytes k = (s : List ℕ) (n : ℕ) → counted Plain k s ≡ Ok n → canon Groups k s ≡ canon Plain k s
