-- What counting the records of a body tells: how many: the scope's number and the values beside it.
use Rattle.std.specs.Prelude.{Result, Ok, Err, ℕ, [], ◌∷◌}
use Rattle.basis.specs.declared.Told.{Told}
use Rattle.protobuf.specs.declared.WireError.{WireError}
use Rattle.basis.specs.Told.{done}
use Rattle.protobuf.specs.Told.{wire_told}

abbrev pub counted_told : Result ℕ WireError → Told
counted_told (Ok count) = done (count ∷ [])
counted_told (Err why) = wire_told why
