-- What reading a body tells: how many records, and 1 where a control is there: the scope's number and the values beside
-- it.
use Rattle.std.specs.Prelude.{Result, Ok, Err, ℕ, Bool, cond, [], ◌∷◌}
use Rattle.basis.specs.declared.Told.{Told}
use Rattle.message.specs.declared.DecodeError.TheVariants as dec
use Rattle.message.specs.declared.DecodeError.{DecodeError}
use Rattle.basis.specs.Refusals.{short-room}
use Rattle.basis.specs.Told.{told, done}
use Rattle.protobuf.specs.Told.{refusal_told}

abbrev pub decoded_told : Result (ℕ × Bool) DecodeError → Told
decoded_told (Ok (count, control)) = done (count ∷ cond control 1 0 ∷ [])
decoded_told (Err (dec.Refused why)) = refusal_told why
decoded_told (Err (dec.Room needed)) = told short-room (needed ∷ [])
