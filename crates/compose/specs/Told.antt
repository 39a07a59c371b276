-- What the calls tell: how many bytes were written, or the scope's number and the values beside it. 7 carries where the topic begins in the lent bytes, and no
-- place in a body.
use Rattle.std.specs.Prelude.{Result, Ok, Err, ℕ, [], ◌∷◌}
use Rattle.basis.specs.declared.Told.{Told}
use Rattle.basis.specs.Refusals.{bad_setting, malformed, invalid_utf8, too_many-records, no-message, rpc-too_long, short-room}
use Rattle.basis.specs.Told.{told, done}
use Rattle.admission.specs.Told.{unfit_told}
use Rattle.compose.specs.declared.Wrong.{Wrong}
use Rattle.compose.specs.declared.Wrong.TheVariants as wrong
use Rattle.compose.specs.declared.ComposeError.TheVariants as compose
use Rattle.compose.specs.declared.ComposeError.{ComposeError}

abbrev pub wrong_told : Wrong → Told
wrong_told wrong.BadSetting = told bad_setting []
wrong_told wrong.NotLent = told malformed []
wrong_told (wrong.InvalidUtf8 start) = told invalid_utf8 (start ∷ [])
wrong_told (wrong.TooManyRecords records) = told too_many-records (records ∷ [])
wrong_told (wrong.NoMessage count) = told no-message (count ∷ [])
wrong_told (wrong.Unfit why) = unfit_told why
wrong_told (wrong.TooLong len) = told rpc-too_long (len ∷ [])

abbrev pub composed_told : Result ℕ ComposeError → Told
composed_told (Ok count) = done (count ∷ [])
composed_told (Err (compose.Refused why)) = wrong_told why
composed_told (Err (compose.Room needed)) = told short-room (needed ∷ [])
