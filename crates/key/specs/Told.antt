-- What reading a key tells: its type's number and where its data start; or 35, with nothing beside it.
use Rattle.std.specs.Prelude.{Result, Ok, Err, [], ◌∷◌}
use Rattle.basis.specs.declared.Told.{Told}
use Rattle.key.specs.declared.PublicKey.{PublicKey}
use Rattle.key.specs.declared.PublicKeyError.{PublicKeyError}
use Rattle.basis.specs.Refusals.{invalid_key}
use Rattle.basis.specs.Told.{told, done}
use Rattle.key.specs.Key.{code_of}

abbrev pub key_told : Result PublicKey PublicKeyError → Told
key_told (Ok key) = done (code_of key.key_type ∷ key.start ∷ [])
key_told (Err why) = told invalid_key []
