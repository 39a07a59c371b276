-- What a message, its id and a writer of its bytes tell: the scope's number and the values beside it.
use Rattle.std.specs.Prelude.{Result, Ok, Err, ℕ, [], ◌∷◌}
use Rattle.basis.specs.declared.Told.{Told}
use Rattle.ids.specs.declared.IdError.TheVariants as noid
use Rattle.ids.specs.declared.IdError.{IdError}
use Rattle.ids.specs.declared.MessageError.TheVariants as mess
use Rattle.ids.specs.declared.MessageError.{MessageError}
use Rattle.basis.specs.Refusals.{no-message, missing-from, invalid_from, invalid_seqno, short-room}
use Rattle.basis.specs.Told.{told, done}
use Rattle.protobuf.specs.Told.{refusal_told}

-- where the message starts and ends
abbrev pub message_at_told : Result (ℕ × ℕ) ℕ → Told
message_at_told (Ok (start, end)) = done (start ∷ end ∷ [])
message_at_told (Err count) = told no-message (count ∷ [])

-- where from starts and ends, and seqno
abbrev pub message_id_told : Result ((ℕ × ℕ) × (ℕ × ℕ)) IdError → Told
message_id_told (Err noid.MissingFrom) = told missing-from []
message_id_told (Err (noid.InvalidFrom len)) = told invalid_from (len ∷ [])
message_id_told (Err noid.InvalidSeqno) = told invalid_seqno []
message_id_told (Ok ((a, e), (b, f))) = done (a ∷ e ∷ b ∷ f ∷ [])

-- how many bytes were written
abbrev pub message_told : Result ℕ MessageError → Told
message_told (Ok count) = done (count ∷ [])
message_told (Err (mess.Refused why)) = refusal_told why
message_told (Err (mess.NoMessage count)) = told no-message (count ∷ [])
message_told (Err mess.MissingFrom) = told missing-from []
message_told (Err (mess.InvalidFrom len)) = told invalid_from (len ∷ [])
message_told (Err mess.InvalidSeqno) = told invalid_seqno []
message_told (Err (mess.Room needed)) = told short-room (needed ∷ [])
