-- What a message tells that is taken or not: the scope's number and the values beside it.
use Rattle.std.specs.Prelude.{Result, Ok, Err, ℕ, [], ◌∷◌}
use Rattle.basis.specs.declared.Told.{Told}
use Rattle.basis.specs.Refusals.{missing-from, invalid_from, invalid_seqno, key-without-signature, missing-signature}
use Rattle.basis.specs.Refusals.{invalid_signature-length, signature_invalid, topic-count, topic-too_long}
use Rattle.basis.specs.Refusals.{message-too_long, not-peer_id, invalid_key, key_mismatch}
use Rattle.basis.specs.Told.{told, done}
use Rattle.admission.specs.declared.Unfit.{Unfit}
use Rattle.admission.specs.declared.Unfit.TheVariants as unfit

abbrev pub unfit_told : Unfit → Told
unfit_told unfit.MissingFrom = told missing-from []
unfit_told (unfit.InvalidFrom len) = told invalid_from (len ∷ [])
unfit_told unfit.NotPeerId = told not-peer_id []
unfit_told unfit.InvalidSeqno = told invalid_seqno []
unfit_told unfit.KeyWithoutSignature = told key-without-signature []
unfit_told unfit.MissingSignature = told missing-signature []
unfit_told (unfit.InvalidSignatureLength len) = told invalid_signature-length (len ∷ [])
unfit_told unfit.InvalidKey = told invalid_key []
unfit_told unfit.KeyPeerIdMismatch = told key_mismatch []
unfit_told unfit.SignatureInvalid = told signature_invalid []
unfit_told (unfit.TopicCount count) = told topic-count (count ∷ [])
unfit_told (unfit.TopicTooLong len) = told topic-too_long (len ∷ [])
unfit_told (unfit.MessageTooLong len) = told message-too_long (len ∷ [])

-- where from starts and ends, and seqno
abbrev pub admission_told : Result ((ℕ × ℕ) × (ℕ × ℕ)) Unfit → Told
admission_told (Err why) = unfit_told why
admission_told (Ok ((a, e), (b, f))) = done (a ∷ e ∷ b ∷ f ∷ [])
