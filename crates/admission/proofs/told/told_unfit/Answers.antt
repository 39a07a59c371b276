-- `admission::told::told_unfit` meets its contract: in each arm the answer is the one that was matched.
use mathlib.Core.Path.{sym, ap, ◌∙◌}
use Rattle.admission.specs.Told.{unfit_told}
use Rattle.admission.proofs.told.told_unfit.Goals as goal

pub returns-in-MissingFrom : goal.returns-in-MissingFrom
returns-in-MissingFrom c = c.none.ensures ∙ ap unfit_told (sym c.in-MissingFrom.is)

pub returns-in-InvalidFrom : goal.returns-in-InvalidFrom
returns-in-InvalidFrom c = c.one.ensures ∙ ap unfit_told (sym c.in-InvalidFrom.is)

pub returns-in-NotPeerId : goal.returns-in-NotPeerId
returns-in-NotPeerId c = c.none-in-NotPeerId.ensures ∙ ap unfit_told (sym c.in-NotPeerId.is)

pub returns-in-InvalidSeqno : goal.returns-in-InvalidSeqno
returns-in-InvalidSeqno c = c.none-in-InvalidSeqno.ensures ∙ ap unfit_told (sym c.in-InvalidSeqno.is)

pub returns-in-KeyWithoutSignature : goal.returns-in-KeyWithoutSignature
returns-in-KeyWithoutSignature c = c.none-in-KeyWithoutSignature.ensures ∙ ap unfit_told (sym c.in-KeyWithoutSignature.is)

pub returns-in-MissingSignature : goal.returns-in-MissingSignature
returns-in-MissingSignature c = c.none-in-MissingSignature.ensures ∙ ap unfit_told (sym c.in-MissingSignature.is)

pub returns-in-InvalidSignatureLength : goal.returns-in-InvalidSignatureLength
returns-in-InvalidSignatureLength c = c.one-in-InvalidSignatureLength.ensures ∙ ap unfit_told (sym c.in-InvalidSignatureLength.is)

pub returns-in-InvalidKey : goal.returns-in-InvalidKey
returns-in-InvalidKey c = c.none-in-InvalidKey.ensures ∙ ap unfit_told (sym c.in-InvalidKey.is)

pub returns-in-KeyPeerIdMismatch : goal.returns-in-KeyPeerIdMismatch
returns-in-KeyPeerIdMismatch c = c.none-in-KeyPeerIdMismatch.ensures ∙ ap unfit_told (sym c.in-KeyPeerIdMismatch.is)

pub returns-in-SignatureInvalid : goal.returns-in-SignatureInvalid
returns-in-SignatureInvalid c = c.none-in-SignatureInvalid.ensures ∙ ap unfit_told (sym c.in-SignatureInvalid.is)

pub returns-in-TopicCount : goal.returns-in-TopicCount
returns-in-TopicCount c = c.one-in-TopicCount.ensures ∙ ap unfit_told (sym c.in-TopicCount.is)

pub returns-in-TopicTooLong : goal.returns-in-TopicTooLong
returns-in-TopicTooLong c = c.one-in-TopicTooLong.ensures ∙ ap unfit_told (sym c.in-TopicTooLong.is)

pub returns-in-MessageTooLong : goal.returns-in-MessageTooLong
returns-in-MessageTooLong c = c.one-in-MessageTooLong.ensures ∙ ap unfit_told (sym c.in-MessageTooLong.is)
