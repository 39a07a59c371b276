-- To be believed: Written; Exactly (`Lent`, `TopicAt`, `ListsRefused`, `ListsFine`, `FirstUnfit`; `WritesRpc`, `SignsFields`), Admitted (`of_admission`, `AsAsked`, `Taken`, `Unsigned`,
-- `KeyAlone`, `message_numbers`), Signed (`SameFields`), Spoken (`AsAdmission`), Refused (`write_numbers`, `sign_numbers`, `KeyTold`, `Writable`, `Signable`), Rows (`SmallRows`,
-- `MessageRows`, `LargeRows`).
-- Theorems: Means, MeansBytes, WrittenLaws, Lending, Admitted, Signed, Spoken, Exactly, Refused, Rows.
-- On the way to them: WrittenRows, LendingRows, LendingTexts, LendingWords.
pub mod Written
pub mod Means
pub mod MeansBytes
pub mod WrittenRows
pub mod WrittenLaws
pub mod LendingRows
pub mod LendingTexts
pub mod LendingWords
pub mod Lending
pub mod Admitted
pub mod Signed
pub mod Exactly
pub mod Refused
pub mod Spoken
pub mod Rows
