-- To be believed: Key, Told.
-- Theorems: KeyLaws, Rows.
-- The answer, in reading order: Decode.
pub mod Key
pub mod Decode
pub mod Told
pub mod KeyLaws
pub mod Rows
