-- To be believed: Ids, Told.
-- Theorems: Refused, Modes. On the way to them: IdLaws.
pub mod Told
pub mod Ids
pub mod IdLaws
pub mod Modes
pub mod Refused
