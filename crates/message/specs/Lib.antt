-- To be believed: Decode, Rows (how a record stands in a table), Told.
-- Cited by contracts, and joined to these by theorems: the records of a body in Rows, by Back of meaning.
-- Theorems: Refused, Modes. On the way to them: RowsLaws.
pub mod Told
pub mod Rows
pub mod Decode
pub mod RowsLaws
pub mod Modes
pub mod Refused
