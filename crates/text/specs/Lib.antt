-- To be believed: Record, Line.
-- Theorems: Rows.
-- On the way to them: Laws.
pub mod Record
pub mod Line
pub mod Laws
pub mod Rows
