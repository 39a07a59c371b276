-- To be believed: Lines.
-- On the way to them: Laws.
pub mod Laws
pub mod Lines
