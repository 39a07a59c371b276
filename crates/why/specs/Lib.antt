-- To be believed: Ends, Given.
-- Theorems: Laws.
pub mod Ends
pub mod Given
pub mod Laws
