-- To be believed: Lines.
pub mod Lines
