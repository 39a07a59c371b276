pub mod Short
pub mod Skips
