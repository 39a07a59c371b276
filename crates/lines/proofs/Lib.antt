pub mod Shown
pub mod Spots
