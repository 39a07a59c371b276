pub mod Ending
pub mod Giving
