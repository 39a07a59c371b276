-- Theorems: Written, Taken, Editions, Modes.
pub mod Written
pub mod Taken
pub mod Editions
pub mod Modes
