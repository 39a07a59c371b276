pub mod Tables
pub mod Turns
