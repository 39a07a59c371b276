pub mod Turns
pub mod Steps
pub mod Writes
pub mod Telling
pub mod Answers
pub mod Asking
pub mod Serving
