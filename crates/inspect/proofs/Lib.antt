pub mod Answering
pub mod Lines
pub mod Rows
