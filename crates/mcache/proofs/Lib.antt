pub mod Walks
pub mod Listing
pub mod Steps
pub mod Answers
