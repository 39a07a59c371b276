-- To be believed: Answers.
pub mod Answers
