-- To be believed: Answers, Lists, Made, Records, Senders.
-- Theorems: Rows.
pub mod Answers
pub mod Lists
pub mod Made
pub mod Records
pub mod Rows
pub mod Senders
