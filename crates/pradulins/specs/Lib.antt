-- To be believed: Unique (the contract of each function that is lent something), Handed, Holds; what they cite stands in the crates below.
-- Theorems: Unique, Refused, HoldsLaws.
pub mod Handed
pub mod Holds
pub mod HoldsLaws
pub mod Unique
pub mod Refused
