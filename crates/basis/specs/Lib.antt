-- To be believed: Bytes, Writing, Refusals (the scope's table), Dialect, Spot, Told, Little, Unique (the contract of a call with one
-- lent part). On the way to them: Cases, Lists.
pub mod Cases
pub mod Bytes
pub mod Writing
pub mod Lists
pub mod Little
pub mod Refusals
pub mod Spot
pub mod Dialect
pub mod Told
pub mod Unique
