-- To be believed: Ends, Stores.
pub mod Ends
pub mod Stores
