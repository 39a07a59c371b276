-- To be believed: Encode, Sign.
-- Theorems: Refused. Cited by contracts of writers inside the crate: Puts.
pub mod Encode
pub mod Puts
pub mod Sign
pub mod Refused
