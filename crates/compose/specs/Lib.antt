-- To be believed: Lent (which lists are lent well), Said (the RPC that they say), Weighed (which messages may be written), Compose (what the calls answer and
-- leave), Told.
-- Theorems: Refused, Off.
-- Cited by contracts of writers inside the crate: Puts. On the way to those of composed: Laws.
pub mod Lent
pub mod Said
pub mod Weighed
pub mod Compose
pub mod Told
pub mod Puts
pub mod Refused
pub mod Off
pub mod Laws
