-- To be believed: Messages, WellFormed, Calls (the order of refusals), State (`cached_in`, `legal`), Told, Unique (the
-- contracts).
-- Cited by contracts, and joined to these by theorems: the other definitions of State and Calls, by Laws.
-- Theorems: Laws, GossipLaws, OfferLaws (`Answers`), FineLaws, WellFormedLaws, WrapLaws, Unique, Exactly, Readers, Off.
-- On the way to them: TableLaws, StateLaws, CachedLaws, GatherLaws, GuardLaws.
pub mod Told
pub mod Messages
pub mod State
pub mod Calls
pub mod Unique
pub mod WellFormed
pub mod TableLaws
pub mod StateLaws
pub mod GuardLaws
pub mod CachedLaws
pub mod Laws
pub mod GossipLaws
pub mod GatherLaws
pub mod OfferLaws
pub mod FineLaws
pub mod WellFormedLaws
pub mod WrapLaws
pub mod Exactly
pub mod Readers
pub mod Off
