-- To be believed: Entries, WellFormed, Calls (the order of refusals), State (`entries_in`), Told, the conditions
-- of Exactly.
-- Cited by contracts, and joined to these by theorems: the other definitions of State and Calls, by Laws.
-- Theorems: Laws, Unique, Exactly, Freed.
-- On the way to them: StateLaws, EntriesLaws.
pub mod Told
pub mod Entries
pub mod State
pub mod Calls
pub mod Unique
pub mod StateLaws
pub mod WellFormed
pub mod EntriesLaws
pub mod Laws
pub mod Exactly
pub mod Freed
