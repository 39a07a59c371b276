-- To be believed: Parts (`once`, `without`, `fitting`), Gateway, State, WellFormed, Calls (the order of refusals),
-- Told; and what theorems state: Laws (`Takes`), Declined (`ByIds`), Exactly (`BeatTells`, `ServeTells`), Explained
-- (`Explanation`, `ExplainTells`), Freed (`Freed`), WrapLaws (`moved_node`).
-- Cited by contracts, and joined to these by theorems: what the calls leave, in Calls, by Laws.
-- Theorems: Laws, Declined, WellFormedLaws, Exactly, Explained, Freed, WrapLaws, Readers, Marks, Off, Unique.
-- On the way to them: PartsLaws, StateLaws, WireLaws, AskLaws, ReplyLaws.
pub mod Parts
pub mod PartsLaws
pub mod Told
pub mod Gateway
pub mod State
pub mod Calls
pub mod WellFormed
pub mod StateLaws
pub mod WireLaws
pub mod AskLaws
pub mod ReplyLaws
pub mod Laws
pub mod Declined
pub mod WellFormedLaws
pub mod Exactly
pub mod Explained
pub mod Freed
pub mod WrapLaws
pub mod Readers
pub mod Marks
pub mod Off
pub mod Unique
