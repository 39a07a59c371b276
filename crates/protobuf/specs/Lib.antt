-- To be believed: Refusal, Told, Field, Grammar, Faults, Walk, Encode.
-- Theorems: Laws, RefusalLaws, WalkLaws, Exactly, FaultLaws, ModeLaws, Rows, Refused.
-- On the way to them: EncodeLaws, Spelt, GroupLaws.
pub mod Refusal
pub mod Told
pub mod Grammar
pub mod Field
pub mod Laws
pub mod Walk
pub mod RefusalLaws
pub mod WalkLaws
pub mod Spelt
pub mod GroupLaws
pub mod Exactly
pub mod Encode
pub mod Faults
pub mod FaultLaws
pub mod ModeLaws
pub mod EncodeLaws
pub mod Rows
pub mod Refused
