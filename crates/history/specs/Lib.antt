-- To be believed: History (calls, the states that they leave, readings, refusals, what was written, what comes in, what
-- is new), Script (calls written out beside the messages that they carry), Answers (what calls answer, in their order);
-- and for the theorems of these names in proofs/: Laws (the gateway that settings start, what stays), ScriptLaws (what
-- follows for calls written out), Off (what a call brought before there were flags), Arrival (a state with other arrival
-- numbers). For examples: Samples.
pub mod History
pub mod Laws
pub mod Off
pub mod Script
pub mod ScriptLaws
pub mod Answers
pub mod Arrival
pub mod Samples
