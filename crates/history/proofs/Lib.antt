-- Theorems: Laws, Off, ScriptLaws, Arrival.
pub mod Laws
pub mod Off
pub mod ScriptLaws
pub mod Arrival
