-- Theorems: Back (a clock that steps back changes nothing), Tight (an example of it).
pub mod Back
pub mod Tight
