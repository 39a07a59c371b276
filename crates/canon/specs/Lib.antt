-- To be believed: Messages (`Nth`).
-- Cited by contracts, and joined to these by theorems: Canon (by Written, in proofs/).
-- What theorems in proofs speak of: Written, Modes.
-- Theorems: Shorter, Messages.
-- On the way to them: CanonLaws, Lengths.
pub mod Canon
pub mod CanonLaws
pub mod Lengths
pub mod Shorter
pub mod Messages
pub mod Written
pub mod Modes
