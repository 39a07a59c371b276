-- To be believed: Flags, Admission, Fit, Told.
-- Theorems: AdmissionLaws, FitLaws, TopicLaws, FlagLaws, Rows.
pub mod Told
pub mod Flags
pub mod Admission
pub mod Fit
pub mod AdmissionLaws
pub mod FitLaws
pub mod TopicLaws
pub mod FlagLaws
pub mod Rows
