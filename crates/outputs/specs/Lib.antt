-- To be believed: Named, Outcomes, Fits, Replied (`Replies`, `Counts`), Admitted (`AdmitTakes`, `AdmitTells`).
-- Theorems: Exactly, Offered, Replied, Requested, Advertised, Adverts, Admitted, FitsLaws.
-- On the way to them: Bodies, Cached.
pub mod Named
pub mod Outcomes
pub mod Offered
pub mod Bodies
pub mod Cached
pub mod Replied
pub mod Requested
pub mod Advertised
pub mod Adverts
pub mod Exactly
pub mod Admitted
pub mod Fits
pub mod FitsLaws
