-- To be believed: Rows, Ids, Store.
-- Cited by contracts, and joined to these by theorems: Buckets (by BucketsLaws; it matters only to speed).
-- On the way to them: ListLaws, RowsLaws, IdsLaws, BucketsLaws, StoreLaws.
pub mod Rows
pub mod Ids
pub mod Store
pub mod Buckets
pub mod ListLaws
pub mod RowsLaws
pub mod IdsLaws
pub mod BucketsLaws
pub mod StoreLaws
