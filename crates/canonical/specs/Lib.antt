-- To be believed: Means (`opt`, `Small`, cited by composed; `Around`), Calls (`Writes`, `Given`, `OfMessage`,
-- `WritesId`; `Encodes`, `Signs`, `Identifies`), Modes (`unsigned`), Rows (`PRows`, `EditionRows`, `GroupRows`, and the
-- records in which they are said).
-- Theorems: Means, Canonical, Calls, Editions, Modes, Rows.
pub mod Means
pub mod Canonical
pub mod Calls
pub mod Editions
pub mod Modes
pub mod Rows
