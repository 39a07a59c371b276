-- To be believed: Refused, ReadBack, Size (`records_in`), Table (`rows_in`), RefusedLaws and Decoded (the records in
-- which their theorems are said), Editions (`declines`, `older_rpc`), Modes (`NoGroupIn`, `NoGroupBody`).
-- Theorems: Decoded, RefusedLaws, Back, Size, Editions, Modes.
-- On the way to them: Entries, Good, Accepted, Last, Table.
pub mod Refused
pub mod ReadBack
pub mod Entries
pub mod Good
pub mod Accepted
pub mod RefusedLaws
pub mod Last
pub mod Back
pub mod Table
pub mod Size
pub mod Decoded
pub mod Editions
pub mod Modes
