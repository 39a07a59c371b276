-- To be believed: Lifetime (the seen form that a call takes and makes new, two calls that made one form new, how many
-- others were made new), and in Back what it is that a call steps back; and history's definitions.
-- Theorems: Never (never twice within a lifetime, and for daily use), Enough (choosing max_seen), Fine (40 to 42 never
-- arise), Taken (what the definitions say of an admit); that the bounds are met, Tight; that no part can be had for less,
-- Needed.
-- On the way to them: Steps, Followed, Scripted.
pub mod Lifetime
pub mod Taken
pub mod Fine
pub mod Back
pub mod Steps
pub mod Followed
pub mod Never
pub mod Enough
pub mod Scripted
pub mod Tight
pub mod Needed
