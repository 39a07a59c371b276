-- To be believed: Premises, Round; and history's definitions.
-- What the theorems of these names in proofs say: Once, Request, CatchUp, Identical, Agree; of the examples, Example,
-- ExampleRound, ExampleUnsigned, ExampleGroups and Pair (two messages, which the last two share); of what is needed,
-- Needed; and on the way to them, Holding (what a gateway holds), Lacking, Played, Arrive (what a round does), Script.
-- On the way to the theorems of proofs: Rows, Sorted, Fifteen, HandOver, Delivered.
pub mod Premises
pub mod Rows
pub mod Round
pub mod Holding
pub mod Once
pub mod Sorted
pub mod Fifteen
pub mod HandOver
pub mod Delivered
pub mod Lacking
pub mod Played
pub mod Request
pub mod Identical
pub mod Arrive
pub mod CatchUp
pub mod Agree
pub mod Script
pub mod Example
pub mod ExampleRound
pub mod Pair
pub mod ExampleUnsigned
pub mod ExampleGroups
pub mod Needed
