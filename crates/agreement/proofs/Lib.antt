-- Theorems: Once, Request, CatchUp, Identical, Agree; that the premises can be met, Example, ExampleRound,
-- ExampleUnsigned and ExampleGroups; that they are needed, Needed.
-- On the way to them: Holding, Forward, Lacking, Played, Arrive, Script, Pair.
pub mod Holding
pub mod Forward
pub mod Once
pub mod Lacking
pub mod Played
pub mod Request
pub mod Identical
pub mod Arrive
pub mod CatchUp
pub mod Agree
pub mod Script
pub mod Example
pub mod ExampleRound
pub mod Pair
pub mod ExampleUnsigned
pub mod ExampleGroups
pub mod Needed
