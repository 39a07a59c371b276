-- To be believed: Count, Spots, Accept, Told. Cited by contracts, and joined to these by theorems: Schema (the table; by
-- Decoded of meaning), Slots (by Back of meaning), Kinds, Made; SlotsLaws (a place within the message). Theorems: TextLaws,
-- Modes, Rows. On the way to them: SchemaLaws, CountLaws, SpotsLaws, AcceptLaws.
pub mod Told
pub mod Schema
pub mod Kinds
pub mod Count
pub mod Spots
pub mod Accept
pub mod Slots
pub mod Made
pub mod SchemaLaws
pub mod CountLaws
pub mod SpotsLaws
pub mod AcceptLaws
pub mod TextLaws
pub mod SlotsLaws
pub mod Modes
pub mod Rows
