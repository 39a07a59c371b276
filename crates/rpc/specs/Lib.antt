-- To be believed: Rpc, Grammar, Encode, Id.
pub mod Rpc
pub mod Grammar
pub mod Encode
pub mod Id
