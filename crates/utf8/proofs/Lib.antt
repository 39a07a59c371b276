-- What several of the crate's proofs cite.
pub mod Leave
