pub mod Readers
pub mod Candidates
pub mod Nodes
pub mod Spots
