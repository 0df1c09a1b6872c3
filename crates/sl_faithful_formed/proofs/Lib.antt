pub mod FormLemmas
pub mod LengthLemmas
pub mod Nodes
pub mod Operations
pub mod Statements
pub mod Terms
