pub mod Laws
pub mod Nodes
pub mod References
pub mod Statements
pub mod Values
