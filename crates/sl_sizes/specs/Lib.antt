pub mod Nodes
pub mod Solutions
