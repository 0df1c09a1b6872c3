pub mod Codes
pub mod Instructions
pub mod Nodes
pub mod Operations
mod Rows
