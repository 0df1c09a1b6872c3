pub mod Base
pub mod Below
pub mod Bytes
pub mod Numbers
pub mod Bits
pub mod FitLemmas
pub mod Lands
pub mod Masks
pub mod Narrow
pub mod Nodes
pub mod Operators
mod Rows
pub mod Statements
pub mod Terms
