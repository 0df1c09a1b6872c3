pub mod Amounts
pub mod BlockLengths
pub mod Heads
pub mod Lengths
pub mod Ordered
pub mod Rows
pub mod TableRules
pub mod Views
