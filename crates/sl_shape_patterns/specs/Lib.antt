pub mod Counts
pub mod Heads
pub mod Hulls
pub mod Laws
pub mod Patterns
pub mod Views
pub mod Windows
