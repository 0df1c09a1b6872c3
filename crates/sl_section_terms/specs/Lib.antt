pub mod Dropped
pub mod Entries
pub mod Operators
pub mod Scopes
pub mod Terms
