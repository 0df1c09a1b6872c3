pub mod Exports
pub mod Spreading
pub mod Spreads
pub mod Views
