pub mod Accepted
pub mod Built
pub mod Exports
pub mod Lists
pub mod Pieces
pub mod Stands
pub mod Views
