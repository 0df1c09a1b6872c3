pub mod Pieces
pub mod Placed
pub mod Views
