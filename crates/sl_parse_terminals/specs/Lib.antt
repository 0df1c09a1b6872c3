pub mod Lengths
pub mod Marks
pub mod Rows
pub mod Symbols
pub mod Views
