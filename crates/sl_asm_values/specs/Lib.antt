pub mod Narrowing
pub mod Halves
pub mod Names
pub mod Rows
pub mod Sides
