pub mod Rests
pub mod Marks
