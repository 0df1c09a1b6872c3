pub mod Counts
pub mod Decoded
pub mod Shapes
