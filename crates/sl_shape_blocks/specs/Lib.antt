pub mod Blocks
pub mod Compare
pub mod Relations
