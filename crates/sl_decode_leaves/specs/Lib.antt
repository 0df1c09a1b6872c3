pub mod Fields
pub mod Blocks
pub mod Extents
pub mod Joined
pub mod Looks
pub mod Steps
pub mod Wholes
