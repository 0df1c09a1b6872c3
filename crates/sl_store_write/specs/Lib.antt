pub mod Placing
pub mod Steps
pub mod Parts
pub mod Packs
