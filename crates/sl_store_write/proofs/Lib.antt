pub mod Puts
pub mod Levels
pub mod Inners
pub mod Backs
