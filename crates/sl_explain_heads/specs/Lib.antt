pub mod Words
pub mod Modes
pub mod Heads
pub mod Kinds
pub mod Laws
