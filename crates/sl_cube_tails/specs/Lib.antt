pub mod Tails
pub mod Covers
