pub mod Layout
pub mod Matches
