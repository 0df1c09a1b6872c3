pub mod Fields
pub mod Splits
