pub mod Reads
pub mod Kinds
