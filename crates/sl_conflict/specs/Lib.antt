pub mod Ambiguity
pub mod Judged
pub mod Kept
pub mod Rows
pub mod Soundness
pub mod TableTests
