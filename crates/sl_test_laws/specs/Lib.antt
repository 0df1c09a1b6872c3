pub mod Replacement
pub mod Conditions
pub mod Lines
pub mod Places
pub mod Origins
pub mod Blocks
pub mod Counting
