pub mod Tokens
pub mod Frames
pub mod OpenBits
pub mod Verdicts
pub mod FieldBits
