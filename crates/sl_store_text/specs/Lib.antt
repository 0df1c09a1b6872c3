pub mod PackedForm
pub mod Parsed
pub mod Firsts
pub mod Lines
