pub mod Operands
pub mod Firsts
