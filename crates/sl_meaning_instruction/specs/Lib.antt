pub mod Instructions
pub mod Laws
pub mod Operands
