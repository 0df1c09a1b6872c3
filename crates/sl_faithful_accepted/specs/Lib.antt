pub mod OperandLaws
pub mod Reading
pub mod TextLaws
pub mod Laws
