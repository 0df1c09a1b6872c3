pub mod Choices
pub mod Choosers
pub mod Laws
