pub mod Defined
pub mod Laws
