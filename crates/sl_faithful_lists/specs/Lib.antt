pub mod Faithful
pub mod Laws
pub mod Targets
pub mod Useful
