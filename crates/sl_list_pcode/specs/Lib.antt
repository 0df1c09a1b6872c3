pub mod Laws
pub mod Listing
pub mod Names
pub mod Ready
pub mod WholeLaws
pub mod Writing
