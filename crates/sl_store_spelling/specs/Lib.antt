pub mod Laws
pub mod Costs
pub mod Modes
