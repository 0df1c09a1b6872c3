pub mod Formed
pub mod Laws
pub mod Lengths
pub mod Placed
