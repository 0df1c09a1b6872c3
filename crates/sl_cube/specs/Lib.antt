pub mod Bits
pub mod TopBits
pub mod Points
pub mod Cubes
pub mod Search
pub mod Tallies
