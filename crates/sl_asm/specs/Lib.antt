pub mod Regions
pub mod Wanted
pub mod Shortest
pub mod Assembling
