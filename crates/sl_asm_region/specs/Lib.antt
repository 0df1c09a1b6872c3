pub mod Left
pub mod Regions
