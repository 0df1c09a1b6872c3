pub mod Windows
pub mod Cells
pub mod Regions
pub mod Lists
pub mod Demands
pub mod Solving
