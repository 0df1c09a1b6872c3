pub mod Windows
pub mod HolePoints
pub mod Covered
