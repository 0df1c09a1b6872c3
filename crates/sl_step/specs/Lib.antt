pub mod Kept
pub mod Machines
pub mod Outcomes
pub mod Stages
pub mod Stands
pub mod Windows
