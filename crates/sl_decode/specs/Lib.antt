pub mod Disassemblers
pub mod Finishing
pub mod Inputs
pub mod Outcomes
pub mod Sprouts
pub mod Walks
