pub mod Blocks
pub mod Outcomes
pub mod Readable
pub mod Steps
pub mod Temporaries
