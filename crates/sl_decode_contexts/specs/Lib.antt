pub mod AtAddress
pub mod Commits
pub mod Kept
pub mod Runs
pub mod Trees
